-- `write_from_by_margins` meets its contract: the first position, and then each turn slides the sum, blends its mean
-- into the average and writes a position that is decided, until a bar is in doubt. Assumes nothing.
use mathlib.Core.Path.{◌≡◌, sym, ◌∙◌}
use mathlib.Core.Bool.{true}
use Prim.Native.Nat.{◌+◌, ◌-◌}
use native.Mathlib.Nat.{le_refl}
use native.Mathlib.Omega.{arith}
use borrow.Author.Rules.{rules}
use lib.Ieee.{binary64, add, sub}
use Rattle.cells.specs.Line.{line}
use Rattle.cells.proofs.Finished.{all_finished}
use Rattle.cells.proofs.Touched.{touched, touched_more}
use Rattle.rules_ema.specs.inner.ByMargins.{running_ema}
use Rattle.rules_ema.proofs.SingleEma.{lead_finished, position_finished}
use Rattle.rules_ema.proofs.Decides.{first_slid, next_slid, decided_at}
use Rattle.rules_ema.proofs.Decides.{first_running_average, next_running_average}
use Rattle.rules_ema.proofs.FinishedIf.{finished_if_all, finished_if_not}
use Rattle.rules_ema.proofs.by_margins.write_from_by_margins.Goals as goal

pub returns-then-not-is_decided : goal.returns-then-not-is_decided
returns-then-not-is_decided c =
    let inside = c.requires.inside in
    finished_if_not _ (touched_more (touched c.clear_lead.ensures.cells) (omega arith))
    c.clear_lead.ensures.cleared.rest

pub loop-i-init : goal.loop-i-init
loop-i-init c =
    let start = c.args.start in
    let n = c.args.n in
    let f = line c.args.series.now in
    let bar : start + 1 - 1 ≡ start = omega arith in
    let inside = c.requires.inside in
    let far : c.is_decided.result ≡ true = search rules in
    let average = first_running_average start n f c.requires.first in
    let position = decided_at start n f c.requires.decides average (sym c.is_decided.ensures ∙ far) (omega arith) in (
      position_finished _ _ (lead_finished _ _ _ c.clear_lead.ensures (le_refl start)) c.put_position.ensures position
          (omega arith),
      rw bar (first_slid start n f c.sum_at-sum.ensures),
      rw bar average,
    )

pub returns-then-not-is_decided-2 : goal.returns-then-not-is_decided-2
returns-then-not-is_decided-2 c =
    let done = c.loop-i.invariant.0 in
    finished_if_not _ (touched_more (touched done.cells) (omega arith)) done.cleared.rest

pub loop-i-preserved : goal.loop-i-preserved
loop-i-preserved c =
    let s = c.args.series.now in
    let start = c.args.start in
    let n = c.args.n in
    let f = line s in
    let i = c.loop-i.i in
    let before : i - 1 + 1 ≡ i = omega arith in
    let after : i + 1 - 1 ≡ i = omega arith in
    let inv = c.loop-i.invariant in
    let far : c.is_decided-in-loop-i.result ≡ true = search rules in
    let sum = add binary64 c.loop-i.sum (sub binary64 (line s i) (line s (i - n))) in
    let slid = next_slid start n f (i - 1) {y = sum} inv.1 (rw before) (omega arith) in
    let average : c.blended-average.result ≡ running_ema start n f i =
    rw before at (next_running_average start n f (i - 1) inv.2 slid
    (rw c.weight-alpha.ensures at c.blended-average.ensures) (omega arith)) in
    let position = decided_at start n f c.requires.decides average (sym c.is_decided-in-loop-i.ensures ∙ far)
    (omega arith) in (
      position_finished _ _ inv.0 c.put_position-in-loop-i.ensures position (omega arith),
      rw after (rw before at slid),
      rw after average,
    )

pub returns : goal.returns
returns c =
    let inside = c.requires.inside in
    finished_if_all _ (all_finished c.loop-i.invariant.0 (omega arith))
