-- `write_from` meets its contract: the first position, and then each turn blends the bar's mean, which still stands,
-- into the average and writes a position. Assumes nothing.
use mathlib.Core.Path.{◌≡◌, refl, ◌∙◌}
use Prim.Native.Nat.{◌+◌, ◌-◌}
use native.Mathlib.Nat.{le_refl}
use native.Mathlib.Omega.{arith}
use lib.Ieee.{nan}
use Rattle.cells.specs.Line.{line}
use Rattle.cells.proofs.Leads.{not_yet}
use Rattle.cells.proofs.Written.{read_back}
use Rattle.windows.specs.Window.{mean}
use Rattle.rules_ema.specs.SingleEma.{ema_of_means}
use Rattle.rules_ema.proofs.SingleEma.{first_average, next_average, position_at, lead_finished, position_finished}
use Rattle.rules_ema.proofs.write_from.Goals as goal

pub loop-i-init : goal.loop-i-init
loop-i-init c =
    let start = c.args.start in
    let bar : start + 1 - 1 ≡ start = omega arith in
    let inside = c.requires.inside in
    let average = first_average start c.args.n (line c.args.series.now) c.requires.first in (
      position_finished _ _ (lead_finished _ _ _ c.clear_lead.ensures (le_refl start)) c.put_position.ensures
          (position_at _ _ _ start average refl (le_refl start)) (omega arith),
      rw bar average,
    )

pub loop-i-preserved : goal.loop-i-preserved
loop-i-preserved c =
    let start = c.args.start in
    let n = c.args.n in
    let f = line c.args.series.now in
    let i = c.loop-i.i in
    let before : i - 1 + 1 ≡ i = omega arith in
    let after : i + 1 - 1 ≡ i = omega arith in
    let done = c.loop-i.invariant.0 in
    let mean_is : line c.loop-i.out i ≡ mean n f i =
    not_yet i done.cells (omega arith) ∙ read_back i nan c.requires.means.means (omega arith) in
    let average : c.blended-average.result ≡ ema_of_means start n f i =
    rw before at (next_average start n f (i - 1) c.loop-i.invariant.1 (rw before mean_is)
    (rw c.weight-alpha.ensures at c.blended-average.ensures) (omega arith)) in (
      position_finished _ _ done c.put_position-in-loop-i.ensures (position_at _ _ _ i average refl (omega arith))
          (omega arith),
      rw after average,
    )
