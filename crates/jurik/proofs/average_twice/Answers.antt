-- `average_twice` meets its contract: each turn blends the bar's size into one average, and that into the other.
-- Assumes nothing.
use mathlib.Core.Path.{sym}
use mathlib.Core.Bool.{true≢false}
use native.Mathlib.Omega.{arith}
use lib.Ieee.{of_bits}
use lib.ListN.{length}
use Rattle.cells.specs.Line.{line}
use Rattle.cells.proofs.Written.{one_more}
use Rattle.cells.proofs.Leads.{lead_stands, lead_then}
use Rattle.jurik.specs.Jurik.{price_change, jv}
use Rattle.jurik.specs.inner.Passes.{blended_once, blended_twice}
use Rattle.jurik.proofs.Fused.{begun, begun_twice, at_last, next_blend, jv_later, other_more}
use Rattle.jurik.proofs.average_twice.Goals as goal

pub loop-i-init : goal.loop-i-init
unfolding jv of_bits
loop-i-init c =
    let a = c.args in
    let f = price_change (line a.close.now) in
    let i = c.fill_lead-start.result in
    let first = c.price_change_at-first.ensures in (
      lead_stands _ c.fill_lead-start.ensures,
      begun a.alpha f i first (omega arith),
      begun_twice a.alpha f i first (omega arith),
      λ e. absurd (true≢false (sym e)),
    )

pub loop-i-preserved : goal.loop-i-preserved
loop-i-preserved c =
    let a = c.args in
    let f = price_change (line a.close.now) in
    let average = blended_once a.alpha f in
    let i = c.loop-i.i in
    let inv = c.loop-i.invariant in
    let smooth1_is = next_blend a.alpha f i inv.1 c.price_change_at.ensures c.blended-smooth1.ensures
    (omega arith) in
    let smooth2_is = next_blend a.alpha average i inv.2 smooth1_is c.blended-smooth2.ensures (omega arith) in
    let cell = jv_later a.power (blended_twice a.alpha f) i c.jv_of.ensures inv.2 smooth2_is
    (omega arith) in (
      one_more inv.0 cell (omega arith),
      at_last average i smooth1_is,
      at_last (blended_twice a.alpha f) i smooth2_is,
      other_more a.alpha f i (length a.close.now) inv.3 c.price_change_at-first.ensures smooth1_is
          c.differing-differ.ensures
          (omega arith),
    )

pub returns : goal.returns
returns c =
    let lead = c.fill_lead-start.ensures in
    record { cells = lead_then lead c.loop-i.invariant.0 (omega arith); other = c.loop-i.invariant.3 }
