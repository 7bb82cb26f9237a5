-- `write_jv` meets its contract: each turn writes a cell over its own value, and keeps that for the next one. Assumes
-- nothing.
use mathlib.Core.Path.{refl}
use native.Mathlib.Omega.{arith}
use native.Mathlib.Numerals.{add-one}
use lib.Ieee.{of_bits}
use Rattle.cells.proofs.Written.{none_written, one_more}
use Rattle.cells.proofs.Leads.{not_yet}
use Rattle.changes.specs.Changes.{earlier}
use Rattle.jurik.proofs.Stages.{jv_is}
use Rattle.jurik.proofs.write_jv.Goals as goal

pub loop-i-init : goal.loop-i-init
loop-i-init c = unfold of_bits earlier in (none_written, refl)

pub loop-i-preserved : goal.loop-i-preserved
unfolding earlier
loop-i-preserved c =
    let stood = not_yet c.loop-i.i c.loop-i.invariant.0 (omega arith) in
    let cell = jv_is _ _ _ c.jv_at.ensures c.loop-i.invariant.1 stood in
    (one_more c.loop-i.invariant.0 cell (omega arith), rw add-one stood)
