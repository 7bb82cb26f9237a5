-- `write_jurik` meets its contract: the third pass after the first two, or all of them one by one. Assumes nothing.
use mathlib.Core.Path.{◌≡◌}
use Prim.Native.Nat.{◌/◌}
use native.Mathlib.Omega.{arith}
use lib.ListN.{length}
use Rattle.cells.specs.Line.{line, plus_zero}
use Rattle.cells.specs.Search.{non_zero}
use Rattle.cells.proofs.Touched.{written_over_all}
use Rattle.cells.proofs.Written.{writing_same}
use Rattle.averages.specs.Blend.{ema_alpha}
use Rattle.jurik.specs.inner.Passes.{tested}
use Rattle.jurik.proofs.Fused.{averages_then}
use Rattle.jurik.proofs.Stages.{next_stage, local_tested}
use Rattle.jurik.proofs.write_jurik.Goals as goal

pub returns-then-write_averaged_jv : goal.returns-then-write_averaged_jv
returns-then-write_averaged_jv c =
    let a = c.args in
    let l = length a.close.now in
    let averages = c.write_averaged_jv.ensures in
    let yes = c.if-write_averaged_jv.true in
    let last = tested non_zero plus_zero (ema_alpha (a.n / 3)) l in
    let long : length c.write_averaged_jv.new.out ≡ l = omega arith in
    writing_same
    (next_stage last (local_tested _ _ _ l) (averages.cells yes) (rw long at c.third_pass.ensures) (omega arith))
    (λ i h. averages_then l a.n a.power (line a.close.now) (averages.first yes) (averages.second yes) i)

pub returns-else-write_averaged_jv : goal.returns-else-write_averaged_jv
returns-else-write_averaged_jv c = written_over_all c.write_averaged_jv.ensures.used c.write_passes.ensures
