-- `write_passes` meets its contract: the stages one after the other in the output. Assumes nothing.
use mathlib.Core.Path.{◌≡◌}
use Prim.Native.Nat.{◌/◌}
use native.Mathlib.Omega.{arith}
use lib.ListN.{length}
use lib.Ieee.{nan, of_bits}
use Rattle.cells.specs.Line.{plus_zero}
use Rattle.cells.specs.Search.{non_zero}
use Rattle.averages.specs.Blend.{ema_alpha}
use Rattle.jurik.specs.Jurik.{is_number, smooth1, smooth2, jv, jurik_with, jurik_line}
use Rattle.jurik.specs.inner.Passes.{tested}
use Rattle.jurik.proofs.Causal.{causal_jv}
use Rattle.jurik.proofs.Stages.{next_stage, local_causal, local_tested}
use Rattle.jurik.proofs.write_passes.Goals as goal

pub returns : goal.returns
unfolding jurik_line jurik_with smooth1 smooth2 of_bits
returns c =
    let a = c.args in
    let l = length a.close.now in
    let alpha1 = ema_alpha (a.n / 2) in
    let numbers = tested is_number nan alpha1 l in
    let locally = local_tested is_number nan alpha1 l in
    let long1 : length c.write_price_changes.new.out ≡ l = omega arith in
    let long2 : length c.pass.new.cells ≡ l = omega arith in
    let long3 : length c.pass-2.new.cells ≡ l = omega arith in
    let long4 : length c.write_jv.new.cells ≡ l = omega arith in
    let one = next_stage numbers locally c.write_price_changes.ensures (rw long1 at c.pass.ensures) (omega arith) in
    let two = next_stage numbers locally one (rw long2 at c.pass-2.ensures) (omega arith) in
    let three = next_stage (jv a.power) (local_causal l (causal_jv a.power)) two (rw long3 at c.write_jv.ensures)
    (omega arith) in
    next_stage (tested non_zero plus_zero (ema_alpha (a.n / 3)) l) (local_tested _ _ _ l) three
    (rw long4 at c.third_pass.ensures) (omega arith)
