-- `write_spread` meets its contract: of one close the deviation is 0.0. Assumes nothing.
use native.Mathlib.Omega.{arith}
use Rattle.cells.specs.Line.{line}
use Rattle.bands.proofs.Lines.{deviation_of_some, deviation_of_one}
use Rattle.bands.proofs.write_spread.Goals as goal

pub returns-then-n-gt1 : goal.returns-then-n-gt1
returns-then-n-gt1 c =
    let a = c.args in
    rw (deviation_of_some a.n (line a.close.now) (omega arith)) c.write_deviations.ensures

pub returns-else-n-gt1 : goal.returns-else-n-gt1
returns-else-n-gt1 c = let a = c.args in
    rw (deviation_of_one a.n (line a.close.now) (omega arith)) c.clear.ensures
