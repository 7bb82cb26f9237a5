-- `write_single_of_means` meets its contract: the means, their means, and the positions over these. Assumes nothing.
use mathlib.Core.Path.{ap}
use native.Mathlib.Omega.{arith}
use lib.Ieee.{nan}
use Rattle.cells.specs.Line.{plus_zero}
use Rattle.cells.proofs.Carried.{from_same}
use Rattle.cells.proofs.Parts.{through}
use Rattle.cells.proofs.Touched.{touched, touched_more}
use Rattle.cells.proofs.Written.{then_written, writing_same, read_back}
use Rattle.windows.specs.Window.{mean}
use Rattle.windows.proofs.Window.{causal_mean}
use Rattle.rules_single.specs.Single.{against_mean, single_line}
use Rattle.rules_single.proofs.write_single_of_means.Goals as goal

pub returns : goal.returns
unfolding single_line
returns c =
    let doubled = through c.write_means.ensures (omega arith) (mean _) (causal_mean _)
    c.write_means-2.ensures in
    let positions = then_written doubled c.write_against_means.ensures (omega arith) in (
      writing_same positions
          (λ i l. from_same _ plus_zero _ _ i (λ b. ap (against_mean _) (read_back i nan doubled (omega arith)))),
      touched_more (touched c.write_means.ensures) (omega arith),
    )
