-- `write_rsx` meets its contract: the smoother reads the index from the first row. Assumes nothing.
use native.Mathlib.Omega.{arith}
use Rattle.cells.proofs.Parts.{through}
use Rattle.cells.proofs.Touched.{touched}
use Rattle.smoother_table.specs.Coefficients.{coefficients}
use Rattle.smoother.specs.Smoother.{smooth}
use Rattle.smoother.proofs.Smoother.{causal_smooth}
use Rattle.rsx.specs.Rsx.{rsx_line}
use Rattle.rsx.proofs.write_rsx.Goals as goal

pub returns : goal.returns
unfolding rsx_line
returns c =
    let index = c.write_index.ensures in
    let smooth-it = through index (omega arith) (smooth (coefficients _)) (causal_smooth _) in
    (smooth-it c.write_smooth.ensures, touched index)
