-- `write_each_width` meets its contract: the smoother reads the deviations. Assumes nothing.
use native.Mathlib.Omega.{arith}
use Rattle.cells.proofs.Parts.{through}
use Rattle.cells.proofs.Touched.{touched}
use Rattle.smoother_table.specs.Coefficients.{coefficients}
use Rattle.smoother.specs.Smoother.{smooth}
use Rattle.smoother.proofs.Smoother.{causal_smooth}
use Rattle.bands.specs.Bands.{bands_width}
use Rattle.bands.proofs.write_each_width.Goals as goal

pub returns : goal.returns
unfolding bands_width
returns c =
    let spread = c.write_spread.ensures in
    let smooth-it = through spread (omega arith) (smooth (coefficients _)) (causal_smooth _) in
    (smooth-it c.write_smooth.ensures, touched spread)
