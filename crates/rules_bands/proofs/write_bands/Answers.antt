-- `write_bands` meets its contract: the means of prices, and the positions by their bands. Assumes nothing.
use native.Mathlib.Omega.{arith}
use Rattle.cells.proofs.Parts.{through}
use Rattle.cells.proofs.Touched.{touched}
use Rattle.rules_bands.specs.inner.Stages.{band_positions}
use Rattle.rules_bands.proofs.Stages.{causal_positions}
use Rattle.rules_bands.proofs.write_bands.Goals as goal

pub returns : goal.returns
unfolding band_positions
returns c =
    let a = c.args in
    let causal = causal_positions a.reverse a.n a.k in
    let written = c.write_means_of_prices.ensures in
    (through written (omega arith) _ causal c.write_positions.ensures, touched written)
