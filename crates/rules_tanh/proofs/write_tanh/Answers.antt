-- `write_tanh` meets its contract: the means of prices, and the cells by them. Assumes nothing.
use native.Mathlib.Omega.{arith}
use Rattle.cells.proofs.Parts.{through}
use Rattle.cells.proofs.Touched.{touched}
use Rattle.rules_tanh.proofs.Cells.{causal_of_means}
use Rattle.rules_tanh.proofs.write_tanh.Goals as goal

pub returns : goal.returns
returns c =
    let n = c.args.n in
    let written = c.write_means_of_prices.ensures in
    (through written (omega arith) _ (causal_of_means n) c.write_by_means.ensures, touched written)
