-- `write_averages` meets its contract: four rows, one after the other. Assumes nothing.
use native.Mathlib.Omega.{arith}
use Rattle.rules_triple.proofs.FourRows.{four_rows}
use Rattle.rules_triple.proofs.write_averages.Goals as goal

pub returns : goal.returns
returns c =
    four_rows c.args.series.now c.requires.1 c.min-first.ensures (omega arith)
    c.write_means_of_prices.ensures c.write_means_of_row.ensures c.write_means_of_row-2.ensures
    c.write_means_of_row-3.ensures
