-- `write_changes` meets its contract: three rows, one after the other. Assumes nothing.
use native.Mathlib.Omega.{arith}
use Rattle.rules_rsi.proofs.Rows.{three_rows}
use Rattle.changes.specs.Changes.{gain, loss}
use Rattle.rules_rsi.proofs.write_changes.Goals as goal

pub returns : goal.returns
returns c =
    let a = c.args in
    three_rows a.n a.series.now (omega arith) c.write_means_of_prices.ensures
    (c.write_parts.ensures gain (λ x y p. p)) (c.write_parts-2.ensures loss (λ x y p. p))
