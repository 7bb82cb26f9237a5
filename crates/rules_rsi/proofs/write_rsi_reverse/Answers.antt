-- `write_rsi_reverse` meets its contract: the positions are read from the indexes in the first row. Assumes nothing.
use native.Mathlib.Omega.{arith}
use Rattle.cells.proofs.Parts.{through}
use Rattle.cells.proofs.Touched.{touched, touched_then, touched_more}
use Rattle.rules_rsi.specs.RsiReverse.{turned, rsi_reverse_line}
use Rattle.rules_rsi.proofs.Index.{causal_turned}
use Rattle.rules_rsi.proofs.write_rsi_reverse.Goals as goal

pub returns : goal.returns
unfolding rsi_reverse_line
returns c =
    let a = c.args in
    let indexes = c.write_indexes.ensures in
    let positions = through indexes (omega arith) (turned a.upper a.lower a.exit) (causal_turned _ _ _) in (
      positions c.write_turned.ensures,
      touched_then c.write_changes.ensures.1 (touched_more (touched indexes) (omega arith)),
    )
