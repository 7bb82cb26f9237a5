-- `write_guesses` meets its contract: each turn sets one of the first cells. Assumes nothing.
use Rattle.cells.specs.inner.Touched.{Touched}
use Rattle.rounding_root.proofs.write_guesses.Given as goal

abbrev pub invariant-loop-i : goal.invariant-loop-i
invariant-loop-i l = Touched l.count l.initial.guesses l.guesses
