-- `write_roots` meets its contract: each turn takes a root by the guess that stands in its cell. Assumes nothing.
use native.Mathlib.Omega.{arith}
use Rattle.cells.proofs.Written.{one_more, ends}
use Rattle.cells.proofs.Touched.{written_over_all}
use Rattle.rounding_root.proofs.write_roots.Goals as goal

pub loop-i-preserved : goal.loop-i-preserved
loop-i-preserved c =
    let guessed = c.write_guesses.ensures in
    one_more c.loop-i.invariant c.root_by.ensures (omega (arith, guessed.long))

pub returns : goal.returns
returns c = written_over_all c.write_guesses.ensures (ends c.loop-i.invariant (omega arith))
