-- `write_roots` meets its contract: each turn takes a root by the guess that stands in its cell. Assumes nothing.
use lib.Ieee.{binary64}
use Rattle.cells.specs.Line.{line}
use Rattle.cells.specs.Written.{Writing}
use Rattle.rounding_root.specs.Root.{sqrt_of}
use Rattle.rounding_root.proofs.write_roots.Given as goal

abbrev pub invariant-loop-i : goal.invariant-loop-i
invariant-loop-i l = Writing l.i (λ k. sqrt_of binary64 (line l.xs k)) l.initial.roots l.roots
