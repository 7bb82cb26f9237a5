-- `write_some` meets its contract: each turn reads a bar's mean, middle and variance, and writes its cell. Assumes
-- nothing.
use Prim.Native.Nat.{◌+◌}
use Rattle.cells.specs.Line.{line}
use Rattle.cells.specs.Written.{Writing}
use Rattle.rules_tanh.specs.Tanh.{tanh_of_means}
use Rattle.rules_tanh.proofs.write_some.Given as goal

abbrev pub invariant-loop-j : goal.invariant-loop-j
invariant-loop-j l = Writing (l.i + l.j) (tanh_of_means l.n (line l.means)) l.initial.out l.out
