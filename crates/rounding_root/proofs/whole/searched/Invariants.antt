-- `searched` meets its contract: each turn halves the range, which keeps the closest root. Assumes nothing.
use Prim.Native.Nat.{◌-◌}
use Rattle.rounding_root.proofs.Search.{Span}
use Rattle.rounding_root.proofs.whole.searched.Given as goal

abbrev pub invariant-loop-lo : goal.invariant-loop-lo
invariant-loop-lo l = Span l.m l.lo l.hi

abbrev pub decreases-loop-lo : goal.decreases-loop-lo
decreases-loop-lo l = l.hi - l.lo
