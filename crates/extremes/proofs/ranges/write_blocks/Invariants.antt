-- `write_blocks` meets its contract: each turn writes a block's windows after those before. Assumes nothing.
use Prim.Native.Nat.{◌+◌, ◌≤◌, min}
use lib.ListN.{length}
use Rattle.extremes.specs.inner.Windows.{Whole}
use Rattle.extremes.specs.inner.Part.{Replacing}
use Rattle.extremes.proofs.ranges.write_blocks.Given as goal

abbrev pub invariant-loop-e : goal.invariant-loop-e
invariant-loop-e l =
    (l.n ≤ l.e + 1) × (length l.cells + length l.cells ≤ length l.initial.rows)
    × Replacing (length l.cells) 0 (min l.e (length l.cells)) (Whole l.cells l.n) l.initial.rows l.rows
