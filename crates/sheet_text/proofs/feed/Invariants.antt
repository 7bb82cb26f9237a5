-- `feed` meets its contract: each step goes onward, and the last one leaves too few bytes for a line. Assumes nothing.
use Prim.Native.Nat.{◌-◌}
use lib.ListN.{length}
use Rattle.sheet_text.proofs.Feeding.{Feeding}
use Rattle.sheet_text.proofs.feed.Given as goal

abbrev pub invariant-loop-place : goal.invariant-loop-place
invariant-loop-place l =
    Feeding l.block l.initial.place l.initial.series l.initial.work l.initial.text l.place l.series l.out l.work l.text

abbrev pub decreases-loop-place : goal.decreases-loop-place
decreases-loop-place l = length l.block - l.place.at
