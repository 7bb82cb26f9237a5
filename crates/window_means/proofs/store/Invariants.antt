-- `store` meets its contract: each turn stores one lane. Assumes nothing.
use Rattle.std.proofs.Common.{◌≡◌, ◌+◌, length}
use lib.ListN.{drop}
use Rattle.window_means.specs.inner.Storing.{stored}
use Rattle.window_means.proofs.store.Given as goal

abbrev pub invariant-loop-lane : goal.invariant-loop-lane
invariant-loop-lane g l =
    (length l.means ≡ length l.initial.means)
    × (stored l.means (l.at + l.lane) (drop l.lane l.lanes) ≡ stored l.initial.means l.at l.lanes)
