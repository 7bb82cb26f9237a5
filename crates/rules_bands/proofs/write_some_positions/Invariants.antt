-- `write_some_positions` meets its contract: each turn reads a bar's mean, middle and variance, makes the
-- position of the one before it, and writes that. Assumes nothing.
use Prim.Native.Nat.{◌+◌}
use Rattle.cells.specs.Line.{line}
use Rattle.cells.specs.Written.{Writing}
use Rattle.cells.specs.inner.Recurring.{Recurring}
use Rattle.rules_held.specs.Held.{flat}
use Rattle.rules_bands.specs.inner.Stages.{position_step, band_positions}
use Rattle.rules_bands.proofs.write_some_positions.Given as goal

abbrev pub invariant-loop-j : goal.invariant-loop-j
invariant-loop-j l =
    Writing (l.i + l.j) (band_positions l.reverse l.n l.k (line l.means)) l.initial.out l.out
    × Recurring flat (position_step l.reverse l.n l.k (line l.means)) (l.i + l.j) l.position
