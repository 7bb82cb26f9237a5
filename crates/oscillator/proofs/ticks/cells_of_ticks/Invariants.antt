-- `cells_of_ticks` meets its contract: each turn slides three windows and writes a cell. Assumes nothing.
use Prim.Native.Nat.{◌-◌}
use Rattle.cells.specs.Line.{line}
use Rattle.cells.specs.Written.{Writing}
use Rattle.oscillator.specs.inner.Begun.{afresh}
use Rattle.oscillator.specs.inner.Sliding.{SumsOf}
use Rattle.oscillator.proofs.ticks.cells_of_ticks.Given as goal

abbrev pub invariant-loop-i : goal.invariant-loop-i
invariant-loop-i l =
    let f = line l.pressures in
    let g = line l.ranges in
    Writing l.i (afresh l.periods l.pressures l.ranges) l.fn.out l.out
    × SumsOf l.periods.short f g (l.i - 1) l.short_sums
    × SumsOf l.periods.medium f g (l.i - 1) l.medium_sums
    × SumsOf l.periods.long f g (l.i - 1) l.long_sums
