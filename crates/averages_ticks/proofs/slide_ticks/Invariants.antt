-- `slide_ticks` meets its contract: each turn takes a tick in, writes the mean, and lets the oldest tick go. Assumes
-- nothing.
use Prim.Native.Nat.{◌+◌, ◌-◌}
use Rattle.cells.specs.Line.{line}
use Rattle.cells.specs.Written.{Writing}
use Rattle.averages_ticks.specs.TickMean.{tick_mean_line}
use Rattle.averages_ticks.specs.inner.Ticks.{TickSum}
use Rattle.averages_ticks.proofs.slide_ticks.Given as goal

abbrev pub invariant-loop-i : goal.invariant-loop-i
invariant-loop-i l =
    Writing l.i (tick_mean_line l.n (line l.series)) l.initial.out l.out
    × TickSum l.series (l.i + 1 - l.n) (l.n - 1) l.rest
