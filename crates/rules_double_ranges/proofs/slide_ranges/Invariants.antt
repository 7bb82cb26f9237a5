-- `slide_ranges` meets its contract: the first cell, and then each turn moves the sums on and writes one. Assumes
-- nothing.
use Prim.Native.Nat.{◌-◌}
use Rattle.cells.specs.Line.{line}
use Rattle.cells.specs.Written.{Writing}
use Rattle.rules_double.specs.inner.Ticks.{ticks_of}
use Rattle.rules_double_ranges.specs.Ranges.{ranges_line}
use Rattle.rules_double_ranges.specs.inner.Stages.{SumsAt}
use Rattle.rules_double_ranges.proofs.slide_ranges.Given as goal

abbrev pub invariant-loop-i : goal.invariant-loop-i
invariant-loop-i l =
    Writing l.i (ranges_line l.n l.m (line l.low) (line l.high)) l.fn.out l.out
    × SumsAt l.n l.m (ticks_of l.low) (l.i - 1) l.lows.short l.lows.old
    × SumsAt l.n l.m (ticks_of l.high) (l.i - 1) l.highs.short l.highs.old
