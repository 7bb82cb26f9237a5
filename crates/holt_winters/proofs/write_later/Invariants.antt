-- `write_later` meets its contract: each turn makes a bar from the bar before it and from the seasonal part one season
-- before it, which the last row of work cells has. Assumes nothing.
use mathlib.Core.Path.{◌≡◌}
use Prim.Native.Nat.{◌-◌}
use lib.ListN.{length}
use Rattle.cells.specs.Line.{line}
use Rattle.holt_winters.specs.HoltWinters.{fit_line}
use Rattle.holt_winters.specs.inner.Stages.{Smoothed}
use Rattle.holt_winters.proofs.write_later.Given as goal

abbrev pub invariant-loop-i : goal.invariant-loop-i
invariant-loop-i l =
    (l.last ≡ fit_line l.m l.w (line l.series) (l.i - 1))
    × Smoothed l.m l.w (line l.series) (length l.series) l.i l.initial.out l.out l.initial.work l.work
