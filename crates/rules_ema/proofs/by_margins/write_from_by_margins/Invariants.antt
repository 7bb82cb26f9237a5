-- `write_from_by_margins` meets its contract: each turn writes a position that is decided, slides the sum and blends
-- its mean into the average, until a bar is in doubt. Assumes nothing.
use mathlib.Core.Path.{◌≡◌}
use Prim.Native.Nat.{◌-◌}
use lib.ListN.{length}
use Rattle.cells.specs.Line.{line}
use Rattle.cells.specs.inner.Finished.{Finished}
use Rattle.rules_ema.specs.SingleEma.{single_ema_from}
use Rattle.rules_ema.specs.inner.ByMargins.{slid_from, running_ema}
use Rattle.rules_ema.proofs.by_margins.write_from_by_margins.Given as goal

abbrev pub invariant-loop-i : goal.invariant-loop-i
invariant-loop-i l =
    Finished (single_ema_from l.start l.n (line l.series)) (length l.series) l.i l.fn.out l.out l.fn.work l.work
    × (l.sum ≡ slid_from l.start l.n (line l.series) (l.i - 1))
    × (l.average ≡ running_ema l.start l.n (line l.series) (l.i - 1))
