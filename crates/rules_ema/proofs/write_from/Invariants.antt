-- `write_from` meets its contract: each turn writes a position and blends the next bar's mean, which still stands,
-- into the average. Assumes nothing.
use mathlib.Core.Path.{◌≡◌}
use Prim.Native.Nat.{◌-◌}
use lib.ListN.{length}
use Rattle.cells.specs.Line.{line}
use Rattle.cells.specs.inner.Finished.{Finished}
use Rattle.rules_ema.specs.SingleEma.{ema_of_means, single_ema_from}
use Rattle.rules_ema.proofs.write_from.Given as goal

abbrev pub invariant-loop-i : goal.invariant-loop-i
invariant-loop-i l =
    Finished (single_ema_from l.start l.n (line l.series)) (length l.series) l.i l.fn.out l.out l.fn.work l.work
    × (l.average ≡ ema_of_means l.start l.n (line l.series) (l.i - 1))
