-- `average_twice` meets its contract: each turn blends the bar's size into one average, and that into the other.
-- Assumes nothing.
use mathlib.Core.Path.{◌≡◌}
use mathlib.Core.Bool.{true}
use Prim.Native.Nat.{◌-◌}
use lib.ListN.{length}
use Rattle.cells.specs.Line.{line}
use Rattle.cells.specs.Written.{Writing}
use Rattle.jurik.specs.Jurik.{price_change, jv}
use Rattle.jurik.specs.inner.Passes.{Other, blended_once, blended_twice}
use Rattle.jurik.proofs.average_twice.Given as goal

abbrev pub invariant-loop-i : goal.invariant-loop-i
invariant-loop-i l =
    let f = price_change (line l.close) in
    Writing l.i (jv l.power (blended_twice l.alpha f)) l.initial.out l.out
    × (l.smooth1 ≡ blended_once l.alpha f (l.i - 1))
    × (l.smooth2 ≡ blended_twice l.alpha f (l.i - 1))
    × (l.differ ≡ true → Other (length l.close) (blended_once l.alpha f))
