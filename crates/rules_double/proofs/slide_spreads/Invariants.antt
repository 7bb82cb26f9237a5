-- `slide_spreads` meets its contract: each turn moves both sums on by two bars and writes their signs; then at most one
-- bar is left. Assumes nothing.
use mathlib.Core.Path.{◌≡◌}
use Prim.Native.Nat.{◌+◌, ◌*◌}
use lib.Ieee.{binary64, of_int}
use Rattle.cells.specs.Line.{line}
use Rattle.cells.specs.Written.{Writing}
use Rattle.rules_double.specs.Double.{double_line}
use Rattle.rules_double.specs.inner.Ticks.{ticks_of, spread}
use Rattle.rules_double.proofs.Spread.{InParts}
use Rattle.rules_double.proofs.slide_spreads.Given as goal

abbrev pub invariant-loop-k : goal.invariant-loop-k
invariant-loop-k l =
    InParts l.n l.m (ticks_of l.series) (l.m + 2 * l.k) l.even l.last
    × (l.odd ≡ of_int binary64 (spread l.n l.m (ticks_of l.series) (l.m + 2 * l.k)))
    × Writing (l.m + 2 * l.k) (double_line l.n l.m (line l.series)) l.initial.out l.out
