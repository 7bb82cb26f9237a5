-- The deviation of a bar, as the loop finds it. Assumes nothing.
use mathlib.Core.Path.{◌≡◌}
use mathlib.Core.Bool.{true}
use mathlib.Core.List.{List}
use Prim.Native.Nat.{ℕ, ◌+◌, ◌-◌, ◌<◌, ◌≤◌}
use native.Mathlib.Omega.{arith}
use lib.ListN.{length}
use lib.Ieee.{Float, nan, binary64, sub}
use Rattle.rounding_root.specs.Root.{sqrt_of}
use Rattle.values.specs.Accepted.{accepted, all}
use Rattle.values.proofs.All.{all_at}
use Rattle.cells.specs.Line.{line, plus_zero, minus_zero}
use Rattle.cells.proofs.Line.{from_bar_lem}
use Rattle.windows.specs.Window.{sum_from, over}
use Rattle.windows.proofs.Zeros.{sums_from_either, either_accepted, either_square}
use Rattle.deviations.specs.Deviation.{square, variance, deviation}

-- a root of a variance whose sums run from -0.0: no accepted close is -0.0, and no square is
pub deviation_at : (s : List Float) (n i : ℕ) {v : Float} → all accepted s ≡ true
    → v ≡ variance minus_zero (n - 1) n (line s) i
    → (0 < n) × (n ≤ i + 1) × (i < length s)
    → sqrt_of binary64 v ≡ deviation plus_zero (n - 1) n (line s) i
unfolding deviation
deviation_at s n i ok e (p, q, r) =
    let a = i + 1 - n in
    let first = either_accepted (line s a) (all_at accepted s a ok (omega arith)) in
    let mean = over n (sum_from plus_zero (line s) a n) in
    rw (
      e,
      from_bar_lem (n - 1) nan _ i (omega arith),
      sums_from_either (line s) a n p first,
      sums_from_either (λ j. square (sub binary64 (line s j) mean)) a n p (either_square _),
    )
