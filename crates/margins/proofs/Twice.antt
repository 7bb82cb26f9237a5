-- Prices averaged twice by running sums, and what the average decides. Assumes nothing.
use mathlib.Core.Path.{◌≡◌}
use mathlib.Core.Bool.{true, false}
use mathlib.Core.List.{List}
use Prim.Native.Nat.{ℕ, ◌+◌, ◌*◌, ◌^◌, ◌<◌, ◌≤◌}
use native.Mathlib.Nat.{le_refl, le_trans, mul-le-mul_left, mul-le-mul_right}
use native.Mathlib.Omega.{arith}
use lib.Dec.{T}
use lib.IntN.{nat_abs, ◌-ℤ◌}
use lib.ListN.{length}
use lib.Ieee.{Float, binary64, sub, lt, eq, fits}
use Rattle.rounding.specs.Leaves.{sign_of}
use Rattle.rounding.specs.Nearest.{in_units, signed_units}
use Rattle.rounding_laws.proofs.Integers.{abs_same}
use Rattle.limits.specs.Limits.{Window, longest_series}
use Rattle.values.specs.Accepted.{accepted, all}
use Rattle.values.proofs.All.{and_parts}
use Rattle.cells.specs.Line.{line, plus_zero}
use Rattle.windows.specs.Window.{mean}
use Rattle.windows.specs.inner.Means.{running_means}
use Rattle.margins.specs.inner.Margin.{largest_of, margin_of, far}
use Rattle.margins.proofs.Relative.{roof, widest, longest_summed}
use Rattle.margins.proofs.Sums.{Windowed}
use Rattle.margins.proofs.Means.{spread, running_means_small, means_small, running_means_near}
use Rattle.margins.proofs.Signs.{near_sign, near_some}
use Rattle.margins.proofs.Bound.{Largest, largest_is, room_for, margin_wide}

-- twice the error of both averagings is less than the margin
wide_enough : (m u : ℕ) → m * 6 + 2 ^ 60 ≤ u * 2 ^ 34 → spread (3 * m + 1) (spread m 0) * 2 ≤ u * 2 ^ 53
wide_enough m u h =
    let l : (m * 6 + 2 ^ 60) * 2 ^ 19 ≤ u * 2 ^ 34 * 2 ^ 19 = mul-le-mul_right (2 ^ 19) h in
    le_trans (go m) (le_trans l (omega arith))
  where
    go : (m : ℕ) → spread (3 * m + 1) (spread m 0) * 2 ≤ (m * 6 + 2 ^ 60) * 2 ^ 19
    go m = omega arith

-- a mean is at most three times the largest cell and a unit
thrice : (m : ℕ) → m * (2 ^ 33 + 1) + 2 ^ 33 ≤ (3 * m + 1) * 2 ^ 33
thrice m = omega arith

-- accepted prices, and a window
module _ (s : List Float) (n : ℕ) (ok : all accepted s ≡ true) (floats : (j : ℕ) → T (fits binary64 (line s j)))
    (w : Window n) (B : length s ≤ longest_series) where
  abbrev most : Float
  most = largest_of (line s) (length s)

  abbrev m : ℕ
  m = in_units binary64 most

  pub known : Largest (line s) (length s) most
  known = largest_is s ok floats (length s) (le_refl _)

  -- the laws of running sums reach as far as the limits
  narrow : n ≤ widest
  narrow = omega (arith, w.narrow)

  short : length s ≤ longest_summed
  short = omega (arith, B)

  pub prices : Windowed m n (length s) (line s)
  prices =
      let r = room_for m n known.low narrow in
      let k : m ≤ m + 1 = omega arith in
      record { small = known.small; some = w.some; narrow = narrow; room = omega (arith, mul-le-mul_left n k) }

  room_twice : 2 * (n * (3 * m + 1)) < roof
  room_twice =
      let r = room_for m n known.low narrow in
      let k : 3 * m + 1 ≤ 3 * (m + 1) = omega arith in
      omega (arith, mul-le-mul_left n k)

  pub running_windowed : Windowed (3 * m + 1) n (length s) (running_means n (line s))
  running_windowed = record {
    small = running_means_small prices prices short (3 * m + 1) (thrice m);
    some = w.some;
    narrow = narrow;
    room = room_twice;
  }

  pub means_windowed : Windowed (3 * m + 1) n (length s) (mean n (line s))
  means_windowed = record {
    small = means_small prices prices short (3 * m + 1) (thrice m);
    some = w.some;
    narrow = narrow;
    room = room_twice;
  }

  -- the means are close
  pub once_near : (i : ℕ) → i < length s
      → nat_abs (signed_units binary64 (running_means n (line s) i) -ℤ signed_units binary64 (mean n (line s) i)) * 2
      ^ 53
      ≤ spread m 0
  once_near =
      running_means_near prices prices short 0 (λ j l. omega (arith, abs_same (signed_units binary64 (line s j))))

  -- the law: so are their averages
  twice_near : (i : ℕ) → i < length s
      → nat_abs (signed_units binary64 (running_means n (running_means n (line s)) i)
      -ℤ signed_units binary64 (mean n (mean n (line s)) i)) * 2 ^ 53 ≤ spread (3 * m + 1) (spread m 0)
  twice_near = running_means_near means_windowed running_windowed short (spread m 0) once_near

  -- where price and average are farther apart than the margin, and the average and 0
  pub decided_twice : (i : ℕ) → i < length s
      → let q = running_means n (running_means n (line s)) i in
      let q' = mean n (mean n (line s)) i in
      far (margin_of most) (line s i) q ≡ true
      → (sign_of (sub binary64 (line s i) q) ≡ sign_of (sub binary64 (line s i) q'))
      × (eq q plus_zero ≡ false) × (eq q' plus_zero ≡ false)
  decided_twice i h e =
      let (apart, some) = and_parts (lt (margin_of most) _) (lt (margin_of most) _) e in
      let (u, g, k) = margin_wide known.plus known.low in
      let a = running_means_small means_windowed running_windowed short (3 * (3 * m + 1) + 1) (thrice (3 * m + 1)) in
      let b = means_small means_windowed running_windowed short (3 * (3 * m + 1) + 1) (thrice (3 * m + 1)) in
      let near = twice_near i h in
      let size = a.size i h in
      let price = known.small.size i h in
      let N = w.some in
      let r = room_for m n known.low narrow in
      let one : m + 1 ≤ n * (m + 1) = omega (arith, mul-le-mul_right (m + 1) N) in
      let half : nat_abs (signed_units binary64 (running_means n (running_means n (line s)) i)
      -ℤ signed_units binary64 (mean n (mean n (line s)) i)) * 2 ≤ u = omega (arith, wide_enough m u k) in
      let zeros = near_some g (a.number i h) (b.number i h) half some in (
        near_sign g (a.number i h) (b.number i h) half (known.small.number i h) (omega arith) apart,
        zeros.0,
        zeros.1,
      )
