-- Sums, means and extremes of accepted prices are finite: their magnitudes stay within whole bounds. Assumes nothing.
use mathlib.Core.Path.{◌≡◌, refl, sym, subst}
use mathlib.Core.Bool.{Bool, true, false, cond}
use mathlib.Core.List.{List}
use Prim.Native.Nat.{ℕ, zero, suc, ◌+◌, ◌-◌, ◌*◌, ◌^◌, ◌<◌, ◌≤◌}
use native.Mathlib.Nat.{add-zero, le_refl}
use native.Mathlib.Omega.{arith}
use lib.Dec.{T, leb, leb→le}
use lib.IntN.{pos}
use lib.ListN.{length, take}
use lib.Ieee.{Float, nan, inf, fin, lt, eq, le}
use Rattle.values.specs.Accepted.{within, accepted, all}
use Rattle.values.proofs.All.{and_parts, all_at}
use Rattle.cells.specs.Line.{Line, line, plus_zero, minus_zero, from_bar}
use Rattle.cells.specs.Recur.{recur}
use Rattle.windows.specs.Window.{sum_from, window_sum, mean, running_sum, add_then_subtract}
use Rattle.extremes.specs.Extreme.{larger, smaller, pick_from, extreme}
use Rattle.rounding_laws.proofs.Bounds.{
  AtMost,
  add_at_most,
  div_at_most,
  either,
  le_minus,
  le_plus,
  sub_at_most,
  zero_at_most,
  at_most_number,
}
use Rattle.cells.proofs.Parts.{part_long}
use Rattle.cells.specs.Written.{Writing}
use Rattle.extremes.proofs.Parts.{part_numbers}
use Rattle.extremes.specs.inner.Best.{Numbers}
use Rattle.extremes.specs.inner.Blocks.{Room}
use Rattle.limits.specs.Limits.{Window, longest_series}

-- ---- accepted prices

near_at_most : (x : Float) → T (le (fin true 1 (pos 30)) x) → T (le x (fin false 1 (pos 30))) → AtMost (2 ^ 30) x
unfolding le lt eq
near_at_most nan p q = absurd q
near_at_most (inf true) p q = absurd p
near_at_most (inf false) p q = absurd q
near_at_most (fin false m e) p q =
    let l = le_plus m e 1 (pos 30) q in
    record { sign = false; digits = m; place = e; is = refl; size = omega arith }
near_at_most (fin true m e) p q =
    let l = le_minus m e 1 (pos 30) p in
    record { sign = true; digits = m; place = e; is = refl; size = omega arith }

accepted_at_most : (x : Float) → accepted x ≡ true → AtMost (2 ^ 30) x
unfolding accepted
accepted_at_most x e =
    let (p, q) = and_parts (le (fin true 1 (pos 30)) x) (le x (fin false 1 (pos 30)))
    (and_parts (within 30 x) _ e).0 in
    near_at_most x (subst T (sym p) tt) (subst T (sym q) tt)

-- ---- sums, means and extremes of a line

-- what holds of 0.0 and from bar c on
pub from_bar_holds : (P : Float → Type 0) (c : ℕ) (g : Line) (i : ℕ) → P plus_zero → (c ≤ i → P (g i))
    → P (from_bar c plus_zero g i)
unfolding from_bar
from_bar_holds P c g i z h = go (leb c i) (leb→le c i)
  where
    go : (t : Bool) → (T t → c ≤ i) → P (cond t (g i) plus_zero)
    go true k = h (k tt)
    go false k = z

-- the cells of f up to bar i are at most b
abbrev pub Bounded : ℕ → Line → ℕ → Type 0
Bounded b f i = (j : ℕ) → j ≤ i → AtMost b (f j)

-- prices are within 1,073,741,824
pub prices_bounded : (s : List Float) (i : ℕ) → all accepted s ≡ true → i < length s → Bounded (2 ^ 30) (line s) i
prices_bounded s i e h j l = accepted_at_most (line s j) (all_at accepted s j e (omega arith))

module _ (b : ℕ) (f : Line) (i : ℕ) (h : Bounded b f i) where
  sum_bounded : (a k : ℕ) → (k * b ≤ 2 ^ 53) × (a + k ≤ i + 1) → AtMost (k * b) (sum_from minus_zero f a k)
  unfolding sum_from
  sum_bounded a zero r = zero_at_most _ true
  sum_bounded a (suc k) r = add_at_most (sum_bounded a k (omega arith)) (h (a + k) (omega arith)) (omega arith)

  pub running_bounded : (n k : ℕ) → ((n + 2 * k) * b ≤ 2 ^ 53) × (n + k ≤ i + 1)
      → AtMost ((n + 2 * k) * b) (running_sum add_then_subtract n f k)
  unfolding running_sum recur
  running_bounded n zero r = rw add-zero (sum_bounded 0 n (omega arith))
  running_bounded n (suc k) r =
      let s : AtMost ((n + 2 * k) * b + b) _ = add_at_most (running_bounded n k (omega arith))
      (h (n + k) (omega arith)) (omega arith) in
      sub_at_most s (h k (omega arith)) (omega arith)

  picked_bounded : (pick : Float → Float → Float) → ((x y : Float) → AtMost b x → AtMost b y → AtMost b (pick x y))
      → (a k : ℕ) → a + k ≤ i → AtMost b (pick_from pick f a k)
  unfolding pick_from
  picked_bounded pick p a zero l = h a (omega arith)
  picked_bounded pick p a (suc k) l = p _ _ (picked_bounded pick p a k (omega arith)) (h (a + suc k) l)

-- windows of accepted prices, or of their means
module _ (n : ℕ) (N : 0 < n) (M : n ≤ 2 ^ 12) (f : Line) (i : ℕ) (h : Bounded (2 ^ 30) f i) where
  pub mean_bounded : Bounded (2 ^ 30) (mean n f) i
  unfolding mean window_sum
  mean_bounded j l =
      from_bar_holds (AtMost (2 ^ 30)) (n - 1) _ j (zero_at_most _ false)
      (λ k. div_at_most (sum_bounded (2 ^ 30) f i h (j + 1 - n) n (omega arith)) n (omega arith))

  extreme_bounded : (pick : Float → Float → Float)
      → ((x y : Float) → AtMost (2 ^ 30) x → AtMost (2 ^ 30) y → AtMost (2 ^ 30) (pick x y))
      → AtMost (2 ^ 30) (extreme pick n f i)
  unfolding extreme
  extreme_bounded pick p =
      from_bar_holds (AtMost (2 ^ 30)) (n - 1) _ i (zero_at_most _ false)
      (λ k. picked_bounded (2 ^ 30) f i h pick p (i + 1 - n) (n - 1) (omega arith))

  pub highest_bounded : AtMost (2 ^ 30) (extreme larger n f i)
  highest_bounded = extreme_bounded larger (λ x y p q. either (lt x y) q p)

  pub lowest_bounded : AtMost (2 ^ 30) (extreme smaller n f i)
  lowest_bounded = extreme_bounded smaller (λ x y p q. either (lt y x) q p)

-- the means of accepted prices are numbers
pub means_are_numbers : (n : ℕ) (s : List Float) → Window n → all accepted s ≡ true
    → Numbers (mean n (line s)) (length s)
means_are_numbers n s w h = record {
  at = λ i l. at_most_number (mean_bounded n w.some (omega (arith, w.narrow)) (line s) i (prices_bounded s i h l)
      i (le_refl i));
}

-- in the first part of a slice they have windows of w means
pub means_room : (s : List Float) {n w cells : ℕ} {old mid : List Float} → Window n → Window w
    → length s ≤ longest_series
    → all accepted s ≡ true → Writing (length s) (mean n (line s)) old mid → length s ≤ length old
    → length s + length s ≤ cells → Room (take (length s) mid) w cells
means_room s {n} window wide short values v h l =
    let long = part_long v h in
    record {
      window = wide;
      short = rw long short;
      room = rw long l;
      numbers = part_numbers v h (means_are_numbers n s window values);
    }
