-- The sums that the loop keeps are exact, and the two comparisons of a bar are the rule's on the worst and on the best
-- series. Assumes nothing.
use mathlib.Core.Path.{◌≡◌, sym, ◌∙◌}
use mathlib.Core.Bool.{true, not}
use Prim.Native.Nat.{ℕ, ◌+◌, ◌-◌, ◌^◌, ◌<◌, ◌≤◌}
use native.Mathlib.Nat.{mul-le-mul}
use native.Mathlib.Omega.{arith}
use borrow.Author.Tests.{not-true}
use lib.IntN.{ℤ, pos, nat_abs, ◌*ℤ◌}
use lib.Signed.{lt_z}
use lib.Ieee.{Float, binary64, add, sub, of_int, le}
use Rattle.rounding.specs.Whole.{total}
use Rattle.rounding_laws.proofs.Integers.{total_same, total_slides}
use Rattle.rounding_laws.proofs.Whole.{mul_whole}
use Rattle.rounding_order.proofs.Wholes.{le_whole}
use Rattle.cells.specs.Line.{Line}
use Rattle.cells.proofs.Line.{from_bar_lem}
use Rattle.exact_ticks.proofs.Exact.{TickLine, window_size, sum_whole, difference_slides}
use Rattle.exact_ticks.proofs.RunningSums.{size_times}
use Rattle.windows.specs.Window.{window_sum}
use Rattle.rules_double.specs.inner.Ticks.{BothFull}
use Rattle.rules_double_ranges.specs.Ranges.{ticks, joined, gives_long, picked, ranges_line}
use Rattle.rules_double_ranges.specs.inner.Stages.{SumsAt, wins, Implies, NotAbove}
use Rattle.rules_double_ranges.proofs.Between.{joined_from, joined_before, long_parts, worst_then_best}

-- where all bars are in order, so are the whole numbers
pub order_whole : {l k : ℕ} {low high : Line} {t u : ℕ → ℤ} → TickLine l low t → TickLine k high u → k ≡ l
    → ((i : ℕ) → i < l → le (low i) (high i) ≡ true) → NotAbove t u l
order_whole {l} {k} {low} {high} {t} {u} v w same order i h =
    let g : i < k = omega arith in
    let a = v.small i h in
    let b = w.small i g in
    not-true (lt_z (u i) (t i))
    (sym (le_whole (t i) (u i) (omega arith) (omega arith)) ∙ rw (v.is i h, w.is i g) at (order i h))

-- ---- the sums of a bar

before_less : (a k i : ℕ) → a + k ≤ i → 0 < k → i - 1 + 1 - k ≡ i - k
before_less a k i h p = omega arith

next_more : (k i : ℕ) → k ≤ i → i - k + 1 ≡ i + 1 - k
next_more k i h = omega arith

gap_between : (n m i : ℕ) → n < m → m ≤ i → i - m + (m - n) ≡ i - n
gap_between n m i g h = omega arith

inside : (n m i l : ℕ) → n < m → m ≤ i → i < l → (i - n + n < l) × (i - m + (m - n) < l)
inside n m i l g h u = omega arith

-- a sum moves on by one bar
slid : {l : ℕ} {f : Line} {t : ℕ → ℤ} → TickLine l f t → (a k : ℕ) {x : Float} → a + k < l → k ≤ 2 ^ 12
    → x ≡ of_int binary64 (total t a k)
    → add binary64 x (sub binary64 (f (a + k)) (f a)) ≡ of_int binary64 (total t (a + 1) k)
slid {t = t} w a k h b e =
    let s = window_size w a k (omega arith) in
    let x = w.small (a + k) h in
    let y = w.small a (omega arith) in
    rw (e, w.is (a + k) h, w.is a (omega arith), total_slides t a k)
    (difference_slides.exact (total t a k) (t (a + k)) (t a) (omega arith) (omega arith) (omega arith))

module _ {n m l : ℕ} {f : Line} {t : ℕ → ℤ} (o : BothFull n m l f t) where
  pub first_sums : {a b : Float} → a ≡ window_sum n f (m - 1) → b ≡ window_sum (m - n) f (m - n - 1)
      → SumsAt n m t (m - 1) a b
  unfolding window_sum
  first_sums p q =
      let g = o.order in
      let u = o.full in
      let N = o.short.some in
      let L = o.long.narrow in
      let start : m - n - 1 + 1 - (m - n) ≡ m - 1 + 1 - m = omega arith in
      record {
        short_is = p ∙ sum_whole o.ticks (m - 1 + 1 - n) n N (omega arith) (omega arith);
        old_is = q ∙ rw start (sum_whole o.ticks (m - 1 + 1 - m) (m - n) (omega arith) (omega arith) (omega arith));
      }

  pub next_sums : (i : ℕ) {a b : Float} → m ≤ i → i < l → SumsAt n m t (i - 1) a b
      → SumsAt n m t i (add binary64 a (sub binary64 (f i) (f (i - n))))
      (add binary64 b (sub binary64 (f (i - n)) (f (i - m))))
  next_sums i h u s =
      let g = o.order in
      let L = o.long.narrow in
      let N = o.short.some in
      let p = before_less 0 n i (omega arith) N in
      let q = before_less 0 m i (omega arith) o.long.some in
      let p'' : i - n + n ≡ i = omega arith in
      let (c, d) = inside n m i l g h u in
      record {
        short_is = rw (next_more n i (omega arith), p'') at (slid o.ticks (i - n) n c (omega arith)
            (rw p at s.short_is));
        old_is = rw (next_more m i h, gap_between n m i g h) at (slid o.ticks (i - m) (m - n) d (omega arith)
            (rw q at s.old_is));
      }

-- ---- the cell of a bar

small_product : (a : ℤ) (j : ℕ) → nat_abs a ≤ 2 ^ 36 → j ≤ 2 ^ 12 → nat_abs (a *ℤ pos j) ≤ 2 ^ 53
small_product a j h k = rw (size_times a j) (omega (arith, mul-le-mul h k))

-- the comparison of two exact sums
wins_whole : (n m : ℕ) (a b : ℤ) {x y : Float} → (0 < n) × (n < m) × (m ≤ 2 ^ 12) → x ≡ of_int binary64 a
    → y ≡ of_int binary64 b
    → nat_abs a ≤ 2 ^ 36 → nat_abs b ≤ 2 ^ 36 → wins n m x y ≡ not (lt_z (a *ℤ pos (m - n)) (b *ℤ pos n))
wins_whole n m a b (N, L, M) p q h k =
    rw (
      p,
      q,
      mul_whole binary64 b n (omega arith) (omega arith),
      mul_whole binary64 a (m - n) (omega arith) (omega arith),
    )
    (le_whole (b *ℤ pos n) (a *ℤ pos (m - n)) (small_product b n k (omega arith))
    (small_product a (m - n) h (omega arith)))

module _ {n m l : ℕ} {low high : Line} (o : BothFull n m l low (ticks low)) {k : ℕ}
    (p : BothFull n m k high (ticks high)) (same : k ≡ l) (r : NotAbove (ticks low) (ticks high) l)
    (i : ℕ) (B : m ≤ i + 1) (H : i < l) {ls lo hs ho : Float} (a : SumsAt n m (ticks low) i ls lo)
    (b : SumsAt n m (ticks high) i hs ho) where
  size : {l : ℕ} {f : Line} → BothFull n m l f (ticks f) → i < l
      → (nat_abs (total (ticks f) (i + 1 - n) n) ≤ 2 ^ 36) × (nat_abs (total (ticks f) (i + 1 - m) (m - n)) ≤ 2 ^ 36)
  size q h =
      let g = q.order in
      let u = q.long.narrow in (
        omega (arith, window_size q.ticks (i + 1 - n) n (omega arith)),
        omega (arith, window_size q.ticks (i + 1 - m) (m - n) (omega arith)),
      )

  joined_long : (t u : ℕ → ℤ) → gives_long n m (joined (i + 1 - n) t u) i
      ≡ not (lt_z (total u (i + 1 - n) n *ℤ pos (m - n)) (total t (i + 1 - m) (m - n) *ℤ pos n))
  joined_long t u =
      let g = o.order in
      long_parts n m i g B (joined (i + 1 - n) t u)
      ∙ rw (
        total_same (joined (i + 1 - n) t u) u (i + 1 - n) n
            (λ j h. joined_from (i + 1 - n) t u (i + 1 - n + j) (omega arith)),
        total_same (joined (i + 1 - n) t u) t (i + 1 - m) (m - n)
            (λ j h. joined_before (i + 1 - n) t u (i + 1 - m + j) (omega arith)),
      )

  windows : (0 < n) × (n < m) × (m ≤ 2 ^ 12)
  windows =
      let N = o.short.some in
      let L = o.order in
      let M = o.long.narrow in
      omega arith

  worst_is : wins n m ls ho ≡ gives_long n m (joined (i + 1 - n) (ticks high) (ticks low)) i
  worst_is =
      wins_whole n m (total (ticks low) (i + 1 - n) n) (total (ticks high) (i + 1 - m) (m - n)) windows a.short_is
      b.old_is (size o H).0 (size p (omega arith)).1
      ∙ sym (joined_long (ticks high) (ticks low))

  best_is : wins n m hs lo ≡ gives_long n m (joined (i + 1 - n) (ticks low) (ticks high)) i
  best_is =
      wins_whole n m (total (ticks high) (i + 1 - n) n) (total (ticks low) (i + 1 - m) (m - n)) windows b.short_is
      a.old_is (size p (omega arith)).0 (size o H).1
      ∙ sym (joined_long (ticks low) (ticks high))

  -- what `cell_at` asks
  pub cell_asks : Implies (wins n m ls ho) (wins n m hs lo)
  cell_asks = rw (worst_is, best_is) (worst_then_best n m i o.order B (ticks low) (ticks high) H r)

  -- and what it gives
  pub cell_is : picked (wins n m ls ho) (wins n m hs lo) ≡ ranges_line n m low high i
  unfolding ranges_line
  cell_is = rw (worst_is, best_is) (sym (from_bar_lem (m - 1) (pos 0) _ i (omega arith)))
