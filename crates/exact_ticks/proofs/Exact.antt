-- On whole ticks a window's sum is exact, however it is made, and a mean is one rounding. Assumes nothing.
use mathlib.Core.Path.{◌≡◌}
use Prim.Native.Nat.{ℕ, zero, suc, ◌+◌, ◌-◌, ◌*◌, ◌^◌, ◌<◌, ◌≤◌}
use native.Mathlib.Nat.{add_comm, not-suc-le-zero, le-mul_of_pos_right}
use native.Mathlib.Numerals.{suc-eq-add-one}
use native.Mathlib.Omega.{arith}
use lib.IntN.{ℤ, nat_abs, ◌+ℤ◌, ◌-ℤ◌, +ℤ_idl}
use lib.Ieee.{Float, binary64, of_int}
use Rattle.rounding.specs.Whole.{total}
use Rattle.rounding_laws.proofs.Integers.{total_size, total_slides, abs_minus}
use Rattle.rounding_laws.proofs.Whole.{add_whole, sub_whole, add_first}
use Rattle.rounding_laws.proofs.Quotient.{quotient, Whole}
use Rattle.cells.specs.Line.{Line, plus_zero, minus_zero}
use Rattle.cells.proofs.Line.{from_bar_lem}
use Rattle.cells.specs.Recur.{recur}
use Rattle.windows.specs.Window.{sum_from, running_sum, window_sum, mean, add_difference}

-- the first l cells of f are whole numbers, t, of magnitude at most b
pub record WholeLine (b l : ℕ) (f : Line) (t : ℕ → ℤ) : Type 0 where
  pub is : (i : ℕ) → i < l → f i ≡ of_int binary64 (t i)
  pub small : (i : ℕ) → i < l → nat_abs (t i) ≤ b

-- they are whole ticks, of magnitude at most 16,777,216
abbrev pub TickLine : ℕ → Line → (ℕ → ℤ) → Type 0
TickLine = WholeLine (2 ^ 24)

module _ {b l : ℕ} {f : Line} {t : ℕ → ℤ} (w : WholeLine b l f t) where
  pub window_size : (a k : ℕ) → a + k ≤ l → nat_abs (total t a k) ≤ k * b
  window_size a k h = total_size t a k b (λ j m. w.small (a + j) (omega arith))

  -- summed afresh
  pub sum_whole : (a k : ℕ) → 0 < k → a + k ≤ l → k * b ≤ 2 ^ 53 → sum_from minus_zero f a k
      ≡ of_int binary64 (total t a k)
  unfolding sum_from total
  sum_whole a zero p h n = absurd (not-suc-le-zero p)
  sum_whole a (suc zero) p h n =
      rw (w.is (a + 0) (omega arith), +ℤ_idl)
      (add_first binary64 (t (a + 0)) (omega (arith, w.small (a + 0) (omega arith))))
  sum_whole a (suc (suc k)) p h n =
      rw (sum_whole a (suc k) (omega arith) (omega arith) (omega arith), w.is (a + suc k) (omega arith))
      (add_whole binary64 (total t a (suc k)) (t (a + suc k)) (omega (arith, window_size a (suc k) (omega arith)))
      (omega (arith, w.small (a + suc k) (omega arith))))

-- `slide` makes the next sum exactly, of whole numbers
pub record Slides (slide : Float → Float → Float → Float) : Type 0 where
  pub exact : (s new old : ℤ) → nat_abs s ≤ 2 ^ 52 → nat_abs new ≤ 2 ^ 52 → nat_abs old ≤ 2 ^ 52
      → slide (of_int binary64 s) (of_int binary64 new) (of_int binary64 old) ≡ of_int binary64 (s +ℤ (new -ℤ old))

-- the difference added in one step
pub difference_slides : Slides add_difference
difference_slides = record {
  exact = λ s new old p q r.
      rw (sub_whole binary64 new old (omega arith) (omega arith))
      (add_whole binary64 s (new -ℤ old) (omega arith) (omega (arith, abs_minus new old)));
}

module _ {b l : ℕ} {f : Line} {t : ℕ → ℤ} {slide : Float → Float → Float → Float} (w : WholeLine b l f t)
    (s : Slides slide) where
  -- a running sum is exact at every bar
  pub running_whole : (n k : ℕ) → 0 < n → n * b ≤ 2 ^ 52 → n + k ≤ l → running_sum slide n f k
      ≡ of_int binary64 (total t k n)
  unfolding running_sum recur
  running_whole n zero N M h = sum_whole w 0 n N (omega arith) (omega arith)
  running_whole n (suc k) N M h =
      let c = le-mul_of_pos_right b N in
      rw (
        running_whole n k N M (omega arith),
        w.is (n + k) (omega arith),
        w.is k (omega arith),
        suc-eq-add-one k,
        total_slides t k n,
        add_comm n k,
      )
      (s.exact (total t k n) (t (k + n)) (t k) (omega (arith, window_size w k n (omega arith)))
      (omega (arith, w.small (k + n) (omega arith))) (omega (arith, w.small k (omega arith))))

-- and of whole ticks in every window
pub running_exact : {l : ℕ} {f : Line} {t : ℕ → ℤ} {slide : Float → Float → Float → Float} → TickLine l f t
    → Slides slide
    → (n k : ℕ) → 0 < n → n ≤ 2 ^ 12 → n + k ≤ l → running_sum slide n f k ≡ of_int binary64 (total t k n)
running_exact w s n k N M h = running_whole w s n k N (omega arith) h

-- ---- means

module _ {l : ℕ} {f : Line} {t : ℕ → ℤ} (w : TickLine l f t) (n : ℕ) (N : 0 < n) (M : n ≤ 2 ^ 12) where
  -- a window's sum and its length are whole numbers that f64 counts without a gap
  pub window_whole : (a : ℕ) → a + n ≤ l → Whole binary64 (total t a n) n
  window_whole a h = record { some = N; size = omega (arith, window_size w a n h); divisor = omega arith }

  -- the mean of the window that ends at bar i is one rounding of its fraction
  pub mean_exact : (i : ℕ) → n ≤ i + 1 → i < l → mean n f i ≡ quotient binary64 (total t (i + 1 - n) n) n
  unfolding mean window_sum
  mean_exact i b h = rw (
    from_bar_lem (n - 1) plus_zero _ i (omega arith),
    sum_whole w (i + 1 - n) n N (omega arith)
        (omega arith),
  )
