-- A rule on a later part of a series: once two windows of the part are behind a bar, its cell is that of the whole
-- series. Sums afresh do not know where a series begins. Assumes nothing.
use mathlib.Core.Path.{◌≡◌, refl, sym, ap, ◌∙◌}
use Prim.Native.Nat.{ℕ, zero, suc, ◌+◌, ◌-◌, ◌*◌, ◌<◌, ◌≤◌}
use native.Mathlib.Omega.{arith}
use lib.Ieee.{Float}
use Rattle.cells.specs.Line.{Line, plus_zero, minus_zero}
use Rattle.cells.proofs.Line.{from_bar_lem}
use Rattle.windows.specs.Window.{mean, over, sum_from, window_sum}
use Rattle.extremes.specs.Extreme.{larger, smaller, pick_from, extreme}
use Rattle.rules_single.specs.Single.{against_mean, single_line}
use Rattle.rules_middle.specs.Middle.{mid_line}

-- the line from bar a on
abbrev pub later : ℕ → Line → Line
later a f j = f (a + j)

-- ---- operators on the last n cells

-- f at the last n bars up to bar i is g a bars later
abbrev Behind : ℕ → ℕ → Line → Line → ℕ → Type 0
Behind n a f g i = (j : ℕ) → i + 1 ≤ j + n → j ≤ i → f j ≡ g (a + j)

sum_same : (z : Float) (f g : Line) (a b k : ℕ) → ((j : ℕ) → j < k → f (a + j) ≡ g (b + j))
    → sum_from z f a k ≡ sum_from z g b k
unfolding sum_from
sum_same z f g a b zero h = refl
sum_same z f g a b (suc k) h = rw (sum_same z f g a b k (λ j l. h j (omega arith)), h k (omega arith))

pick_same : (pick : Float → Float → Float) (f g : Line) (a b k : ℕ) → ((j : ℕ) → j ≤ k → f (a + j) ≡ g (b + j))
    → pick_from pick f a k ≡ pick_from pick g b k
unfolding pick_from
pick_same pick f g a b zero h = ap f (omega arith) ∙ h 0 (omega arith) ∙ ap g (omega arith)
pick_same pick f g a b (suc k) h = rw (pick_same pick f g a b k (λ j l. h j (omega arith)), h (suc k) (omega arith))

module _ (n : ℕ) (f g : Line) (a i : ℕ) (l : n ≤ i + 1) (h : Behind n a f g i) where
  -- the cells of the window, counted from its first
  window : (j : ℕ) → j < n → f (i + 1 - n + j) ≡ g (a + i + 1 - n + j)
  window j m = h (i + 1 - n + j) (omega arith) (omega arith) ∙ ap g (omega arith)

  mean_later : mean n f i ≡ mean n g (a + i)
  unfolding mean window_sum
  mean_later =
      from_bar_lem (n - 1) plus_zero _ i (omega arith)
      ∙ ap (over n) (sum_same minus_zero f g (i + 1 - n) (a + i + 1 - n) n window)
      ∙ sym (from_bar_lem (n - 1) plus_zero _ (a + i) (omega arith))

  extreme_later : (pick : Float → Float → Float) → 0 < n → extreme pick n f i ≡ extreme pick n g (a + i)
  unfolding extreme
  extreme_later pick p =
      from_bar_lem (n - 1) plus_zero _ i (omega arith)
      ∙ pick_same pick f g (i + 1 - n) (a + i + 1 - n) (n - 1) (λ j m. window j (omega arith))
      ∙ sym (from_bar_lem (n - 1) plus_zero _ (a + i) (omega arith))

-- ---- the rules

module _ (n a : ℕ) (f : Line) (i : ℕ) (p : 0 < n) (l : 2 * n - 2 ≤ i) where
  -- the means of the window that ends at bar i
  means : Behind n a (mean n (later a f)) (mean n f) i
  means j m k = mean_later n (later a f) f a j (omega arith) (λ q r s. refl)

  pub single_later : single_line n (later a f) i ≡ single_line n f (a + i)
  unfolding single_line
  single_later =
      from_bar_lem (2 * n - 2) plus_zero _ i l
      ∙ ap (against_mean (f (a + i))) (mean_later n (mean n (later a f)) (mean n f) a i (omega arith) means)
      ∙ sym (from_bar_lem (2 * n - 2) plus_zero _ (a + i) (omega arith))

  pub mid_later : mid_line n (later a f) i ≡ mid_line n f (a + i)
  unfolding mid_line
  mid_later =
      from_bar_lem (2 * n - 2) plus_zero _ i l
      ∙ (rw (
        means i (omega arith) (omega arith),
        extreme_later n (mean n (later a f)) (mean n f) a i (omega arith) means larger p,
        extreme_later n (mean n (later a f)) (mean n f) a i (omega arith) means smaller p,
      ))
      ∙ sym (from_bar_lem (2 * n - 2) plus_zero _ (a + i) (omega arith))
