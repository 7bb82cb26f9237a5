-- The bars of Holt-Winters smoothing, each from the bar before it and the bar one season before it. Assumes nothing.
use mathlib.Core.Path.{◌≡◌, refl, sym}
use mathlib.Core.Bool.{Bool, true, false, cond}
use Prim.Native.Nat.{ℕ, zero, suc, ◌-◌, ◌<◌, ◌≤◌}
use native.Mathlib.Omega.{arith}
use borrow.Author.Tests.{lt-ltb, le-ltb, ltb-false}
use lib.Dec.{ltb}
use Rattle.cells.specs.Line.{Line}
use Rattle.windows.specs.Window.{mean}
use Rattle.holt_winters.specs.declared.Fit.{Fit}
use Rattle.holt_winters.specs.declared.Weights.{Weights}
use Rattle.holt_winters.specs.HoltWinters.{first_fit, next_fit, fit_within, fit_line}
use Rattle.holt_winters.specs.HoltWinters.{total, holt_winters_line}

module _ (m : ℕ) (w : Weights) (f : Line) where
  -- a bar of the first season, however far the recursion may go
  within_first : (more i : ℕ) → i < m → fit_within more m w f i ≡ first_fit (mean m f (m - 1)) (f i)
  unfolding fit_within
  within_first zero i h = refl
  within_first (suc more) i h = rw (lt-ltb i m h)

  -- two numbers that are not below i give the same
  within_same : (a b i : ℕ) → i ≤ a → i ≤ b → 0 < m → fit_within a m w f i ≡ fit_within b m w f i
  unfolding fit_within
  within_same zero b i p q some = sym (within_first b i (omega arith))
  within_same (suc a) zero i p q some = within_first (suc a) i (omega arith)
  within_same (suc a) (suc b) i p q some =
      go (ltb i m) refl (λ h. within_same a b (i - 1) (omega arith) (omega arith) some)
      (λ h. within_same a b (i - m) (omega arith) (omega arith) some)
    where
      go : (t : Bool) → ltb i m ≡ t → (m ≤ i → fit_within a m w f (i - 1) ≡ fit_within b m w f (i - 1))
          → (m ≤ i → fit_within a m w f (i - m) ≡ fit_within b m w f (i - m))
          → cond t (first_fit (mean m f (m - 1)) (f i))
          (next_fit w (fit_within a m w f (i - 1)) (fit_within a m w f (i - m)).season (f i))
          ≡ cond t (first_fit (mean m f (m - 1)) (f i))
          (next_fit w (fit_within b m w f (i - 1)) (fit_within b m w f (i - m)).season (f i))
      go true e last old = refl
      go false e last old = let h = ltb-false i m e in rw (last h, old h)

  -- a bar of the first season
  pub fit_first : (i : ℕ) → i < m → fit_line m w f i ≡ first_fit (mean m f (m - 1)) (f i)
  unfolding fit_line
  fit_first i h = within_first i i h

  -- a later bar, from the one before it and from one season ago
  pub fit_next : (i : ℕ) → m ≤ i → 0 < m
      → fit_line m w f i ≡ next_fit w (fit_line m w f (i - 1)) (fit_line m w f (i - m)).season (f i)
  unfolding fit_line fit_within
  fit_next zero h p = absurd (omega arith)
  fit_next (suc k) h p =
      rw (
        le-ltb (suc k) m h,
        within_same k (suc k - 1) (suc k - 1) (omega arith) (omega arith) p,
        within_same k (suc k - m) (suc k - m) (omega arith) (omega arith) p,
      )

  -- the cells
  pub cell_first : (i : ℕ) → i < m → f i ≡ holt_winters_line m w f i
  unfolding holt_winters_line
  cell_first i h = rw (lt-ltb i m h)

  pub cell_later : (i : ℕ) {fit : Fit} → fit ≡ fit_line m w f i → m ≤ i → total fit ≡ holt_winters_line m w f i
  unfolding holt_winters_line
  cell_later i e h = rw (e, le-ltb i m h)
