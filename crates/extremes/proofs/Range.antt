-- The highest and the lowest of neighbouring cells together: what holds of the best of either kind holds of both.
-- Assumes nothing.
use mathlib.Core.Path.{◌≡◌}
use mathlib.Core.Logic.{⊎_elim}
use Prim.Native.Nat.{ℕ, ◌+◌, ◌-◌, ◌<◌, ◌≤◌}
use native.Mathlib.Nat.{eq-or-lt_of_le}
use native.Mathlib.Omega.{arith}
use Rattle.cells.specs.Line.{Line, plus_zero}
use Rattle.cells.proofs.Line.{before_bar}
use Rattle.extremes.specs.declared.blocks.HighLow.{HighLow}
use Rattle.extremes.specs.Extreme.{larger, smaller, extreme}
use Rattle.extremes.specs.inner.Best.{Numbers}
use Rattle.extremes.specs.inner.Range.{RangeOf, alone, joined}
use Rattle.extremes.proofs.Best as Best

module _ {f : Line} where
  pub one_bar_lem : (a : ℕ) {x : HighLow} → x ≡ alone (f a) → RangeOf f a a x
  one_bar_lem a e = record { highest = rw e (Best.one_bar_lem a); lowest = rw e (Best.one_bar_lem a) }

  -- the same bars, said otherwise
  pub spans : {a e a' e' : ℕ} {x : HighLow} → RangeOf f a e x → (a ≡ a') × (e ≡ e') → RangeOf f a' e' x
  spans p (d, g) = rw (← d, ← g) p

  module _ {bars : ℕ} (all : Numbers f bars) where
    -- the bars after bar e joined to those up to it
    pub joins : {a e e' g : ℕ} {x y z : HighLow} → RangeOf f a e x → RangeOf f e' g y → z ≡ joined x y → (e' ≡ e + 1)
        × (g < bars)
        → RangeOf f a g z
    joins p q r h =
        record {
          highest = Best.joins all p.highest q.highest (rw r) h;
          lowest = Best.joins all p.lowest
              q.lowest (rw r) h;
        }

    -- the bars from bar e on joined to those up to it
    pub meets : {a e g : ℕ} {x y z : HighLow} → RangeOf f a e x → RangeOf f e g y → z ≡ joined x y → g < bars
        → RangeOf f a g z
    meets p q r h =
        record {
          highest = Best.meets all p.highest q.highest (rw r) h;
          lowest = Best.meets all p.lowest
              q.lowest (rw r) h;
        }

    -- two bars, or one and the same
    pub pairs : {a e : ℕ} {x y z : HighLow} → RangeOf f a a x → RangeOf f e e y → z ≡ joined x y → (a ≤ e)
        × (e ≤ a + 1) × (e < bars)
        → RangeOf f a e z
    pairs {a} {e} p q r (g, h, l) =
        ⊎_elim (λ s. meets (spans p (omega arith)) q r l) (λ s. joins p q r (omega arith)) (eq-or-lt_of_le g)

  -- a whole window
  pub whole : (n : ℕ) {a i : ℕ} {x : HighLow} → RangeOf f a i x → (0 < n) × (a + n ≡ i + 1)
      → (x.high ≡ extreme larger n f i) × (x.low ≡ extreme smaller n f i)
  whole n p h = (Best.extreme_is n p.highest h, Best.extreme_is n p.lowest h)

-- no whole window yet
pub not_whole : (n : ℕ) (f : Line) (i : ℕ) → i < n - 1 → (plus_zero ≡ extreme larger n f i)
    × (plus_zero ≡ extreme smaller n f i)
unfolding extreme
not_whole n f i h = (rw (before_bar (n - 1) plus_zero _ i h), rw (before_bar (n - 1) plus_zero _ i h))
