-- Wilder's average, and those of gains and losses, as the loops find them. Assumes nothing.
use mathlib.Core.Path.{◌≡◌}
use Prim.Native.Nat.{ℕ, ◌+◌, ◌-◌, ◌<◌, ◌≤◌}
use lib.Ieee.{Float, nan, binary64, add}
use Rattle.cells.specs.Line.{Line, plus_zero}
use Rattle.cells.proofs.Line.{from_bar_lem}
use Rattle.cells.proofs.Carried.{carried_seed, carried_next}
use Rattle.windows.specs.Window.{over}
use Rattle.windows.specs.inner.Sums.{Summing}
use Rattle.windows.proofs.Window.{one_added}
use Rattle.changes.specs.declared.Averages.{Averages}
use Rattle.averages_wilder.specs.Wilder.{wilder_step, wilder_seed, wilder}
use Rattle.averages_wilder.specs.WilderRsi.{wilder_cell, wilder_rsi_line}
use Rattle.averages_wilder.specs.inner.Averaged.{Averaged}

-- one more bar is summed
pub summed : {f : Line} {a k : ℕ} {x y : Float} → Summing plus_zero f a k x → y ≡ f (a + k)
    → Summing plus_zero f a (k + 1) (add binary64 x y)
summed s e = rw e (one_added s)

module _ (n a : ℕ) (f : Line) where
  -- the seed, from the sum of the n bars from bar b on
  pub seed_of : {b k : ℕ} {x : Float} → Summing plus_zero f b k x → (k ≡ n) × (b ≡ a + 1 - n)
      → over n x ≡ wilder n a f a
  unfolding wilder
  seed_of s (e, start) = rw (carried_seed nan (wilder_step n) a (wilder_seed n a f) f, s.is, e, start)

  -- the next cell
  pub next_of : (i : ℕ) {x y : Float} → x ≡ wilder n a f (i - 1) → y ≡ f i → a < i → wilder_step n x y ≡ wilder n a f i
  unfolding wilder
  next_of i e g h = rw (carried_next nan (wilder_step n) a (wilder_seed n a f) f i h, e, g)

-- the cell of bar i
pub rsi_at : (n i : ℕ) (f : Line) (r : Averages) → Averaged n f i r → n ≤ i
    → wilder_cell r.gain r.loss ≡ wilder_rsi_line n f i
unfolding wilder_rsi_line
rsi_at n i f r a h = rw (a.gain, a.loss, from_bar_lem n nan _ i h)

-- the bar, written in another way
pub same_bar : {n i j : ℕ} {f : Line} {r : Averages} → Averaged n f i r → i ≡ j → Averaged n f j r
same_bar a e = rw (← e) a
