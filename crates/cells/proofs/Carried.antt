-- Lines that carry their last cell have no look-ahead, where their seed has none; their cells, bar by bar. Assumes
-- nothing.
use mathlib.Core.Path.{◌≡◌}
use Prim.Native.Nat.{ℕ, suc, ◌+◌, ◌-◌, ◌<◌, ◌≤◌}
use native.Mathlib.Omega.{arith}
use borrow.Author.Tests.{leb-true}
use lib.Dec.{leb}
use lib.Ieee.{Float}
use Rattle.cells.specs.Line.{Line, from_bar, Same, Causal}
use Rattle.cells.specs.Recur.{recur, carried}
use Rattle.cells.proofs.Line.{from_bar_lem, cond_same}
use Rattle.cells.proofs.Recur.{recur_same}

-- two lines that begin at bar a, and agree at bar b if it is not before bar a
pub from_same : {A : Type 0} (a : ℕ) (d : A) (f g : ℕ → A) (b : ℕ) → (a ≤ b → f b ≡ g b) → from_bar a d f b
    ≡ from_bar a d g b
unfolding from_bar
from_same a d f g b h = cond_same (leb a b) (f b) (g b) d (λ e. h (leb-true a b e))

-- the cell of bar b needs the seed only from bar a on
pub carried_same : (d : Float) (step : Float → Float → Float) (a : ℕ) (x y : Float) (f g : Line) (b : ℕ)
    → (a ≤ b → x ≡ y) → Same f g b → carried d step a x f b ≡ carried d step a y g b
unfolding carried
carried_same d step a x y f g b h s =
    from_same a d _ _ b (λ l. recur_same x y _ _ (b - a) (h l) (λ j z m. rw (s (a + 1 + j) (omega arith))))

-- where the seed needs nothing after bar a, the line has no look-ahead
pub causal_carried : (d : Float) (step : Float → Float → Float) (a : ℕ) (seed : Line → Float)
    → ((f g : Line) → Same f g a → seed f ≡ seed g) → Causal (λ f. carried d step a (seed f) f)
causal_carried d step a seed h f g b s =
    carried_same d step a (seed f) (seed g) f g b (λ l. h f g (λ j m. s j (omega arith))) s

-- ---- its cells, as a loop finds them

module _ (d : Float) (step : Float → Float → Float) (a : ℕ) (seed : Float) (f : Line) where
  pub carried_seed : carried d step a seed f a ≡ seed
  unfolding carried recur
  carried_seed =
      let none : a - a ≡ 0 = omega arith in
      rw (from_bar_lem a d _ a (omega arith), none)

  pub carried_next : (i : ℕ) → a < i → carried d step a seed f i ≡ step (carried d step a seed f (i - 1)) (f i)
  unfolding carried recur
  carried_next i h =
      let one : i - a ≡ suc (i - 1 - a) = omega arith in
      let bar : a + 1 + (i - 1 - a) ≡ i = omega arith in
      rw (from_bar_lem a d _ i (omega arith), from_bar_lem a d _ (i - 1) (omega arith), one, bar)
