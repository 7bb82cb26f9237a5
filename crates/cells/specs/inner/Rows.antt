-- Two lines in one slice, one after the other: how a `Writing` goes on in a part `&mut s[a..]` that was lent. Assumes
-- nothing.
use Rattle.std.specs.Prelude.{ℕ, zero, suc}

module _ {A : Type 0} where
  -- g for the first a cells, and then f from its own first cell on
  unfoldable pub beside : ℕ → (ℕ → A) → (ℕ → A) → ℕ → A
  beside zero g f i = f i
  beside (suc a) g f zero = g 0
  beside (suc a) g f (suc i) = beside a (λ j. g (suc j)) f i
