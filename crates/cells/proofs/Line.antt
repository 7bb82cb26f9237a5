-- Lines. A line has a cell for every bar, counted from 0: a series is one, and so is what a call computes of it. An
-- operator on lines is causal if no cell needs anything after its own bar; what is built of causal operators is
-- causal. Assumes nothing.
use mathlib.Core.Path.{◌≡◌, refl}
use mathlib.Core.Bool.{Bool, true, false, cond}
use Prim.Native.Nat.{ℕ, ◌<◌, ◌≤◌}
use native.Mathlib.Nat.{le_refl}
use native.Mathlib.Omega.{arith}
use borrow.Author.Tests.{leb-true, le-leb, lt-leb}
use lib.Dec.{leb}
use Rattle.cells.specs.Line.{Causal, Same, from_bar}

module _ {A : Type 0} where
  pub before_bar : (b : ℕ) (d : A) (f : ℕ → A) (i : ℕ) → i < b → from_bar b d f i ≡ d
  unfolding from_bar
  before_bar b d f i h = simp (lt-leb b i h)

  pub from_bar_lem : (b : ℕ) (d : A) (f : ℕ → A) (i : ℕ) → b ≤ i → from_bar b d f i ≡ f i
  unfolding from_bar
  from_bar_lem b d f i h = simp (le-leb b i h)

-- equal bars up to bar b give equal cells up to bar b
pub causal_same : {A B : Type 0} {F : (ℕ → A) → ℕ → B} → Causal F → (f g : ℕ → A) (b : ℕ) → Same f g b
    → Same (F f) (F g) b
causal_same p f g b s j l = p f g j (λ i m. s i (omega arith))

-- the line as it is
pub causal_self : {A : Type 0} → Causal {A = A} (λ f. f)
causal_self f g b s = s b (le_refl b)

-- one operator after another
pub causal_then : {A B C : Type 0} {F : (ℕ → A) → ℕ → B} {G : (ℕ → B) → ℕ → C} → Causal F → Causal G
    → Causal (λ f. G (F f))
causal_then {F = F} p q f g b s = q (F f) (F g) b (causal_same p f g b s)

-- two operators joined cell by cell
pub causal_with : {A B C D : Type 0} (op : B → C → D) {F : (ℕ → A) → ℕ → B} {G : (ℕ → A) → ℕ → C} → Causal F → Causal G
    → Causal (λ f i. op (F f i) (G f i))
causal_with op p q f g b s = rw (p f g b s, q f g b s)

pub cond_same : {A : Type 0} (t : Bool) (x y z : A) → (t ≡ true → x ≡ y) → cond t x z ≡ cond t y z
cond_same true x y z h = h refl
cond_same false x y z h = refl

-- an operator that begins at bar a, causal from there on
pub causal_from : {A B : Type 0} (a : ℕ) (d : B) {F : (ℕ → A) → ℕ → B}
    → ((f g : ℕ → A) (b : ℕ) → Same f g b → a ≤ b → F f b ≡ F g b) → Causal (λ f. from_bar a d (F f))
unfolding from_bar
causal_from a d h f g b s = cond_same (leb a b) _ _ d (λ e. h f g b s (leb-true a b e))
