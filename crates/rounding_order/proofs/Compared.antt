-- IEEE's `<=` and `<` of two numbers say the same. Assumes nothing.
use mathlib.Core.Path.{◌≡◌, refl, sym}
use mathlib.Core.Bool.{Bool, true, false, not, ◌&&◌, ◌||◌, true≢false}
use Prim.Native.Nat.{ℕ, ◌+◌, ◌*◌, ◌<◌}
use native.Mathlib.Nat.{add_comm}
use native.Mathlib.Omega.{arith}
use borrow.Author.Tests.{ltb-true, ltb-false, lt-ltb, le-ltb, eqb-true, eqb-false, eq-eqb, ne_eqb}
use lib.Dec.{ltb, eqb}
use lib.Ieee.{Float, nan, inf, fin, up, down, level, lt, eq, le, is_nan}
use lib.Ieee.{below as is_below}

pub either_way : (p : Bool) → (p ≡ false → ⊥) → p ≡ true
either_way true h = refl
either_way false h = absurd (h refl)

-- a number that is not 0 is above it
not_zero : (n : ℕ) → (n ≡ 0 → ⊥) → 0 < n
not_zero n h = omega (arith, h)

-- two of one sign: q says whether they are equal
like : (a b : ℕ) (q : Bool) → (a ≡ b → q ≡ true) → (b < a → q ≡ false) → ltb a b || (q && true) ≡ not (ltb b a)
like a b q same more = go (ltb a b) (ltb b a) refl refl
  where
    go : (t u : Bool) → ltb a b ≡ t → ltb b a ≡ u → t || (q && true) ≡ not u
    go true true e g = let l = ltb-true a b e in let m = ltb-true b a g in absurd (omega arith)
    go true false e g = refl
    go false true e g = rw (more (ltb-true b a g))
    go false false e g = let l = ltb-false a b e in let m = ltb-false b a g in rw (same (omega arith))

-- a number and the negative of another are level where both are 0
zeros : (a b : ℕ) → eqb a b && eqb a 0 ≡ not (ltb 0 (b + a))
zeros a b = go (eqb a b) (eqb a 0) refl refl
  where
    go : (t u : Bool) → eqb a b ≡ t → eqb a 0 ≡ u → t && u ≡ not (ltb 0 (b + a))
    go true true e g = let l = eqb-true a b e in let m = eqb-true a 0 g in rw (le-ltb 0 (b + a) (omega arith))
    go true false e g = let some = eqb-false a 0 g in rw (lt-ltb 0 (b + a) (not_zero (b + a) (λ h. some (omega arith))))
    go false u e g =
        rw (either_way (ltb 0 (b + a)) (λ w. let l = ltb-false 0 (b + a) w in eqb-false a b e (omega arith)))

or_not : (t : Bool) → t || not t ≡ true
or_not true = refl
or_not false = refl

order_parts : (s t : Bool) (a b : ℕ) → is_below s a t b || level s a t b ≡ not (is_below t b s a)
order_parts false false a b = like a b (eqb a b) (eq-eqb a b) (λ l. ne_eqb a b (λ (e : a ≡ b). omega arith))
order_parts false true a b = zeros a b
order_parts true false a b = rw (zeros a b, add_comm a b) (or_not (ltb 0 (b + a)))
order_parts true true a b =
    like b a (eqb a b) (λ e. eq-eqb a b (sym e)) (λ l. ne_eqb a b (λ (e : a ≡ b). omega arith))

-- x is at most y where y is not below x
pub le_is : (x y : Float) → is_nan x ≡ false → is_nan y ≡ false → le x y ≡ not (lt y x)
unfolding le lt eq is_nan
le_is nan y p q = absurd (true≢false p)
le_is (inf s) nan p q = absurd (true≢false q)
le_is (inf false) (inf false) p q = refl
le_is (inf false) (inf true) p q = refl
le_is (inf true) (inf false) p q = refl
le_is (inf true) (inf true) p q = refl
le_is (inf false) (fin t n d) p q = refl
le_is (inf true) (fin t n d) p q = refl
le_is (fin s m e) nan p q = absurd (true≢false q)
le_is (fin s m e) (inf false) p q = refl
le_is (fin s m e) (inf true) p q = refl
le_is (fin s m e) (fin t n d) p q = order_parts s t (m * up e * down d) (n * up d * down e)
