-- IEEE's `<` puts the numbers in order, infinities included: what lies between. Assumes nothing.
use mathlib.Core.Path.{◌≡◌, refl, sym, ◌∙◌}
use mathlib.Core.Bool.{Bool, true, false, true≢false}
use Prim.Native.Nat.{ℕ, ◌+◌, ◌*◌, ◌<◌}
use native.Mathlib.Nat.{zero-mul, add-mul, mul_right_comm, mul-le-mul_right, mul-lt-mul_of_pos_right}
use native.Mathlib.Omega.{arith}
use borrow.Author.Tests.{ltb-true, ltb-false, lt-ltb, le-ltb}
use lib.Dec.{ltb}
use lib.IntN.{ℤ}
use lib.Ieee.{Float, nan, inf, fin, up, down, below, lt, is_nan}
use lib.Ieee.Fits.{down_pos}

-- ---- numbers with a sign, on one scale

ltb_between : (r : Bool) (a b c : ℕ) → ltb a b ≡ r → ltb b c ≡ r → ltb a c ≡ r
ltb_between true a b c p q = lt-ltb a c (omega (arith, ltb-true a b p, ltb-true b c q))
ltb_between false a b c p q = le-ltb a c (omega (arith, ltb-false a b p, ltb-false b c q))

below_between : (r s t u : Bool) (a b c : ℕ) → below s a t b ≡ r → below t b u c ≡ r → below s a u c ≡ r
below_between r false false false a b c p q = ltb_between r a b c p q
below_between r false false true a b c p q = q
below_between r false true false a b c p q = le-ltb a c (omega (arith, ltb-false 0 (b + c) (q ∙ sym p))) ∙ p
below_between r false true true a b c p q = p
below_between true true false false a b c p q = lt-ltb 0 (a + c) (omega (arith, ltb-true b c q))
below_between false true false false a b c p q = le-ltb 0 (a + c)
    (omega (arith, ltb-false 0 (a + b) p, ltb-false b c q))
below_between r true false true a b c p q = le-ltb c a (omega (arith, ltb-false 0 (a + b) (p ∙ sym q))) ∙ q
below_between true true true false a b c p q = lt-ltb 0 (a + c) (omega (arith, ltb-true b a p))
below_between false true true false a b c p q = le-ltb 0 (a + c) (omega (arith, ltb-false b a p, ltb-false 0 (b + c) q))
below_between r true true true a b c p q = ltb_between r c b a q p

-- ---- from three scales to one

module _ (k : ℕ) (h : 0 < k) where
  ltb_scaled : (r : Bool) (a b : ℕ) → ltb a b ≡ r → ltb (a * k) (b * k) ≡ r
  ltb_scaled true a b e = lt-ltb (a * k) (b * k) (mul-lt-mul_of_pos_right (ltb-true a b e) h)
  ltb_scaled false a b e = le-ltb (a * k) (b * k) (mul-le-mul_right k (ltb-false a b e))

  below_scaled : (s t : Bool) (a b : ℕ) → below s (a * k) t (b * k) ≡ below s a t b
  below_scaled false false a b = ltb_scaled (ltb a b) a b refl
  below_scaled false true a b = refl
  below_scaled true false a b = rw (← add-mul) (rw zero-mul at (ltb_scaled (ltb 0 (a + b)) 0 (a + b) refl))
  below_scaled true true a b = ltb_scaled (ltb b a) b a refl

fin_between : (r s t u : Bool) (l m n : ℕ) (c d e : ℤ) → lt (fin s l c) (fin t m d) ≡ r → lt (fin t m d) (fin u n e)
    ≡ r → lt (fin s l c) (fin u n e) ≡ r
unfolding lt
fin_between r s t u l m n c d e p q =
    let x = l * up c in
    let y = m * up d in
    let z = n * up e in
    let xy = below_scaled (down e) (down_pos e) s t (x * down d) (y * down c) in
    let yz = below_scaled (down c) (down_pos c) t u (y * down e) (z * down d) in
    let xz = below_scaled (down d) (down_pos d) s u (x * down e) (z * down c) in
    sym xz
    ∙ rw (mul_right_comm x (down e) (down d))
    (below_between r s t u _ (y * down c * down e) _ (xy ∙ p)
    (rw (mul_right_comm y (down c) (down e), mul_right_comm z (down c) (down d)) (yz ∙ q)))

-- Where x < y and y < z have one answer, x < z has it too; y is a number.
pub lt_between : (r : Bool) (x y z : Float) → is_nan y ≡ false → lt x y ≡ r → lt y z ≡ r → lt x z ≡ r
unfolding lt is_nan
lt_between r nan y z n p q = p
lt_between r (inf s) nan z n p q = absurd (true≢false n)
lt_between r (inf false) (inf t) nan n p q = p
lt_between r (inf false) (inf t) (inf u) n p q = p
lt_between r (inf false) (inf t) (fin u k e) n p q = p
lt_between r (inf false) (fin t m d) nan n p q = p
lt_between r (inf false) (fin t m d) (inf u) n p q = p
lt_between r (inf true) (inf true) z n p q = q
lt_between r (inf true) (inf false) nan n p q = q
lt_between r (inf true) (inf false) (inf u) n p q = absurd (true≢false (p ∙ sym q))
lt_between r (inf true) (inf false) (fin u k e) n p q = p
lt_between r (inf true) (fin t m d) nan n p q = q
lt_between r (inf true) (fin t m d) (inf u) n p q = q
lt_between r (inf s) (fin t m d) (fin u k e) n p q = p
lt_between r (fin s l c) nan z n p q = absurd (true≢false n)
lt_between r (fin s l c) (inf t) nan n p q = q
lt_between r (fin s l c) (inf true) (inf u) n p q = q
lt_between r (fin s l c) (inf false) (inf u) n p q = absurd (true≢false (p ∙ sym q))
lt_between r (fin s l c) (inf true) (fin u k e) n p q = absurd (true≢false (q ∙ sym p))
lt_between r (fin s l c) (inf false) (fin u k e) n p q = absurd (true≢false (p ∙ sym q))
lt_between r (fin s l c) (fin t m d) nan n p q = q
lt_between r (fin s l c) (fin t m d) (inf u) n p q = q
lt_between r (fin s l c) (fin t m d) (fin u k e) n p q = fin_between r s t u l m k c d e p q
