-- A rounded sum and a rounded product keep the order of what they are made from. Assumes nothing.
use mathlib.Core.Path.{◌≡◌, refl, sym, ◌∙◌}
use mathlib.Core.Bool.{Bool, true, false, ◌&&◌, ◌||◌, cond, true≢false}
use Prim.Native.Nat.{ℕ, ◌+◌, ◌-◌, ◌*◌, ◌<◌, ◌≤◌}
use native.Mathlib.Nat.{
  zero-lt-suc,
  zero-mul,
  mul-zero,
  mul-one,
  mul-pos,
  mul_assoc,
  mul_comm,
  mul_left_comm,
  mul-le-mul_left,
  mul-le-mul_right,
  add-zero,
  zero-add,
  add_comm,
}
use native.Mathlib.Omega.{arith}
use borrow.Author.Tests.{ltb-true, ltb-false, le-ltb, eqb-true}
use lib.Dec.{T, ltb, eqb}
use lib.IntN.{ℤ}
use lib.Ieee.{Float, nan, inf, fin, binary64, up, down, unlike, level, round, neg, sum, add, mul, lt, eq, le, is_nan}
use lib.Ieee.{below as is_below}
use lib.Ieee.Exact.{HasValue}
use lib.Ieee.Fits.{down_pos}
use lib.Ieee.Order.{round_mono}
use lib.Ieee.Scale.{round_same}
use Rattle.rounding_laws.proofs.Value.{add_at, mul_at, lt_at}
use Rattle.rounding_laws.proofs.Whole.{sum_turned}
use Rattle.rounding.specs.Leaves.{negative}
use Rattle.rounding.proofs.Signs.{round_plain, round_turned}
use Rattle.cells.specs.Line.{plus_zero}

-- ---- the opposite number

-- opposites have the opposite order
pub neg_order : (x y : Float) → lt (neg x) (neg y) ≡ lt y x
unfolding neg lt
neg_order nan nan = refl
neg_order nan (inf t) = refl
neg_order nan (fin t n d) = refl
neg_order (inf s) nan = refl
neg_order (inf false) (inf false) = refl
neg_order (inf false) (inf true) = refl
neg_order (inf true) (inf false) = refl
neg_order (inf true) (inf true) = refl
neg_order (inf s) (fin t n d) = refl
neg_order (fin s m e) nan = refl
neg_order (fin s m e) (inf false) = refl
neg_order (fin s m e) (inf true) = refl
neg_order (fin false m e) (fin false n d) = refl
neg_order (fin false m e) (fin true n d) = rw (add_comm (m * up e * down d) (n * up d * down e))
neg_order (fin true m e) (fin false n d) = refl
neg_order (fin true m e) (fin true n d) = refl

-- ---- signs

-- what has no sign is not below what has one
signs_order : (x y : Float) → negative x ≡ false → negative y ≡ true → lt x y ≡ false
unfolding negative lt
signs_order nan y p q = refl
signs_order (inf s) nan p q = refl
signs_order (inf s) (inf t) p q = rw p
signs_order (inf s) (fin t n d) p q = p
signs_order (fin s m e) nan p q = refl
signs_order (fin s m e) (inf t) p q = rw q
signs_order (fin s m e) (fin t n d) p q = rw (p, q)

-- ---- one order

not_both : (s t : Bool) (a b : ℕ) → T (is_below s a t b || level s a t b) → is_below t b s a ≡ false
not_both false false a b h = go (ltb a b) (eqb a b) refl refl h
  where
    go : (p q : Bool) → ltb a b ≡ p → eqb a b ≡ q → T (p || (q && true)) → ltb b a ≡ false
    go true q e g h = le-ltb b a (let l = ltb-true a b e in omega arith)
    go false true e g h = le-ltb b a (let l = eqb-true a b g in omega arith)
    go false false e g h = absurd h
not_both false true a b h = go (eqb a b) (eqb a 0) refl refl h
  where
    go : (p q : Bool) → eqb a b ≡ p → eqb a 0 ≡ q → T (p && q) → ltb 0 (b + a) ≡ false
    go true true e g h = le-ltb 0 (b + a) (let l = eqb-true a b e in let k = eqb-true a 0 g in omega arith)
    go true false e g h = absurd h
    go false q e g h = absurd h
not_both true false a b h = refl
not_both true true a b h = go (ltb b a) (eqb a b) refl refl h
  where
    go : (p q : Bool) → ltb b a ≡ p → eqb a b ≡ q → T (p || (q && true)) → ltb a b ≡ false
    go true q e g h = le-ltb a b (let l = ltb-true b a e in omega arith)
    go false true e g h = le-ltb a b (let l = eqb-true a b g in omega arith)
    go false false e g h = absurd h

-- what is at most y has y not below it
pub not_below : (x y : Float) → T (le x y) → lt y x ≡ false
unfolding le lt eq
not_below nan y h = absurd h
not_below (inf s) nan h = absurd h
not_below (inf true) (inf true) h = refl
not_below (inf true) (inf false) h = refl
not_below (inf false) (inf true) h = absurd h
not_below (inf false) (inf false) h = refl
not_below (inf true) (fin t n d) h = refl
not_below (inf false) (fin t n d) h = absurd h
not_below (fin s m e) nan h = absurd h
not_below (fin s m e) (inf true) h = absurd h
not_below (fin s m e) (inf false) h = refl
not_below (fin s m e) (fin t n d) h = not_both s t (m * up e * down d) (n * up d * down e) h

-- ---- fractions with a sign, rounded

zero_order : lt (round binary64 true 0 1) (round binary64 false 0 1) ≡ false
unfolding round lt
zero_order = refl

pub zero_rounded : (c : ℕ) → 0 < c → round binary64 false 0 c ≡ plus_zero
unfolding round
zero_rounded c C = round_same binary64 false 0 c 0 1 C (zero-lt-suc 0) (simp zero-mul) ∙ refl

pub round_order : (s t : Bool) (a b c : ℕ) → 0 < c → is_below t b s a ≡ false
    → lt (round binary64 t b c) (round binary64 s a c) ≡ false
round_order false false a b c C h = not_below _ _
    (round_mono binary64 a c b c C C (mul-le-mul_right c (ltb-false b a h)))
round_order true false a b c C h =
    signs_order (round binary64 false b c) (round binary64 true a c) (round_plain false b c).0
    (round_plain true a c).0
round_order false true a b c C h =
    let l = ltb-false 0 (b + a) h in
    let p : a ≡ 0 = omega arith in
    let q : b ≡ 0 = omega arith in
    rw (
      p,
      q,
      round_same binary64 true 0 c 0 1 C (zero-lt-suc 0) (simp zero-mul),
      round_same binary64 false 0 c 0 1 C (zero-lt-suc 0) (simp zero-mul),
    )
    zero_order
round_order true true a b c C h =
    rw (round_turned binary64 a c, round_turned binary64 b c, neg_order)
    (not_below _ _ (round_mono binary64 b c a c C C (mul-le-mul_right c (ltb-false a b h))))

-- ---- sums

-- what a number a with the sign s has above 0, and below it
abbrev pub plus : Bool → ℕ → ℕ
plus s a = cond s 0 a

abbrev pub minus : Bool → ℕ → ℕ
minus s a = cond s a 0

pub below_parts : (s t : Bool) (a b : ℕ) → is_below s a t b ≡ ltb (plus s a + minus t b) (plus t b + minus s a)
below_parts false false a b = simp add-zero
below_parts false true a b = sym (le-ltb (a + b) (0 + 0) (omega arith))
below_parts true false a b = rw (add_comm a b)
below_parts true true a b = simp zero-add

not_less : (s t : Bool) (a b : ℕ) → plus s a + minus t b ≤ plus t b + minus s a → is_below t b s a ≡ false
not_less s t a b h = below_parts t s b a ∙ le-ltb (plus t b + minus s a) (plus s a + minus t b) h

-- x is (p - n) / c, rounded
record Rounds (x : Float) (p n c : ℕ) : Type 0 where
  sign : Bool
  count : ℕ
  is : x ≡ round binary64 sign count c
  of : plus sign count + n ≡ p + minus sign count

sum_rounds : (s t : Bool) (a b c : ℕ) → Rounds (sum binary64 s a t b c) (plus s a + plus t b) (minus s a + minus t b) c
unfolding sum
sum_rounds false false a b c = record { sign = false; count = a + b; is = refl; of = omega arith }
sum_rounds true true a b c = record { sign = true; count = a + b; is = refl; of = omega arith }
sum_rounds false true a b c = go (ltb a b) refl
  where
    go : (p : Bool) → ltb a b ≡ p
        → Rounds (cond p (round binary64 true (b - a) c) (round binary64 false (a - b) c)) (a + 0) (0 + b) c
    go true e = let l = ltb-true a b e in record { sign = true; count = b - a; is = refl; of = omega arith }
    go false e = let l = ltb-false a b e in record { sign = false; count = a - b; is = refl; of = omega arith }
sum_rounds true false a b c = rw (sum_turned binary64 a b c) (go (ltb b a) refl)
  where
    go : (p : Bool) → ltb b a ≡ p
        → Rounds (cond p (round binary64 true (a - b) c) (round binary64 false (b - a) c)) (0 + b) (a + 0) c
    go true e = let l = ltb-true b a e in record { sign = true; count = a - b; is = refl; of = omega arith }
    go false e = let l = ltb-false b a e in record { sign = false; count = b - a; is = refl; of = omega arith }

pub sum_order : (r s t : Bool) (d a b c : ℕ) → 0 < c → is_below t b s a ≡ false
    → lt (sum binary64 r d t b c) (sum binary64 r d s a c) ≡ false
sum_order r s t d a b c C h =
    let x = sum_rounds r s d a c in
    let y = sum_rounds r t d b c in
    let l : plus s a + minus t b ≤ plus t b + minus s a = ltb-false _ _ (sym (below_parts t s b a) ∙ h) in
    rw (x.is, y.is)
    (round_order x.sign y.sign x.count y.count c C
    (not_less x.sign y.sign x.count y.count (omega (arith, x.of, y.of))))

-- ---- products

under_zero : (s : Bool) (a : ℕ) → is_below s a false 0 ≡ false → s ≡ true → a ≡ 0
under_zero true a h e = let l = ltb-false 0 (a + 0) h in omega arith
under_zero false a h e = absurd (true≢false (sym e))

none_below : (s t : Bool) → is_below s 0 t 0 ≡ false
none_below false false = refl
none_below false true = refl
none_below true false = refl
none_below true true = refl

product_order : (r s t : Bool) (k a b : ℕ) → is_below r k false 0 ≡ false → is_below t b s a ≡ false
    → is_below (unlike r t) (k * b) (unlike r s) (k * a) ≡ false
product_order true s t k a b p h = rw (under_zero true k p refl, zero-mul a, zero-mul b)
    (none_below (unlike true t) (unlike true s))
product_order false false false k a b p h = le-ltb (k * b) (k * a) (mul-le-mul_left k (ltb-false b a h))
product_order false true false k a b p h = refl
product_order false false true k a b p h =
    let l = ltb-false 0 (b + a) h in
    let e : a ≡ 0 = omega arith in
    let g : b ≡ 0 = omega arith in
    rw (e, g, mul-zero k) refl
product_order false true true k a b p h = le-ltb (k * a) (k * b) (mul-le-mul_left k (ltb-false a b h))

product_above : (r s : Bool) (k a : ℕ) → is_below r k false 0 ≡ false → is_below s a false 0 ≡ false
    → is_below (unlike r s) (k * a) false 0 ≡ false
product_above true s k a p h = rw (under_zero true k p refl, zero-mul a) (none_below (unlike true s) false)
product_above false true k a p h = rw (under_zero true a h refl, mul-zero k) refl
product_above false false k a p h = le-ltb (k * a) 0 (omega arith)

-- ---- numbers on one scale

-- x as a number of parts with a sign, of which c make 1
pub record Parts (x : Float) (c : ℕ) : Type 0 where
  pub sign : Bool
  pub count : ℕ
  pub value : HasValue x sign count c

pub parts : (s : Bool) (m : ℕ) (e : ℤ) (k c : ℕ) → down e * k ≡ c → Parts (fin s m e) c
parts s m e k c h =
    record { sign = s; count = m * up e * k; value = (refl, rw (← h) (simp (mul_assoc, mul_comm, mul_left_comm))) }

-- a sum is no less where what is added is no less
pub add_order : (r s t : Bool) (l m n : ℕ) (d e g : ℤ) → lt (fin t n g) (fin s m e) ≡ false
    → lt (add binary64 (fin r l d) (fin t n g)) (add binary64 (fin r l d) (fin s m e)) ≡ false
add_order r s t l m n d e g h =
    let c = down d * (down e * down g) in
    let C : 0 < c = mul-pos (down_pos d) (mul-pos (down_pos e) (down_pos g)) in
    let z = parts r l d (down e * down g) c refl in
    let x = parts s m e (down d * down g) c (mul_left_comm (down e) (down d) (down g)) in
    let y = parts t n g (down d * down e) c (simp (mul_comm, mul_left_comm)) in
    rw (
      add_at (fin r l d) (fin t n g) z.sign z.count y.sign y.count c C z.value y.value binary64,
      add_at (fin r l d) (fin s m e) z.sign z.count x.sign x.count c C z.value x.value binary64,
    )
    (sum_order z.sign x.sign y.sign z.count x.count y.count c C
    (sym (lt_at (fin t n g) (fin s m e) y.sign y.count x.sign x.count c C y.value x.value) ∙ h))

pub add_number : (r s : Bool) (l m : ℕ) (d e : ℤ) → is_nan (add binary64 (fin r l d) (fin s m e)) ≡ false
unfolding add
add_number r s l m d e =
    let x = sum_rounds r s (l * up d * down e) (m * up e * down d) (down d * down e) in
    rw x.is (round_plain x.sign x.count (down d * down e)).1

pub not_under : (s : Bool) (m : ℕ) (e : ℤ) → lt (fin s m e) plus_zero ≡ false → is_below s (m * up e) false 0 ≡ false
unfolding lt
not_under s m e h =
    let none : 0 * 1 * down e ≡ 0 = omega arith in rw (mul-one (m * up e), none) at h

module _ (r : Bool) (l : ℕ) (d : ℤ) (P : lt (fin r l d) plus_zero ≡ false) where
  -- a product with what is not below 0 is no less where the other factor is no less
  pub mul_order : (s t : Bool) (m n : ℕ) (e g : ℤ) → lt (fin t n g) (fin s m e) ≡ false
      → lt (mul binary64 (fin r l d) (fin t n g)) (mul binary64 (fin r l d) (fin s m e)) ≡ false
  mul_order s t m n e g h =
      let c = down e * down g in
      let C : 0 < c = mul-pos (down_pos e) (down_pos g) in
      let x = parts s m e (down g) c refl in
      let y = parts t n g (down e) c (mul_comm (down g) (down e)) in
      rw (
        mul_at (fin r l d) (fin t n g) r (l * up d) (down d) y.sign y.count c (down_pos d) C (refl, refl)
            y.value binary64,
        mul_at (fin r l d) (fin s m e) r (l * up d) (down d) x.sign x.count c (down_pos d) C (refl, refl)
            x.value binary64,
      )
      (round_order (unlike r x.sign) (unlike r y.sign) (l * up d * x.count) (l * up d * y.count) (down d * c)
      (mul-pos (down_pos d) C)
      (product_order r x.sign y.sign (l * up d) x.count y.count (not_under r l d P)
      (sym (lt_at (fin t n g) (fin s m e) y.sign y.count x.sign x.count c C y.value x.value) ∙ h)))

  -- and is not below 0 where the other factor is not
  pub mul_above : (s : Bool) (m : ℕ) (e : ℤ) → lt (fin s m e) plus_zero ≡ false
      → lt (mul binary64 (fin r l d) (fin s m e)) plus_zero ≡ false
  mul_above s m e h =
      let c = down d * down e in
      let C : 0 < c = mul-pos (down_pos d) (down_pos e) in
      rw (
        mul_at (fin r l d) (fin s m e) r (l * up d) (down d) s (m * up e) (down e) (down_pos d) (down_pos e)
            (refl, refl) (refl, refl) binary64,
        ← zero_rounded c C,
      )
      (round_order false (unlike r s) 0 (l * up d * (m * up e)) c C
      (product_above r s (l * up d) (m * up e) (not_under r l d P) (not_under s m e h)))

pub mul_number : (r s : Bool) (l m : ℕ) (d e : ℤ) → is_nan (mul binary64 (fin r l d) (fin s m e)) ≡ false
unfolding mul
mul_number r s l m d e = (round_plain (unlike r s) (l * up d * (m * up e)) (down d * down e)).1
