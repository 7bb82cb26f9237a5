-- The order of the numbers outward, to an infinity, in which a NaN is as far out as that infinity. A rounded sum, a
-- rounded difference and a rounded product with what is not below 0 keep it, whatever floats they are made from.
-- Assumes nothing.
use mathlib.Core.Path.{◌≡◌, refl, sym, ◌∙◌}
use mathlib.Core.Bool.{Bool, true, false, not, cond, true≢false}
use Prim.Native.Nat.{ℕ, zero, suc, ◌+◌, ◌*◌}
use native.Mathlib.Nat.{zero-lt-suc, mul-pos, mul_comm, add_comm}
use native.Mathlib.Omega.{arith}
use borrow.Author.Tests.{le-ltb, ltb-false}
use lib.Dec.{eqb}
use lib.IntN.{ℤ, pos}
use lib.Ieee.{Float, nan, inf, fin, Format, binary64, up, down, neg, sum, add, sub, mul, lt, is_nan}
use lib.Ieee.Fits.{up_pos}
use Rattle.rounding_laws.proofs.Whole.{sum_turned}
use Rattle.extremes.proofs.Order.{lt_between}
use Rattle.cells.specs.Line.{plus_zero}
use Rattle.rounding_order.proofs.Compared.{either_way}
use Rattle.rounding_order.proofs.Rounded.{
  neg_order,
  add_order,
  add_number,
  mul_order,
  mul_above,
  mul_number,
  not_under,
}

-- x, with the infinity of the sign u in the place of a NaN
abbrev pub far : Bool → Float → Float
far u nan = inf u
far u (inf s) = inf s
far u (fin s m e) = fin s m e

-- x is no farther out than y: upward where u is false, and downward where it is true
abbrev pub Inside : Bool → Float → Float → Type 0
Inside false x y = lt (far false y) (far false x) ≡ false
Inside true x y = lt (far true x) (far true y) ≡ false

-- ---- an order

far_number : (u : Bool) (x : Float) → is_nan (far u x) ≡ false
unfolding is_nan
far_number u nan = refl
far_number u (inf s) = refl
far_number u (fin s m e) = refl

far_same : (u : Bool) (x : Float) → is_nan x ≡ false → far u x ≡ x
unfolding is_nan
far_same u nan n = absurd (true≢false n)
far_same u (inf s) n = refl
far_same u (fin s m e) n = refl

pub lt_self : (x : Float) → lt x x ≡ false
unfolding lt
lt_self nan = refl
lt_self (inf true) = refl
lt_self (inf false) = refl
lt_self (fin false m e) = le-ltb (m * up e * down e) (m * up e * down e) (omega arith)
lt_self (fin true m e) = le-ltb (m * up e * down e) (m * up e * down e) (omega arith)

pub inside_self : (u : Bool) (x : Float) → Inside u x x
inside_self false x = lt_self (far false x)
inside_self true x = lt_self (far true x)

pub inside_trans : (u : Bool) (x y z : Float) → Inside u x y → Inside u y z → Inside u x z
inside_trans false x y z p q = lt_between false (far false z) (far false y) (far false x) (far_number false y) q p
inside_trans true x y z p q = lt_between false (far true x) (far true y) (far true z) (far_number true y) p q

-- nothing is farther out than the infinity, and nothing farther in than the other one
pub inside_top : (u : Bool) (x : Float) → Inside u x (inf u)
unfolding lt
inside_top false nan = refl
inside_top false (inf s) = refl
inside_top false (fin s m e) = refl
inside_top true nan = refl
inside_top true (inf false) = refl
inside_top true (inf true) = refl
inside_top true (fin s m e) = refl

inside_bottom : (u : Bool) (x : Float) → Inside u (inf (not u)) x
unfolding lt
inside_bottom false nan = refl
inside_bottom false (inf false) = refl
inside_bottom false (inf true) = refl
inside_bottom false (fin s m e) = refl
inside_bottom true nan = refl
inside_bottom true (inf s) = refl
inside_bottom true (fin s m e) = refl

-- ---- what is outside of a bound is outside of one farther in

pub far_above : (x s : Float) → lt (far false x) s ≡ lt x s
unfolding lt
far_above nan nan = refl
far_above nan (inf t) = refl
far_above nan (fin t n d) = refl
far_above (inf r) s = refl
far_above (fin r m e) s = refl

far_below : (s x : Float) → lt s (far true x) ≡ lt s x
unfolding lt
far_below nan nan = refl
far_below (inf false) nan = refl
far_below (inf true) nan = refl
far_below (fin t n d) nan = refl
far_below s (inf r) = refl
far_below s (fin r m e) = refl

pub above_both : (x y s : Float) → Inside false x y → lt y s ≡ true → lt x s ≡ true
above_both x y s h e =
    either_way _
    (λ z. true≢false
    (sym e ∙ sym (far_above y s) ∙ lt_between false (far false y) (far false x) s (far_number false x) h
    (far_above x s ∙ z)))

pub below_both : (x y s : Float) → Inside true x y → lt s y ≡ true → lt s x ≡ true
below_both x y s h e =
    either_way _
    (λ z. true≢false
    (sym e ∙ sym (far_below s y) ∙ lt_between false s (far true x) (far true y) (far_number true x)
    (far_below s x ∙ z) h))

-- ---- opposites

far_turned : (u : Bool) (x : Float) → far (not u) (neg x) ≡ neg (far u x)
unfolding neg
far_turned u nan = refl
far_turned u (inf s) = refl
far_turned u (fin s m e) = refl

pub neg_inside : (u : Bool) (x y : Float) → Inside u x y → Inside (not u) (neg x) (neg y)
neg_inside false x y h = rw (far_turned false x, far_turned false y, neg_order) h
neg_inside true x y h = rw (far_turned true x, far_turned true y, neg_order) h

-- ---- sums and differences

sum_comm : (f : Format) (s t : Bool) (a b c : ℕ) → sum f s a t b c ≡ sum f t b s a c
unfolding sum
sum_comm f false false a b c = rw (add_comm a b)
sum_comm f true true a b c = rw (add_comm a b)
sum_comm f true false a b c = sum_turned f a b c
sum_comm f false true a b c = sym (sum_turned f b a c)

pub add_swap : (f : Format) (x y : Float) → add f x y ≡ add f y x
unfolding add
add_swap f nan nan = refl
add_swap f nan (inf t) = refl
add_swap f nan (fin t n d) = refl
add_swap f (inf s) nan = refl
add_swap f (inf false) (inf false) = refl
add_swap f (inf false) (inf true) = refl
add_swap f (inf true) (inf false) = refl
add_swap f (inf true) (inf true) = refl
add_swap f (inf s) (fin t n d) = refl
add_swap f (fin s m e) nan = refl
add_swap f (fin s m e) (inf t) = refl
add_swap f (fin s m e) (fin t n d) =
    rw (mul_comm (down d) (down e)) (sum_comm f s t (m * up e * down d) (n * up d * down e) (down e * down d))

pub add_inside : (u : Bool) (c x y : Float) → Inside u x y → Inside u (add binary64 c x) (add binary64 c y)
unfolding add lt
add_inside false nan x y h = refl
add_inside false (inf s) x nan h = inside_top false (add binary64 (inf s) x)
add_inside false (inf false) x (inf false) h = inside_top false (add binary64 (inf false) x)
add_inside false (inf false) x (inf true) h = inside_top false (add binary64 (inf false) x)
add_inside false (inf false) x (fin t n d) h = inside_top false (add binary64 (inf false) x)
add_inside false (inf true) x (inf false) h = inside_top false (add binary64 (inf true) x)
add_inside false (inf true) nan (inf true) h = absurd (true≢false h)
add_inside false (inf true) (inf false) (inf true) h = absurd (true≢false h)
add_inside false (inf true) (inf true) (inf true) h = refl
add_inside false (inf true) (fin s m e) (inf true) h = refl
add_inside false (inf true) nan (fin t n d) h = absurd (true≢false h)
add_inside false (inf true) (inf false) (fin t n d) h = absurd (true≢false h)
add_inside false (inf true) (inf true) (fin t n d) h = refl
add_inside false (inf true) (fin s m e) (fin t n d) h = refl
add_inside false (fin r l b) x nan h = inside_top false (add binary64 (fin r l b) x)
add_inside false (fin r l b) x (inf false) h = inside_top false (add binary64 (fin r l b) x)
add_inside false (fin r l b) nan (inf true) h = absurd (true≢false h)
add_inside false (fin r l b) (inf false) (inf true) h = absurd (true≢false h)
add_inside false (fin r l b) (inf true) (inf true) h = refl
add_inside false (fin r l b) (fin s m e) (inf true) h = absurd (true≢false h)
add_inside false (fin r l b) nan (fin t n d) h = absurd (true≢false h)
add_inside false (fin r l b) (inf false) (fin t n d) h = absurd (true≢false h)
add_inside false (fin r l b) (inf true) (fin t n d) h = inside_bottom false (add binary64 (fin r l b) (fin t n d))
add_inside false (fin r l b) (fin s m e) (fin t n d) h =
    rw (far_same false _ (add_number r s l m b e), far_same false _ (add_number r t l n b d))
    (add_order r s t l m n b e d h)
add_inside true nan x y h = refl
add_inside true (inf s) x nan h = inside_top true (add binary64 (inf s) x)
add_inside true (inf true) x (inf true) h = inside_top true (add binary64 (inf true) x)
add_inside true (inf true) x (inf false) h = inside_top true (add binary64 (inf true) x)
add_inside true (inf true) x (fin t n d) h = inside_top true (add binary64 (inf true) x)
add_inside true (inf false) x (inf true) h = inside_top true (add binary64 (inf false) x)
add_inside true (inf false) nan (inf false) h = absurd (true≢false h)
add_inside true (inf false) (inf true) (inf false) h = absurd (true≢false h)
add_inside true (inf false) (inf false) (inf false) h = refl
add_inside true (inf false) (fin s m e) (inf false) h = refl
add_inside true (inf false) nan (fin t n d) h = absurd (true≢false h)
add_inside true (inf false) (inf true) (fin t n d) h = absurd (true≢false h)
add_inside true (inf false) (inf false) (fin t n d) h = refl
add_inside true (inf false) (fin s m e) (fin t n d) h = refl
add_inside true (fin r l b) x nan h = inside_top true (add binary64 (fin r l b) x)
add_inside true (fin r l b) x (inf true) h = inside_top true (add binary64 (fin r l b) x)
add_inside true (fin r l b) nan (inf false) h = absurd (true≢false h)
add_inside true (fin r l b) (inf true) (inf false) h = absurd (true≢false h)
add_inside true (fin r l b) (inf false) (inf false) h = refl
add_inside true (fin r l b) (fin s m e) (inf false) h = absurd (true≢false h)
add_inside true (fin r l b) nan (fin t n d) h = absurd (true≢false h)
add_inside true (fin r l b) (inf true) (fin t n d) h = absurd (true≢false h)
add_inside true (fin r l b) (inf false) (fin t n d) h = inside_bottom true (add binary64 (fin r l b) (fin t n d))
add_inside true (fin r l b) (fin s m e) (fin t n d) h =
    rw (far_same true _ (add_number r s l m b e), far_same true _ (add_number r t l n b d))
    (add_order r t s l n m b d e h)

pub add_inside_first : (u : Bool) (c x y : Float) → Inside u x y → Inside u (add binary64 x c) (add binary64 y c)
add_inside_first u c x y h = rw (add_swap binary64 x c, add_swap binary64 y c) (add_inside u c x y h)

pub sub_inside : (u : Bool) (c x y : Float) → Inside u x y → Inside (not u) (sub binary64 c x) (sub binary64 c y)
unfolding sub
sub_inside u c x y h = add_inside (not u) c (neg x) (neg y) (neg_inside u x y h)

pub sub_inside_first : (u : Bool) (c x y : Float) → Inside u x y → Inside u (sub binary64 x c) (sub binary64 y c)
unfolding sub
sub_inside_first u c x y h = add_inside_first u (neg c) x y h

-- ---- products

pub no_parts : (n : ℕ) (d : ℤ) → lt (fin true n d) plus_zero ≡ false → n ≡ 0
no_parts zero d h = refl
no_parts (suc n) d h =
    let some = mul-pos (zero-lt-suc n) (up_pos d) in
    let none = ltb-false 0 (suc n * up d + 0) (not_under true (suc n) d h) in
    absurd (omega arith)

-- an infinity times what is not below 0
infinite : (s : Bool) (n : ℕ) (d : ℤ) → lt (fin s n d) plus_zero ≡ false
    → (x : Float) → Inside false x (cond (eqb n 0) nan (inf s))
infinite true n d h x = rw (no_parts n d h) (inside_top false x)
infinite false n d h x = go (eqb n 0)
  where
    go : (t : Bool) → Inside false x (cond t nan (inf false))
    go true = inside_top false x
    go false = inside_top false x

pub infinite_above : (s : Bool) (n : ℕ) (d : ℤ) → lt (fin s n d) plus_zero ≡ false
    → lt (cond (eqb n 0) nan (inf s)) plus_zero ≡ false
unfolding lt
infinite_above true n d h = rw (no_parts n d h) refl
infinite_above false n d h = go (eqb n 0)
  where
    go : (t : Bool) → lt (cond t nan (inf false)) plus_zero ≡ false
    go true = refl
    go false = refl

-- a product of what is not below 0 is not below 0
pub product_above : (k x : Float) → lt k plus_zero ≡ false → lt x plus_zero ≡ false → lt (mul binary64 k x) plus_zero
    ≡ false
unfolding mul lt
product_above nan x p q = refl
product_above (inf true) x p q = absurd (true≢false p)
product_above (inf false) nan p q = refl
product_above (inf false) (inf false) p q = refl
product_above (inf false) (inf true) p q = absurd (true≢false q)
product_above (inf false) (fin false n d) p q = infinite_above false n d q
product_above (inf false) (fin true n d) p q = infinite_above true n d q
product_above (fin s m e) nan p q = refl
product_above (fin false m e) (inf false) p q = infinite_above false m e p
product_above (fin true m e) (inf false) p q = infinite_above true m e p
product_above (fin s m e) (inf true) p q = absurd (true≢false q)
product_above (fin s m e) (fin t n d) p q = mul_above s m e p t n d q

-- times a k that is not below 0, a number from 0 up is no farther out than one that is not below it
pub mul_inside : (k x y : Float) → lt k plus_zero ≡ false → lt x plus_zero ≡ false → is_nan x ≡ false → lt y x ≡ false
    → Inside false (mul binary64 k x) (mul binary64 k y)
unfolding mul lt is_nan
mul_inside k nan y p q n h = absurd (true≢false n)
mul_inside k (inf true) y p q n h = absurd (true≢false q)
mul_inside k (inf false) (inf true) p q n h = absurd (true≢false h)
mul_inside k (inf false) (inf false) p q n h = inside_self false (mul binary64 k (inf false))
mul_inside k (inf false) (fin t i d) p q n h = absurd (true≢false h)
mul_inside nan (inf false) nan p q n h = refl
mul_inside (inf r) (inf false) nan p q n h = inside_top false (mul binary64 (inf r) (inf false))
mul_inside (fin r l b) (inf false) nan p q n h = inside_top false (mul binary64 (fin r l b) (inf false))
mul_inside nan (fin s m e) nan p q n h = refl
mul_inside (inf r) (fin s m e) nan p q n h = inside_top false (mul binary64 (inf r) (fin s m e))
mul_inside (fin r l b) (fin s m e) nan p q n h = inside_top false (mul binary64 (fin r l b) (fin s m e))
mul_inside k (fin s m e) (inf true) p q n h = absurd (true≢false h)
mul_inside nan (fin s m e) (inf false) p q n h = refl
mul_inside (inf true) (fin s m e) (inf false) p q n h = absurd (true≢false p)
mul_inside (inf false) (fin s m e) (inf false) p q n h = inside_top false (mul binary64 (inf false) (fin s m e))
mul_inside (fin false l b) (fin s m e) (inf false) p q n h = infinite false l b p
    (mul binary64 (fin false l b) (fin s m e))
mul_inside (fin true l b) (fin s m e) (inf false) p q n h = infinite true l b p
    (mul binary64 (fin true l b) (fin s m e))
mul_inside nan (fin s m e) (fin t i d) p q n h = refl
mul_inside (inf true) (fin s m e) (fin t i d) p q n h = absurd (true≢false p)
mul_inside (inf false) (fin s m e) (fin false i d) p q n h =
    infinite false i d (lt_between false (fin false i d) (fin s m e) plus_zero refl h q)
    (mul binary64 (inf false) (fin s m e))
mul_inside (inf false) (fin s m e) (fin true i d) p q n h =
    infinite true i d (lt_between false (fin true i d) (fin s m e) plus_zero refl h q)
    (mul binary64 (inf false) (fin s m e))
mul_inside (fin r l b) (fin s m e) (fin t i d) p q n h =
    let x = mul binary64 (fin r l b) (fin s m e) in
    let y = mul binary64 (fin r l b) (fin t i d) in
    rw (far_same false x (mul_number r s l m b e), far_same false y (mul_number r t l i b d))
    (mul_order r l b p s t m i e d h)

-- ---- across the middle

-- from the opposite of q up to p, for p and q that are not below 0
pub across : (p q : Float) → lt p plus_zero ≡ false → lt q plus_zero ≡ false → Inside false p q → Inside true p (neg q)
unfolding neg lt is_nan
across p nan a b h = inside_top true p
across p (inf false) a b h = inside_top true p
across p (inf true) a b h = absurd (true≢false b)
across nan (fin t n d) a b h = absurd (true≢false h)
across (inf false) (fin t n d) a b h = absurd (true≢false h)
across (inf true) (fin t n d) a b h = absurd (true≢false a)
across (fin s m e) (fin t n d) a b h =
    let q = fin t n d in
    let under : lt plus_zero (neg q) ≡ false =
    neg_order (fin true 0 (pos 0)) q ∙ lt_between false q plus_zero (fin true 0 (pos 0)) refl b refl in
    lt_between false (fin s m e) plus_zero (neg q) refl a under
