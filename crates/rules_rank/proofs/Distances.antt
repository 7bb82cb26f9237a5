-- Distances between finite numbers, as rounded differences say them: which values are near, and which lie well below.
-- Assumes nothing.
use mathlib.Core.Path.{◌≡◌, refl, sym, ap, ◌∙◌}
use mathlib.Core.Bool.{Bool, true, false, not, ◌&&◌, cond, true≢false}
use Prim.Native.Nat.{ℕ, ◌+◌, ◌-◌, ◌*◌, ◌<◌, ◌≤◌}
use native.Mathlib.Nat.{mul-pos, mul_comm, mul_left_comm, mul-le-mul_right}
use native.Mathlib.Omega.{arith}
use borrow.Author.Tests.{ltb-true, ltb-false, lt-ltb, le-ltb, not-true, not-false}
use lib.Dec.{ltb, lit<}
use lib.IntN.{ℤ, negsuc}
use lib.Ieee.{Float, nan, inf, fin, binary64, up, down, round, sum, sub, lt, le, is_nan}
use lib.Ieee.Fits.{up_pos, down_pos}
use lib.Ieee.Order.{round_mono}
use lib.Ieee.Scale.{finite}
use Rattle.rounding_laws.proofs.Integers.{gap}
use Rattle.rounding_laws.proofs.Value.{sub_at, lt_at}
use Rattle.rounding.specs.Leaves.{negative, magnitude_of}
use Rattle.rounding.specs.Literals.{ten_to_minus}
use Rattle.rounding.proofs.Signs.{round_plain, round_magnitude}
use Rattle.values.proofs.All.{and_parts}
use Rattle.extremes.proofs.Order.{lt_between}
use Rattle.rounding_order.proofs.Compared.{either_way, le_is}
use Rattle.rounding_order.proofs.Enclosed.{neither_way}
use Rattle.rounding_order.proofs.Rounded.{plus, minus, below_parts, Parts, parts, not_below, zero_rounded}
use Rattle.cells.specs.Line.{plus_zero}
use Rattle.ranks.specs.Counted.{below_by}
use Rattle.rules_rank.specs.RollingRank.{near, well_below}

-- ---- rounded numbers

-- a rounded number without its sign
size_of : (s : Bool) {a b : ℕ} (c : ℕ) → a ≡ b → magnitude_of (round binary64 s a c) ≡ round binary64 false b c
size_of s {a} c e = round_magnitude binary64 s a c ∙ ap (λ (d : ℕ). round binary64 false d c) e

-- the size of a difference
difference_size : (s t : Bool) (a b c : ℕ)
    → magnitude_of (sum binary64 s a (not t) b c)
    ≡ round binary64 false (gap (plus s a + minus t b) (plus t b + minus s a)) c
unfolding sum
difference_size false false a b c = go (ltb a b) refl
  where
    go : (p : Bool) → ltb a b ≡ p
        → magnitude_of (cond p (round binary64 true (b - a) c) (round binary64 false (a - b) c))
        ≡ round binary64 false (gap (a + 0) (b + 0)) c
    go true e = let l = ltb-true a b e in size_of true c (omega arith)
    go false e = let l = ltb-false a b e in size_of false c (omega arith)
difference_size false true a b c = size_of false c (omega arith)
difference_size true false a b c = size_of true c (omega arith)
difference_size true true a b c = go (ltb a b) refl
  where
    go : (p : Bool) → ltb a b ≡ p
        → magnitude_of (cond p (round binary64 false (b - a) c) (round binary64 (ltb b a) (a - b) c))
        ≡ round binary64 false (gap (0 + b) (0 + a)) c
    go true e = let l = ltb-true a b e in size_of false c (omega arith)
    go false e = let l = ltb-false a b e in size_of (ltb b a) c (omega arith)

pub number : (x : Float) → finite x ≡ true → is_nan x ≡ false
unfolding is_nan
number nan e = absurd (true≢false (sym e))
number (inf s) e = refl
number (fin s m d) e = refl

shorter : (d g c : ℕ) (bound : Float) → 0 < c → g ≤ d → lt (round binary64 false d c) bound ≡ true
    → lt (round binary64 false g c) bound ≡ true
shorter d g c bound C h e =
    let small = round binary64 false g c in
    let large = round binary64 false d c in
    let less = round_mono binary64 g c d c C C (mul-le-mul_right c h) in
    let order = not_below small large less in
    either_way _ (λ z. true≢false (sym e ∙ lt_between false large small bound (round_plain false g c).1 order z))

-- ---- three numbers on one scale

record Scale (x y v : Float) : Type 0 where
  c : ℕ
  some : 0 < c
  of_x : Parts x c
  of_y : Parts y c
  of_v : Parts v c

scale : (x y v : Float) → finite x ≡ true → finite y ≡ true → finite v ≡ true → Scale x y v
scale nan y v p q r = absurd (true≢false (sym p))
scale (inf s) y v p q r = absurd (true≢false (sym p))
scale (fin s l d) nan v p q r = absurd (true≢false (sym q))
scale (fin s l d) (inf t) v p q r = absurd (true≢false (sym q))
scale (fin s l d) (fin t m e) nan p q r = absurd (true≢false (sym r))
scale (fin s l d) (fin t m e) (inf u) p q r = absurd (true≢false (sym r))
scale (fin s l d) (fin t m e) (fin u n g) p q r =
    let c = down d * (down e * down g) in
    record {
      c = c;
      some = mul-pos (down_pos d) (mul-pos (down_pos e) (down_pos g));
      of_x = parts s l d (down e * down g) c refl;
      of_y = parts t m e (down d * down g) c (mul_left_comm (down e) (down d) (down g));
      of_v = parts u n g (down d * down e) c (simp (mul_comm, mul_left_comm));
    }

module _ {x y : Float} {c : ℕ} (C : 0 < c) (p : Parts x c) (q : Parts y c) where
  lower : ℕ
  lower = plus p.sign p.count + minus q.sign q.count

  upper : ℕ
  upper = plus q.sign q.count + minus p.sign p.count

  order_is : lt x y ≡ ltb lower upper
  unfolding lower upper
  order_is =
      lt_at x y p.sign p.count q.sign q.count c C p.value q.value
      ∙ below_parts p.sign q.sign p.count q.count

  size_is : magnitude_of (sub binary64 x y) ≡ round binary64 false (gap lower upper) c
  unfolding lower upper
  size_is =
      ap magnitude_of (sub_at x y p.sign p.count q.sign q.count c C p.value q.value binary64)
      ∙ difference_size p.sign q.sign p.count q.count c

-- ---- what is near

zero_near : lt plus_zero (ten_to_minus 8) ≡ true
unfolding round lt ten_to_minus
zero_near = refl

at_zero : (c : ℕ) → 0 < c → lt (round binary64 false 0 c) (ten_to_minus 8) ≡ true
at_zero c C = rw (zero_rounded c C) zero_near

module _ (v : Float) (z : finite v ≡ true) where
  -- from x up to v, what is not below x is as near as x
  nearer : (x y : Float) → finite x ≡ true → finite y ≡ true → lt y x ≡ false → lt y v ≡ true → near v x ≡ true
      → near v y ≡ true
  unfolding lower upper
  nearer x y X Y e g h =
      let s = scale x y v X Y z in
      let C = s.some in
      let p = s.of_x in
      let q = s.of_y in
      let r = s.of_v in
      let a : upper C q p ≤ lower C q p = ltb-false _ _ (sym (order_is C q p) ∙ e) in
      let b : lower C q r < upper C q r = ltb-true _ _ (sym (order_is C q r) ∙ g) in
      rw (size_is C q r)
      (shorter (gap (lower C p r) (upper C p r)) (gap (lower C q r) (upper C q r)) s.c (ten_to_minus 8) C
      (omega arith)
      (rw (size_is C p r) at h))

  -- what is neither below v nor above it is near
  equal_near : (x : Float) → finite x ≡ true → lt x v ≡ false → lt v x ≡ false → near v x ≡ true
  unfolding lower upper
  equal_near x X e g =
      let s = scale x x v X X z in
      let C = s.some in
      let p = s.of_x in
      let r = s.of_v in
      let a : upper C p r ≤ lower C p r = ltb-false _ _ (sym (order_is C p r) ∙ e) in
      let b : upper C r p ≤ lower C r p = ltb-false _ _ (sym (order_is C r p) ∙ g) in
      let none : gap (lower C p r) (upper C p r) ≡ 0 = omega arith in
      rw (size_is C p r, none) (at_zero s.c C)

  -- so what is well below v is not above anything that is
  pub below_with : (x y : Float) → finite x ≡ true → finite y ≡ true → lt y x ≡ false → well_below v y ≡ true
      → well_below v x ≡ true
  below_with x y X Y e h =
      let (less, not_so) = and_parts (lt y v) (not (near v y)) h in
      let beyond = lt_between false y x v (number x X) e in
      let as_near = nearer x y X Y e less in
      let under : lt x v ≡ true = either_way _ (λ w. true≢false (sym less ∙ beyond w)) in
      let far : near v x ≡ false = neither_way _ (λ w. true≢false (sym (as_near w) ∙ not-true (near v y) not_so)) in
      rw (under, far)

  -- and the first value that is not well below v is near it, if it is not above v
  pub first_near : (x : Float) → finite x ≡ true → lt v x ≡ false → well_below v x ≡ false → near v x ≡ true
  first_near x X e h = go (lt x v) refl h
    where
      go : (p : Bool) → lt x v ≡ p → p && not (near v x) ≡ false → near v x ≡ true
      go true w h = not-false _ h
      go false w h = equal_near x X w e

-- ---- the test of one difference

near_is : ten_to_minus 8 ≡ fin false 0xabcc77118461d (negsuc 77)
unfolding ten_to_minus round
near_is = refl

near_number : is_nan (ten_to_minus 8) ≡ false
unfolding is_nan
near_number = rw near_is

-- a number without a sign that is not 0 is above every finite one with a sign
minus_plus : (m : ℕ) (d : ℤ) (n : ℕ) (e : ℤ) → 0 < n → lt (fin true m d) (fin false n e) ≡ true
unfolding lt
minus_plus m d n e N =
    lt-ltb 0 (m * up d * down e + n * up e * down d) (omega (arith, mul-pos (mul-pos N (up_pos e)) (down_pos d)))

-- what has its sign set is below 1e-8
minus_below : (x : Float) → negative x ≡ true → lt x (ten_to_minus 8) ≡ true
unfolding negative
minus_below nan e = absurd (true≢false (sym e))
minus_below (inf false) e = absurd (true≢false (sym e))
minus_below (inf true) e = rw near_is (unfold lt in refl)
minus_below (fin false m d) e = absurd (true≢false (sym e))
minus_below (fin true m d) e = rw near_is (minus_plus m d 0xabcc77118461d (negsuc 77) (lit< tt))

minus_not : (g c : ℕ) → le (ten_to_minus 8) (round binary64 true g c) ≡ false
minus_not g c =
    let r = round_plain true g c in
    rw (le_is (ten_to_minus 8) (round binary64 true g c) near_number r.1, minus_below (round binary64 true g c) r.0)

zero_not : (g c : ℕ) → g ≡ 0 → 0 < c → le (ten_to_minus 8) (round binary64 false g c) ≡ false
zero_not g c e C =
    rw (e, le_is (ten_to_minus 8) (round binary64 false 0 c) near_number (round_plain false 0 c).1, at_zero c C)

-- v less x, where x is below v: v is a and x is b, with their signs
more : (s t : Bool) (a b c : ℕ) → plus t b + minus s a < plus s a + minus t b
    → sum binary64 s a (not t) b c ≡ round binary64 false (gap (plus t b + minus s a) (plus s a + minus t b)) c
unfolding sum
more false false a b c h = rw (le-ltb a b (omega arith)) (ap (λ (d : ℕ). round binary64 false d c) (omega arith))
more false true a b c h = ap (λ (d : ℕ). round binary64 false d c) (omega arith)
more true false a b c h = absurd (omega arith)
more true true a b c h = rw (lt-ltb a b (omega arith)) (ap (λ (d : ℕ). round binary64 false d c) (omega arith))

-- and where it is not
no_more : (s t : Bool) (a b c : ℕ) → 0 < c → plus s a + minus t b ≤ plus t b + minus s a
    → le (ten_to_minus 8) (sum binary64 s a (not t) b c) ≡ false
unfolding sum
no_more false false a b c C h = go (ltb a b) refl
  where
    go : (p : Bool) → ltb a b ≡ p
        → le (ten_to_minus 8) (cond p (round binary64 true (b - a) c) (round binary64 false (a - b) c)) ≡ false
    go true e = minus_not (b - a) c
    go false e = let l = ltb-false a b e in zero_not (a - b) c (omega arith) C
no_more false true a b c C h = zero_not (a + b) c (omega arith) C
no_more true false a b c C h = minus_not (a + b) c
no_more true true a b c C h = rw (le-ltb a b (omega arith)) (go (ltb b a) refl)
  where
    go : (p : Bool) → ltb b a ≡ p → le (ten_to_minus 8) (round binary64 p (a - b) c) ≡ false
    go true e = minus_not (a - b) c
    go false e = let l = ltb-false b a e in zero_not (a - b) c (omega arith) C

-- what lies well below v is 1e-8 or more below it, as one rounded difference says
pub well_below_is : (v x : Float) → finite v ≡ true → finite x ≡ true → below_by (ten_to_minus 8) v x ≡ well_below v x
unfolding lower upper
well_below_is v x z X = go (ltb (lower C p r) (upper C p r)) refl
  where
    s : Scale x x v
    s = scale x x v X X z

    C : 0 < s.c
    C = s.some

    p : Parts x s.c
    p = s.of_x

    r : Parts v s.c
    r = s.of_v

    less : sub binary64 v x ≡ sum binary64 r.sign r.count (not p.sign) p.count s.c
    less = sub_at v x r.sign r.count p.sign p.count s.c C r.value p.value binary64

    go : (t : Bool) → ltb (lower C p r) (upper C p r) ≡ t → below_by (ten_to_minus 8) v x ≡ well_below v x
    go true e =
        let d = round binary64 false (gap (lower C p r) (upper C p r)) s.c in
        let above = more r.sign p.sign r.count p.count s.c (ltb-true _ _ e) in
        rw (order_is C p r ∙ e, size_is C p r, less, above)
        (le_is (ten_to_minus 8) d near_number (round_plain false _ s.c).1)
    go false e =
        rw (order_is C p r ∙ e, less) (no_more r.sign p.sign r.count p.count s.c C (ltb-false _ _ e))
