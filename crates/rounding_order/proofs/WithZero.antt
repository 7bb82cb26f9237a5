-- A number of the format plus 0, or less 0, compares as the number itself. Assumes nothing.
use mathlib.Core.Path.{◌≡◌, refl, sym, ◌∙◌}
use mathlib.Core.Bool.{Bool, true, false}
use Prim.Native.Nat.{ℕ, zero, suc, ◌^◌, ◌<◌}
use native.Mathlib.Nat.{add-zero, sub-zero, zero-mul}
use native.Mathlib.Omega.{arith}
use borrow.Author.Tests.{lt-ltb, le-ltb}
use lib.Dec.{T}
use lib.IntN.{ℤ}
use lib.Pow.{pow_pos}
use lib.Ieee.{Float, nan, inf, fin, binary64, low, neg, sum, round, add, sub, lt, is_nan, fits}
use lib.Ieee.{below as is_below}
use lib.Ieee.Exact.{HasValue, round_exact}
use Rattle.rounding.specs.Leaves.{negative}
use Rattle.rounding.specs.Nearest.{in_units}
use Rattle.rounding_laws.proofs.Value.{value_number, add_at, sub_at, lt_at}
use Rattle.rounding_laws.proofs.Multiples.{made}
use Rattle.rounding_laws.proofs.Units.{worth}
use Rattle.extremes.proofs.Order.{lt_between}
use Rattle.cells.specs.Line.{plus_zero}

-- ---- numbers of one size

both_ways : (p q : Bool) → (p ≡ false → q ≡ false) → (q ≡ false → p ≡ false) → p ≡ q
both_ways true true f g = refl
both_ways true false f g = g refl
both_ways false true f g = sym (f refl)
both_ways false false f g = refl

-- x and y are numbers, and neither is below the other
record Level (x y : Float) : Type 0 where
  number : is_nan x ≡ false
  number' : is_nan y ≡ false
  not_below : lt x y ≡ false
  not_above : lt y x ≡ false

level_first : (x y z : Float) → Level x y → lt x z ≡ lt y z
level_first x y z l =
    both_ways _ _ (λ e. lt_between false y x z l.number l.not_above e)
    (λ e. lt_between false x y z l.number' l.not_below e)

level_second : (x y z : Float) → Level x y → lt z x ≡ lt z y
level_second x y z l =
    both_ways _ _ (λ e. lt_between false z x y l.number e l.not_below)
    (λ e. lt_between false z y x l.number' e l.not_above)

-- by their values in units
level_at : (x y : Float) (s t : Bool) (a : ℕ) → HasValue x s a (2 ^ low binary64) → HasValue y t a (2 ^ low binary64)
    → is_below s a t a ≡ false → is_below t a s a ≡ false → Level x y
level_at x y s t a v w p q =
    let c = 2 ^ low binary64 in
    record {
      number = value_number x s a c v;
      number' = value_number y t a c w;
      not_below = lt_at x y s a t a c (pow_pos (low binary64)) v w ∙ p;
      not_above = lt_at y x t a s a c (pow_pos (low binary64)) w v ∙ q;
    }

same_below : (s : Bool) (a : ℕ) → is_below s a s a ≡ false
same_below false a = le-ltb a a (omega arith)
same_below true a = le-ltb a a (omega arith)

zero_value : HasValue plus_zero false 0 (2 ^ low binary64)
zero_value = (refl, zero-mul (2 ^ low binary64))

-- ---- what a sum with 0 is rounded from

sum_less : (s : Bool) (a c : ℕ) → sum binary64 s a true 0 c ≡ round binary64 s a c
unfolding sum
sum_less true a c = rw add-zero
sum_less false a c = rw (le-ltb a 0 (omega arith), sub-zero)

sum_more : (a c : ℕ) → sum binary64 false a false 0 c ≡ round binary64 false a c
unfolding sum
sum_more a c = rw add-zero

sum_more_below : (a c : ℕ) → sum binary64 true (suc a) false 0 c ≡ round binary64 true (suc a) c
unfolding sum
sum_more_below a c = rw (le-ltb (suc a) 0 (omega arith), lt-ltb 0 (suc a) (omega arith), sub-zero)

sum_more_zero : (c : ℕ) → sum binary64 true 0 false 0 c ≡ round binary64 false 0 c
unfolding sum
sum_more_zero c = refl

-- ---- a number of the format

module _ (s : Bool) (m : ℕ) (e : ℤ) (F : T (fits binary64 (fin s m e))) where
  unit_pos : 0 < 2 ^ low binary64
  unit_pos = pow_pos (low binary64)

  value : HasValue (fin s m e) s (in_units binary64 (fin s m e)) (2 ^ low binary64)
  unfolding negative
  value = (worth (fin s m e) (record { fit = F; ends = tt })).value

  exact : (t : Bool) {a : ℕ} → in_units binary64 (fin s m e) ≡ a
      → HasValue (round binary64 t a (2 ^ low binary64)) t a (2 ^ low binary64)
  exact t {a} is =
      let (q, k) = made binary64 (fin s m e) F tt in
      round_exact binary64 t a (2 ^ low binary64) q k.j unit_pos k.short k.under (rw (sym is, k.is))

  less_level : Level (sub binary64 (fin s m e) plus_zero) (fin s m e)
  less_level =
      let a = in_units binary64 (fin s m e) in
      let is = sub_at (fin s m e) plus_zero s a false 0 (2 ^ low binary64) unit_pos value zero_value binary64
      ∙ sum_less s a (2 ^ low binary64) in
      level_at _ (fin s m e) s s a (rw is (exact s refl)) value (same_below s a) (same_below s a)

  plus_is : (a : ℕ) → in_units binary64 (fin s m e) ≡ a
      → add binary64 (fin s m e) plus_zero ≡ sum binary64 s a false 0 (2 ^ low binary64)
  plus_is a is =
      add_at (fin s m e) plus_zero s a false 0 (2 ^ low binary64) unit_pos (rw is at value) zero_value binary64

plus_level : (s : Bool) (m : ℕ) (e : ℤ) → T (fits binary64 (fin s m e))
    → Level (add binary64 (fin s m e) plus_zero) (fin s m e)
plus_level false m e F =
    let c = 2 ^ low binary64 in
    let a = in_units binary64 (fin false m e) in
    let is = plus_is false m e F a refl ∙ sum_more a c in
    level_at _ (fin false m e) false false a (rw is (exact false m e F false refl)) (value false m e F)
    (same_below false a) (same_below false a)
plus_level true m e F = go (in_units binary64 (fin true m e)) refl
  where
    go : (a : ℕ) → in_units binary64 (fin true m e) ≡ a → Level (add binary64 (fin true m e) plus_zero) (fin true m e)
    go zero h =
        let is = plus_is true m e F 0 h ∙ sum_more_zero (2 ^ low binary64) in
        level_at _ (fin true m e) false true 0 (rw is (exact true m e F false h)) (rw h at (value true m e F)) refl refl
    go (suc a) h =
        let is = plus_is true m e F (suc a) h ∙ sum_more_below a (2 ^ low binary64) in
        level_at _ (fin true m e) true true (suc a) (rw is (exact true m e F true h)) (rw h at (value true m e F))
        (same_below true (suc a)) (same_below true (suc a))

-- ---- the laws

plus_other : (add binary64 nan plus_zero ≡ nan) × ((s : Bool) → add binary64 (inf s) plus_zero ≡ inf s)
unfolding add
plus_other = (refl, λ s. refl)

less_other : (sub binary64 nan plus_zero ≡ nan) × ((s : Bool) → sub binary64 (inf s) plus_zero ≡ inf s)
unfolding sub add neg
less_other = (refl, λ s. refl)

pub lt_plus_zero : (x y : Float) → T (fits binary64 x) → lt (add binary64 x plus_zero) y ≡ lt x y
lt_plus_zero nan y F = rw plus_other.0
lt_plus_zero (inf s) y F = rw (plus_other.1 s)
lt_plus_zero (fin s m e) y F = level_first _ _ y (plus_level s m e F)

pub lt_less_zero : (x y : Float) → T (fits binary64 x) → lt y (sub binary64 x plus_zero) ≡ lt y x
lt_less_zero nan y F = rw less_other.0
lt_less_zero (inf s) y F = rw (less_other.1 s)
lt_less_zero (fin s m e) y F = level_second _ _ y (less_level s m e F)
