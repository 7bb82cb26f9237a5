-- Buying pressures and true ranges of accepted values are not -0.0, so that sums of them from -0.0 and from +0.0 are
-- equal. Assumes nothing.
use mathlib.Core.Path.{◌≡◌, refl, sym, ◌∙◌}
use mathlib.Core.Bool.{Bool, true, false, not, ◌&&◌, cond, true≢false}
use mathlib.Core.List.{List, [], ◌∷◌}
use Prim.Native.Nat.{ℕ, zero, suc, ◌+◌, ◌-◌, ◌*◌, ◌/◌, ◌^◌, ◌<◌, ◌≤◌}
use native.Mathlib.Nat.{zero-mul, zero-div, zero-lt-suc, mul-pos, mul-le-mul_left, mul-le-mul_right, le_refl}
use native.Mathlib.Omega.{arith}
use borrow.Author.Tests.{ltb-true, ltb-false}
use lib.Dec.{T, ltb, eqb, lit<}
use lib.IntN.{ℤ}
use lib.Pow.{pow_pos}
use lib.ListN.{length}
use lib.Ieee.{Float, nan, inf, fin, Format, binary64, prec, low, up, down, round, units, sum, sub, lt, fits, size}
use lib.Ieee.{to_bits}
use lib.Ieee.Fits.{down_pos, up_pos, round_is}
use lib.Ieee.Exact.{HasValue, units_val}
use lib.Ieee.Scale.{grid, overflow}
use Rattle.limits.specs.Limits.{value_power}
use Rattle.rounding.specs.Leaves.{negative, magnitude_of}
use Rattle.rounding.specs.Nearest.{Number, in_units}
use Rattle.rounding_laws.proofs.Error.{places, grid_near, grid_relative}
use Rattle.rounding_laws.proofs.Integers.{Near}
use Rattle.rounding_laws.proofs.Units.{worth}
use Rattle.rounding_laws.proofs.Value.{sub_at}
use Rattle.values.specs.Accepted.{accepted, within, all}
use Rattle.values.proofs.All.{all_at, and_parts}
use Rattle.cells.specs.Line.{Line, line}
use Rattle.extremes.specs.Extreme.{larger, smaller}
use Rattle.exact_ticks.proofs.Bounds.{prices_bounded}
use Rattle.windows.proofs.Zeros.{EitherZero, either_nan, either_inf, either_fin, either_plus, either_rounded}
use Rattle.std.specs.Prelude.{Option, None, Some}
use Rattle.true_range.specs.TrueRange.{true_range, true_ranges, given_before, close_before, accepted_close}
use Rattle.oscillator.specs.Oscillator.{pressure, pressures}

-- ---- a whole number of units, rounded, is not 0 unless it was

module _ (f : Format) (a : ℕ) (some : 0 < a) where
  -- what is rounded off is at most the number itself
  rounded_off : 2 ^ low f * 2 ^ places f a (2 ^ low f) ≤ a * 2 ^ low f
  rounded_off = go (ltb (size w) (prec f)) refl
    where
      c : ℕ
      c = 2 ^ low f

      w : ℕ
      w = a * c / c

      go : (t : Bool) → ltb (size w) (prec f) ≡ t → c * 2 ^ (size w - prec f) ≤ a * c
      go true e =
          let none : size w - prec f ≡ 0 = omega (arith, ltb-true (size w) (prec f) e) in
          let one : 1 * c ≤ a * c = mul-le-mul_right c some in
          rw none (omega arith)
      go false e =
          let all = grid_relative f a c (pow_pos (low f)) (omega (arith, ltb-false (size w) (prec f) e)) in
          let one = mul-le-mul_left (c * 2 ^ (size w - prec f)) (pow_pos (prec f - 1)) in
          omega arith

  some_grid : 0 < grid f a (2 ^ low f)
  some_grid = go (grid f a c) (grid_near f a c (pow_pos (low f)))
    where
      c : ℕ
      c = 2 ^ low f

      go : (g : ℕ) → Near (g * c * 2) (a * c * 2) (c * 2 ^ places f a c) → 0 < g
      go (suc g) n = zero-lt-suc g
      go zero n =
          let s = mul-pos some (pow_pos (low f)) in
          let r = rounded_off in
          let m = n.below_by in
          absurd (omega arith)

-- ---- a difference

some_digits : (m : ℕ) (e : ℤ) (u c : ℕ) → m * up e * c ≡ u * down e → 0 < u → 0 < m
some_digits (suc m) e u c v h = zero-lt-suc m
some_digits zero e u c v h = let s = mul-pos h (down_pos e) in absurd (omega (arith, zero-mul (up e), zero-mul c))

either_valued : (x : Float) (u c : ℕ) → HasValue x true u c → 0 < u → EitherZero x
either_valued nan u c v h = absurd v
either_valued (inf t) u c v h = absurd v
either_valued (fin t m e) u c (p, v) h = either_fin t m e (λ q. some_digits m e u c v h)

either_below : (q k : ℕ) → 0 < q * 2 ^ k → EitherZero (units binary64 true q k)
either_below q k h = go (ltb (q * 2 ^ k) (overflow binary64)) refl
  where
    go : (t : Bool) → ltb (q * 2 ^ k) (overflow binary64) ≡ t → EitherZero (units binary64 true q k)
    go true e = either_valued _ _ _ (units_val binary64 true q k (ltb-true _ _ e)) h
    go false e = unfold units in rw e (either_inf true)

-- a whole number of units with a sign, which is minus only where it is not 0
either_round : (s : Bool) (a : ℕ) → (s ≡ true → 0 < a) → EitherZero (round binary64 s a (2 ^ low binary64))
either_round false a h = either_rounded a (2 ^ low binary64)
either_round true a h =
    rw (round_is binary64 true a (2 ^ low binary64)) (either_below _ _ (some_grid binary64 a (h refl)))

module _ (s : Bool) (a : ℕ) (t : Bool) (b : ℕ) where
  abbrev c : ℕ
  c = 2 ^ low binary64

  apart : EitherZero (cond (ltb a b) (round binary64 t (b - a) c) (round binary64 (s && ltb b a) (a - b) c))
  apart = go (ltb a b) refl
    where
      go : (u : Bool) → ltb a b ≡ u
          → EitherZero (cond u (round binary64 t (b - a) c) (round binary64 (s && ltb b a) (a - b) c))
      go true e = either_round t (b - a) (λ q. omega (arith, ltb-true a b e))
      go false e = either_round (s && ltb b a) (a - b) (λ q. omega (arith, ltb-true b a (and_parts s _ q).1))

either_sum : (s : Bool) (a : ℕ) (t : Bool) (b : ℕ) → (s ≡ true → 0 < a)
    → EitherZero (sum binary64 s a t b (2 ^ low binary64))
unfolding sum
either_sum false a false b h = either_round false (a + b) (λ q. absurd (true≢false (sym q)))
either_sum true a true b h = either_round true (a + b) (λ q. omega (arith, h refl))
either_sum false a true b h = apart false a true b
either_sum true a false b h = apart true a false b

-- a number that is not -0.0
pub record Plain (x : Float) : Type 0 where
  pub number : Number binary64 x
  pub some : negative x ≡ true → 0 < in_units binary64 x

pub either_difference : {x y : Float} → Plain x → Plain y → EitherZero (sub binary64 x y)
either_difference {x} {y} p q =
    rw (sub_at x y _ _ _ _ (2 ^ low binary64) (pow_pos (low binary64)) (worth x p.number).value
    (worth y q.number).value binary64)
    (either_sum _ _ _ _ p.some)

-- ---- the cells

either_magnitude : (x : Float) → EitherZero (magnitude_of x)
unfolding magnitude_of
either_magnitude nan = either_nan
either_magnitude (inf s) = either_inf false
either_magnitude (fin s m e) = either_plus m e

of_two : (P : Float → Type 0) (t : Bool) {x y : Float} → P x → P y → P (cond t x y)
of_two P true p q = p
of_two P false p q = q

plain_smaller : (x y : Float) → Plain x → Plain y → Plain (smaller x y)
plain_smaller x y p q = of_two (λ z. Plain z) (lt y x) q p

either_larger : (x y : Float) → EitherZero x → EitherZero y → EitherZero (larger x y)
either_larger x y p q = of_two (λ z. EitherZero z) (lt x y) q p

-- a close before a bar that is unknown or plain
abbrev pub PlainClose : Option Float → Type 0
PlainClose None = Unit {0}
PlainClose (Some close) = Plain close

either_pressure : (low close : Float) (before : Option Float) → Plain low → Plain close → PlainClose before
    → EitherZero (pressure low close before)
unfolding pressure
either_pressure low close None p q b = either_difference q (plain_smaller low close p q)
either_pressure low close (Some before) p q b = either_difference q (plain_smaller low before p b)

either_range : (high low : Float) (before : Option Float) → Plain high → Plain low
    → EitherZero (true_range high low before)
unfolding true_range
either_range high low None p q = either_difference p q
either_range high low (Some before) p q =
    let own = sub binary64 high low in
    let above = magnitude_of (sub binary64 high before) in
    let below = magnitude_of (sub binary64 low before) in
    either_larger (larger own above) below (either_larger own above (either_difference p q) (either_magnitude _))
    (either_magnitude _)

module _ {l : ℕ} {high low close : Line} (first : Option Float) (hs : (i : ℕ) → i < l → Plain (high i))
    (ls : (i : ℕ) → i < l → Plain (low i))
    (cs : (i : ℕ) → i < l → Plain (close i))
    (f : PlainClose first) where
  plain_before : (i : ℕ) → i < l → PlainClose (close_before first close i)
  unfolding given_before
  plain_before zero h = f
  plain_before (suc i) h = cs (suc i - 1) (omega arith)

  pub either_pressures : (i : ℕ) → i < l → EitherZero (pressures first low close i)
  unfolding pressures
  either_pressures i h = either_pressure (low i) (close i) _ (ls i h) (cs i h) (plain_before i h)

  pub either_ranges : (i : ℕ) → i < l → EitherZero (true_ranges high low (close_before first close) i)
  unfolding true_ranges
  either_ranges i h = either_range (high i) (low i) _ (hs i h) (ls i h)

-- ---- accepted values

accepted_digits : (m : ℕ) (e : ℤ) → accepted (fin true m e) ≡ true → 0 < m
unfolding accepted to_bits
accepted_digits (suc m) e h = zero-lt-suc m
accepted_digits zero e h =
    let zero_bits : not (eqb (to_bits binary64 (fin true zero e)) (2 ^ 63)) ≡ false =
    rw (zero-mul (up e), zero-mul (2 ^ 1074), zero-div (down e)) in
    absurd (true≢false (sym (and_parts (within value_power (fin true zero e)) _ h).1 ∙ zero_bits))

some_units : (m : ℕ) (e : ℤ) (u c : ℕ) → m * up e * c ≡ u * down e → 0 < m → 0 < c → 0 < u
some_units m e (suc u) c v M C = zero-lt-suc u
some_units m e zero c v M C = let s = mul-pos (mul-pos M (up_pos e)) C in absurd (omega (arith, zero-mul (down e)))

plain : (x : Float) → Number binary64 x → accepted x ≡ true → Plain x
unfolding negative
plain nan n a = absurd n.ends
plain (inf s) n a = absurd n.ends
plain (fin s m e) n a = record { number = n; some = λ q. go s n a q }
  where
    go : (s : Bool) → Number binary64 (fin s m e) → accepted (fin s m e) ≡ true → negative (fin s m e) ≡ true
        → 0 < in_units binary64 (fin s m e)
    go true n a q = some_units m e _ (2 ^ low binary64) (worth (fin true m e) n).value.1 (accepted_digits m e a)
        (pow_pos (low binary64))
    go false n a q = absurd (true≢false (sym q))

pub plain_values : (s : List Float) → ((i : ℕ) → T (fits binary64 (line s i))) → all accepted s ≡ true
    → (i : ℕ) → i < length s → Plain (line s i)
plain_values s fit h i l =
    plain (line s i) (record { fit = fit i; ends = rw (prices_bounded s i h l i (le_refl i)).is tt })
    (all_at accepted s i h l)

-- a close before a bar, where it is known, is an f64
abbrev pub FitClose : Option Float → Type 0
FitClose None = Unit {0}
FitClose (Some close) = T (fits binary64 close)

pub plain_close : (first : Option Float) → FitClose first → accepted_close first ≡ true → PlainClose first
plain_close None fit a = tt
plain_close (Some close) fit a =
    let one : all accepted (close ∷ []) ≡ true = rw a in
    plain close (record { fit = fit; ends = rw (prices_bounded (close ∷ []) 0 one (lit< tt) 0 (le_refl 0)).is tt }) a
