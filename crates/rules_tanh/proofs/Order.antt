-- A larger score never gives a smaller cell, whatever the signs; so every cell of a number lies from -1 to 1. Assumes
-- nothing.
use mathlib.Core.Path.{◌≡◌, refl, sym, ap, ◌∙◌}
use mathlib.Core.Bool.{Bool, true, false, not, true≢false}
use Prim.Native.Nat.{ℕ, ◌*◌, ◌≤◌}
use native.Mathlib.Nat.{le_refl}
use native.Mathlib.Omega.{arith}
use lib.Dec.{lit≤, lit<}
use lib.IntN.{pos}
use lib.Ieee.{Float, nan, inf, fin, binary64, unlike, round, neg, mul, div, lt, eq, le, of_int, of_bits, is_nan}
use lib.Ieee.Bits.{is_true}
use lib.Ieee.Order.{round_mono}
use Rattle.rounding.specs.Leaves.{one, plus_one, minus_one, negative, magnitude_of}
use Rattle.rounding.specs.Literals.{hundred}
use Rattle.rounding.proofs.Signs.{sign_is, round_plain, round_turned}
use Rattle.rounding_laws.proofs.Bounds.{values}
use Rattle.rounding_laws.proofs.Value.{mul_at, div_at}
use Rattle.rounding_laws.proofs.Whole.{whole_value}
use Rattle.rounding_order.proofs.Compared.{le_is}
use Rattle.rounding_order.proofs.Rounded.{neg_order}
use Rattle.rounding_order.proofs.Within.{Within, within_whole, FromMinusOneToOne}
use Rattle.extremes.proofs.Order.{lt_between}
use Rattle.cells.specs.Line.{plus_zero, minus_zero}
use Rattle.rules_tanh.specs.Recorded.{threshold_bits}
use Rattle.rules_tanh.specs.Tanh.{thresholds, threshold_of, largest_to, steps_of, tanh_cell}
use Rattle.rules_tanh.proofs.Thresholds.{steps_most, steps_grow}

-- ---- two numbers in order

record Ordered (x y : Float) : Type 0 where
  number : is_nan x ≡ false
  number' : is_nan y ≡ false
  not_below : lt y x ≡ false

le_numbers : (x y : Float) → le x y ≡ true → (is_nan x ≡ false) × (is_nan y ≡ false)
unfolding le lt eq is_nan
le_numbers nan y h = absurd (true≢false (sym h))
le_numbers (inf s) nan h = absurd (true≢false (sym h))
le_numbers (inf s) (inf t) h = (refl, refl)
le_numbers (inf s) (fin t n d) h = (refl, refl)
le_numbers (fin s m e) nan h = absurd (true≢false (sym h))
le_numbers (fin s m e) (inf t) h = (refl, refl)
le_numbers (fin s m e) (fin t n d) h = (refl, refl)

not-true : (p : Bool) → not p ≡ true → p ≡ false
not-true true h = absurd (true≢false (sym h))
not-true false h = refl

ordered : (x y : Float) → le x y ≡ true → Ordered x y
ordered x y h =
    let (p, q) = le_numbers x y h in
    record { number = p; number' = q; not_below = not-true (lt y x) (sym (le_is x y p q) ∙ h) }

at_most : {x y : Float} → Ordered x y → le x y ≡ true
at_most {x} {y} o = le_is x y o.number o.number' ∙ ap not o.not_below

ordered_then : {x y z : Float} → Ordered x y → Ordered y z → Ordered x z
ordered_then {x} {y} {z} p q = record {
  number = p.number;
  number' = q.number';
  not_below = lt_between false z y x p.number' q.not_below p.not_below;
}

neg_number : (x : Float) → is_nan (neg x) ≡ is_nan x
unfolding neg is_nan
neg_number nan = refl
neg_number (inf s) = refl
neg_number (fin s m e) = refl

opposites : {x y : Float} → Ordered x y → Ordered (neg y) (neg x)
opposites {x} {y} o = record {
  number = neg_number y ∙ o.number';
  number' = neg_number x ∙ o.number;
  not_below = neg_order x y ∙ o.not_below;
}

-- a number with a minus is at most one without it
signs_ordered : (x y : Float) → is_nan x ≡ false → is_nan y ≡ false → negative x ≡ true → negative y ≡ false
    → Ordered x y
unfolding negative lt is_nan
signs_ordered nan y p q s t = absurd (true≢false p)
signs_ordered (inf u) nan p q s t = absurd (true≢false q)
signs_ordered (fin u m e) nan p q s t = absurd (true≢false q)
signs_ordered (inf u) (inf v) p q s t = record { number = p; number' = q; not_below = rw (s, t) }
signs_ordered (inf u) (fin v n d) p q s t = record { number = p; number' = q; not_below = rw s }
signs_ordered (fin u m e) (inf v) p q s t = record { number = p; number' = q; not_below = t }
signs_ordered (fin u m e) (fin v n d) p q s t = record { number = p; number' = q; not_below = rw (s, t) }

-- ---- hundredths with a sign

-- k / 100, and that with a sign
abbrev share : ℕ → Float
share k = div binary64 (of_int binary64 (pos k)) hundred

abbrev hundredths : Bool → ℕ → Float
hundredths s k = mul binary64 (one s) (share k)

unlike_plain : (s : Bool) → unlike s false ≡ s
unlike_plain true = refl
unlike_plain false = refl

module _ (k : ℕ) (h : k ≤ 100) where
  share_is : share k ≡ round binary64 false (k * 1) (100 * 1)
  share_is =
      div_at (of_int binary64 (pos k)) hundred false k 1 false 100 1 (lit< tt) (lit< tt) (lit< tt)
      (whole_value binary64 (pos k) (omega arith)) (refl, refl) binary64

  parts : Within false 1 1 (share k)
  parts = rw share_is (within_whole false (k * 1) (100 * 1) 1 (lit< tt) (lit≤ tt) (omega arith))

  rounded : (s : Bool) → hundredths s k ≡ round binary64 s (1 * parts.count) (1 * parts.parts)
  rounded s =
      mul_at (one s) (share k) s 1 1 false parts.count parts.parts (lit< tt) parts.some (refl, refl)
      parts.value binary64
      ∙ rw (unlike_plain s)

  plain : (s : Bool) → (negative (hundredths s k) ≡ s) × (is_nan (hundredths s k) ≡ false)
  plain s = rw (rounded s) (round_plain s (1 * parts.count) (1 * parts.parts))

  turned : hundredths true k ≡ neg (hundredths false k)
  turned = rw (rounded true, rounded false) (round_turned binary64 (1 * parts.count) (1 * parts.parts))

-- more of them
more : (j k : ℕ) → j ≤ k → k ≤ 100 → Ordered (hundredths false j) (hundredths false k)
more j k l h =
    let few : j ≤ 100 = omega arith in
    let p = parts j few in
    let q = parts k h in
    let size = values (share j) (share k) p.count p.parts q.count q.parts p.value q.value
    (rw (share_is j few, share_is k h)
    (round_mono binary64 (j * 1) (100 * 1) (k * 1) (100 * 1) (lit< tt) (lit< tt) (omega arith))) in
    ordered _ _
    (rw (rounded j few false, rounded k h false)
    (is_true _
    (round_mono binary64 (1 * p.count) (1 * p.parts) (1 * q.count) (1 * q.parts) (omega (arith, p.some))
    (omega (arith, q.some)) (omega (arith, size)))))

-- the order of signs and numbers: more of them with a minus are less
Above : Bool → ℕ → Bool → ℕ → Type 0
Above false j false k = j ≤ k
Above true j true k = k ≤ j
Above true j false k = Unit
Above false j true k = (j ≡ 0) × (k ≡ 0)

zeros : Ordered (hundredths false 0) (hundredths true 0)
unfolding mul div of_int round lt is_nan
zeros = record { number = refl; number' = refl; not_below = refl }

in_order : (s t : Bool) (j k : ℕ) → j ≤ 100 → k ≤ 100 → Above s j t k → Ordered (hundredths s j) (hundredths t k)
unfolding Above
in_order false false j k h l o = more j k o l
in_order true true j k h l o = rw (turned j h, turned k l) (opposites (more k j o h))
in_order true false j k h l o =
    let (s, p) = plain j h true in
    let (t, q) = plain k l false in
    signs_ordered _ _ p q s t
in_order false true j k h l (p, q) = rw (p, q) zeros

-- ---- the cell of a score

cell_is : (x : Float) → is_nan x ≡ false → tanh_cell x ≡ hundredths (negative x) (steps_of (magnitude_of x))
unfolding tanh_cell
cell_is x n = rw (sign_is x n)

-- the size of a number is the number, or its opposite
size_plain : (x : Float) → negative x ≡ false → magnitude_of x ≡ x
unfolding negative magnitude_of
size_plain nan s = refl
size_plain (inf t) s = rw s
size_plain (fin t m e) s = rw s

size_turned : (x : Float) → negative x ≡ true → magnitude_of x ≡ neg x
unfolding negative magnitude_of neg
size_turned nan s = refl
size_turned (inf t) s = rw s
size_turned (fin t m e) s = rw s

larger_steps : {x y : Float} → Ordered x y → steps_of x ≤ steps_of y
larger_steps {x} {y} o =
    steps_grow x y (λ k h. at_most (ordered_then (ordered (threshold_of k) x h) o))

no_steps : steps_of plus_zero ≡ 0
unfolding steps_of largest_to threshold_of thresholds threshold_bits of_bits le lt eq
no_steps = refl

-- at most 0
none : {x : Float} → Ordered x plus_zero → steps_of x ≡ 0
none {x} o = omega (arith, larger_steps o, no_steps)

above_zero : (x : Float) → is_nan x ≡ false → negative x ≡ false → Ordered (neg x) plus_zero
unfolding neg negative is_nan
above_zero x n s = opposites (signs_ordered minus_zero x refl n refl s)

steps_above : (x y : Float) → Ordered x y → (s t : Bool) → negative x ≡ s → negative y ≡ t
    → Above s (steps_of (magnitude_of x)) t (steps_of (magnitude_of y))
unfolding Above negative is_nan
steps_above x y o false false p q = rw (size_plain x p, size_plain y q) (larger_steps o)
steps_above x y o true true p q = rw (size_turned x p, size_turned y q) (larger_steps (opposites o))
steps_above x y o true false p q = tt
steps_above x y o false true p q =
    let under = signs_ordered y plus_zero o.number' refl q refl in (
      rw (size_plain x p) (none (ordered_then o under)),
      rw (size_turned y q) (none (ordered_then (opposites o) (above_zero x o.number p))),
    )

-- for any two scores that are numbers
pub tanh_rises : (x y : Float) → le x y ≡ true → le (tanh_cell x) (tanh_cell y) ≡ true
tanh_rises x y h =
    let o = ordered x y h in
    rw (cell_is x o.number, cell_is y o.number')
    (at_most (in_order (negative x) (negative y) _ _ (steps_most (magnitude_of x)) (steps_most (magnitude_of y))
    (steps_above x y o (negative x) (negative y) refl refl)))

-- ---- the cells of numbers lie from -1 to 1

ends : (hundredths true 100 ≡ minus_one) × (hundredths false 100 ≡ plus_one)
unfolding mul div of_int round
ends = (refl, refl)

within : (s : Bool) (k : ℕ) → k ≤ 100 → FromMinusOneToOne (hundredths s k)
unfolding Above
within s k h = record {
  number = (plain k h s).1;
  least = rw ends.0 at (at_most (in_order true s 100 k (le_refl 100) h (least s)));
  most = rw ends.1 at (at_most (in_order s false k 100 h (le_refl 100) (most s)));
}
  where
    least : (s : Bool) → Above true 100 s k
    least true = h
    least false = tt

    most : (s : Bool) → Above s k false 100
    most true = tt
    most false = h

pub cell_within : (x : Float) → is_nan x ≡ false → FromMinusOneToOne (tanh_cell x)
cell_within x n = rw (cell_is x n) (within (negative x) (steps_of (magnitude_of x)) (steps_most (magnitude_of x)))
