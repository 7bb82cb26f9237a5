-- Whole ticks are accepted values. Assumes nothing.
use Rattle.std.proofs.Common.{◌≡◌, ℕ, suc, ◌+◌, ◌*◌, ◌^◌, ◌<◌, ◌≤◌, true, false, T, List, [], ◌∷◌, get_or, ℤ, pos, sym, refl, ap, ◌∙◌, subst, true≢false, arith, lt-ltb, ne_eqb}
use lib.Ieee.{Float, nan, inf, fin, binary64, up, down, lt, eq, le, whole, fits, of_bits, to_bits}
use lib.Ieee.Bits.{of_bits-to_bits}
use lib.Ieee.Fits.{down_pos}
use Rattle.rounding_laws.proofs.Bounds.{le_plus, le_minus}
use Rattle.values.specs.Accepted.{within, accepted, tick, all}
use Rattle.values.proofs.All.{and_parts}

-- a number within 2 ^ 24 is within 2 ^ 30
module _ (m : ℕ) (e : ℤ) where
  far : {a : ℕ} → a ≤ 1 * 2 ^ 24 * down e → a < 1 * 2 ^ 30 * down e
  far h = omega (arith, down_pos e)

  plus_within : T (le (fin false m e) (fin false 1 (pos 24))) → within 30 (fin false m e) ≡ true
  unfolding le lt eq
  plus_within h =
      let l = le_plus m e 1 (pos 24) h in
      let low : 0 < 1 * 2 ^ 30 * down e + m * up e * 1 = omega (arith, down_pos e) in
      rw (lt-ltb _ _ low, lt-ltb _ _ (far l))

  minus_within : T (le (fin true 1 (pos 24)) (fin true m e)) → within 30 (fin true m e) ≡ true
  unfolding le lt eq
  minus_within h =
      let l = le_minus m e 1 (pos 24) h in
      let high : 0 < m * up e * 1 + 1 * 2 ^ 30 * down e = omega (arith, down_pos e) in
      rw (lt-ltb _ _ high, lt-ltb _ _ (far l))

-- and -0.0 is no whole tick
not_minus_zero : (x : Float) → T (fits binary64 x) → whole binary64 x ≡ true → ¬ (to_bits binary64 x ≡ 2 ^ 63)
unfolding of_bits whole
not_minus_zero x f w b =
    let same : x ≡ of_bits binary64 (2 ^ 63) = sym (of_bits-to_bits binary64 x f) ∙ ap (of_bits binary64) b in
    true≢false (sym w ∙ ap (whole binary64) same)

both : (x : Float) → T (fits binary64 x) → within 30 x ≡ true → whole binary64 x ≡ true → accepted x ≡ true
unfolding accepted
both x f h w = rw (h, ne_eqb (to_bits binary64 x) (2 ^ 63) (not_minus_zero x f w))

ends : (x : Float) → within 24 x ≡ true → T (le (fin true 1 (pos 24)) x) × T (le x (fin false 1 (pos 24)))
ends x h =
    let (low, high) = and_parts (le (fin true 1 (pos 24)) x) (le x (fin false 1 (pos 24))) h in
    (subst T (sym low) tt, subst T (sym high) tt)

tick_accepted : (x : Float) → T (fits binary64 x) → tick x ≡ true → accepted x ≡ true
unfolding tick whole
tick_accepted nan f h = absurd (true≢false (sym (and_parts (within 24 nan) false h).1))
tick_accepted (inf s) f h = absurd (true≢false (sym (and_parts (within 24 (inf s)) false h).1))
tick_accepted (fin false m e) f h =
    let (near, w) = and_parts (within 24 (fin false m e)) _ h in
    both (fin false m e) f (plus_within m e (ends (fin false m e) near).1) w
tick_accepted (fin true m e) f h =
    let (near, w) = and_parts (within 24 (fin true m e)) _ h in
    both (fin true m e) f (minus_within m e (ends (fin true m e) near).0) w

pub ticks_accepted : (s : List Float) → ((i : ℕ) → T (fits binary64 (get_or s i nan))) → all tick s ≡ true
    → all accepted s ≡ true
ticks_accepted [] f h = refl
ticks_accepted (x ∷ s) f h =
    let (one, rest) = and_parts (tick x) (all tick s) h in
    rw (tick_accepted x (f 0) one, ticks_accepted s (λ i. f (suc i)) rest)
