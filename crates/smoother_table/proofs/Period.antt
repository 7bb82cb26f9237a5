-- Which numbers are periods of the smoother. Assumes nothing.
use Rattle.std.proofs.Common.{◌≡◌, ℕ, ◌+◌, ◌-◌, ◌*◌, ◌/◌, ◌^◌, ◌<◌, ◌≤◌, min, Bool, true, false, ◌&&◌, T, pos, sym, refl, true≢false, zero-le, div-lt_iff_lt-mul, arith, lt→ltb, eqb-true}
use lib.Ieee.{Float, nan, inf, fin, up, down, lt, eq, le, to_unsigned}
use lib.Ieee.Fits.{down_pos}
use Rattle.cells.specs.Line.{plus_zero}
use Rattle.smoother_table.specs.Coefficients.{power}
use Rattle.smoother_table.specs.Period.{is_period, whole_part}
use Rattle.limits.specs.Limits.{longest_period}
use Rattle.values.proofs.All.{and_parts}
use Rattle.values.proofs.Ticks.{at_most}

-- ---- a number from 0 to 512 can be cut to its whole part, and that is at most 512

pub record Cut (x : Float) : Type 0 where
  pub above : T (lt (fin true 1 (pos 0)) x)
  pub below : T (lt x (fin false 1 (pos 64)))
  pub small : whole_part x ≤ longest_period

pub cut : (x : Float) → le plus_zero x ≡ true → le x (power 9) ≡ true → Cut x
unfolding le lt eq to_unsigned
cut nan h l = absurd (true≢false (sym h))
cut (inf true) h l = absurd (true≢false (sym h))
cut (inf false) h l = absurd (true≢false (sym l))
cut (fin false m e) h l =
    let n = m * up e in
    let d = down e in
    let some : 0 < d = down_pos e in
    let most : n * 1 ≤ 1 * 2 ^ 9 * d = at_most (n * 1) (1 * 2 ^ 9 * d) _ l in
    let part : n / d < 513 = (div-lt_iff_lt-mul some).1 (wider n d some most) in
    record {
      above = lt→ltb 0 (1 * d + n * 1) (omega arith);
      below = lt→ltb (n * 1) (1 * 2 ^ 64 * d) (omega arith);
      small = capped (n / d) part;
    }
  where
    wider : (n d : ℕ) → 0 < d → n * 1 ≤ 1 * 2 ^ 9 * d → n < 513 * d
    wider n d p q = omega arith

    capped : (k : ℕ) → k < 513 → min k (2 ^ 64 - 1) ≤ longest_period
    capped k p = omega arith
cut (fin true m e) h l =
    let n = m * up e in
    let d = down e in
    let some : 0 < d = down_pos e in
    let none : 0 * 1 * d ≡ n * 1 = eqb-true (0 * 1 * d) (n * 1) (and_parts _ _ h).0 in
    record {
      above = lt→ltb (n * 1) (1 * 1 * d) (omega arith);
      below = lt→ltb 0 (n * 1 + 1 * 2 ^ 64 * d) (omega arith);
      small = zero-le;
    }

both : (p q r : Bool) → p && q && r ≡ true → (p ≡ true) × (q ≡ true)
both true true r h = (refl, refl)
both true false r h = absurd (true≢false (sym h))
both false q r h = absurd (true≢false (sym h))

pub cut_period : (x : Float) → is_period x ≡ true → Cut x
unfolding is_period
cut_period x h = let parts = both _ _ _ h in cut x parts.0 parts.1
