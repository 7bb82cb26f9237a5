-- `wilder_rsi` of a flat market: where all prices are equal, both averages are 0 and every cell from bar n on is 50.
-- Assumes nothing.
use Rattle.std.specs.Prelude.{◌≡◌, true, List, [], ◌∷◌, pos, length, get_or, Float, Ok}
use Rattle.std.proofs.Math.Path.{refl}
use Rattle.std.proofs.Common.{◌∙◌, zero-mul, arith}
use Rattle.std.proofs.lemmas.Bool.{false≢true}
use Prim.Native.Nat.{ℕ, zero, suc, ◌+◌, ◌-◌, ◌^◌, ◌<◌, ◌≤◌}
use Rattle.std.specs.Float.{nan, inf, fin, binary64}
use Rattle.std.specs.Float.Ieee.{neg, add, sub, mul, sum, round, lt, eq, of_int}
use Rattle.std.specs.Float.Ieee.Scale.{finite}
use Rattle.rounding_laws.proofs.About.{zero_is}
use Rattle.rounding_laws.proofs.Whole.{mul_whole}
use Rattle.rounding_order.proofs.Itself.{number_less_itself}
use Rattle.limits.specs.Limits.{Window}
use Rattle.values.specs.Accepted.{accepted, all}
use Rattle.values.proofs.All.{all_at}
use Rattle.values.proofs.Numbers.{accepted_finite}
use Rattle.calls.proofs.Cells.{bar}
use Rattle.cells.specs.Line.{Line, line, plus_zero}
use Rattle.cells.proofs.Line.{from_bar_lem}
use Rattle.cells.proofs.Carried.{carried_seed, carried_next}
use Rattle.windows.specs.Window.{sum_from}
use Rattle.windows.proofs.Means.{zero_over}
use Rattle.changes.specs.Changes.{change, gains, losses}
use Rattle.averages_wilder.specs.Wilder.{wilder_step, wilder_seed, wilder}
use Rattle.averages_wilder.specs.WilderRsi.{fifty, wilder_rsi_line, WilderRsiCall}

-- ---- averages of zeros

zero_times : (k : ℕ) → k ≤ 2 ^ 53 → mul binary64 plus_zero (of_int binary64 (pos k)) ≡ plus_zero
zero_times zero h = unfold mul of_int round in refl
zero_times (suc k) h =
    let p : mul binary64 (of_int binary64 (pos 0)) (of_int binary64 (pos (suc k))) ≡ of_int binary64 (pos 0) =
    mul_whole binary64 (pos 0) (suc k) (omega arith) (omega arith, h) ∙ rw (zero-mul (suc k)) in
    rw zero_is at p

zero_step : (n : ℕ) → Window n → wilder_step n plus_zero plus_zero ≡ plus_zero
unfolding add sum round
zero_step n w =
    let narrow = w.narrow in
    rw (zero_times (n - 1) (omega arith)) (zero_over n w.some (omega arith))

sum_of_zeros : (f : Line) (a k : ℕ) → ((j : ℕ) → j < k → f (a + j) ≡ plus_zero) → sum_from plus_zero f a k ≡ plus_zero
unfolding sum_from add sum round
sum_of_zeros f a zero h = refl
sum_of_zeros f a (suc k) h = rw (sum_of_zeros f a k (λ j l. h j (omega arith)), h k (omega arith))

-- Wilder's, d bars after the seed
average_of_zeros : (n : ℕ) → Window n → (f : Line) (d : ℕ) → ((j : ℕ) → j ≤ n + d → f j ≡ plus_zero)
    → wilder n n f (n + d) ≡ plus_zero
unfolding wilder
average_of_zeros n w f zero z =
    let narrow = w.narrow in
    let here : n + 0 ≡ n = omega arith in
    let zeros = sum_of_zeros f (n + 1 - n) n (λ j l. z (n + 1 - n + j) (omega arith)) in
    rw (here, carried_seed nan (wilder_step n) n (wilder_seed n n f) f, zeros) (zero_over n w.some (omega arith))
average_of_zeros n w f (suc d) z =
    let back : n + suc d - 1 ≡ n + d = omega arith in
    rw (
      carried_next nan (wilder_step n) n (wilder_seed n n f) f (n + suc d) (omega arith),
      back,
      average_of_zeros n w f d (λ j l. z j (omega arith)),
      z (n + suc d) (omega arith),
    ) (zero_step n w)

-- ---- gains and losses of a flat market

no_change : (x : Float) → finite x ≡ true → sub binary64 x x ≡ plus_zero
no_change nan h = absurd (false≢true h)
no_change (inf s) h = absurd (false≢true h)
no_change (fin s m e) h = number_less_itself s m e

-- all prices are equal: each is that of bar 0
abbrev pub Flat : List Float → Type 0
Flat s = (i : ℕ) → i < length s → line s i ≡ line s 0

module _ (s : List Float) (flat : Flat s) (ok : all accepted s ≡ true) where
  changes_none : (j : ℕ) → j < length s → change plus_zero (line s) j ≡ plus_zero
  unfolding change
  changes_none zero h = refl
  changes_none (suc j) h =
      rw (flat (suc j) h, flat j (omega arith))
      (no_change (line s 0) (accepted_finite (line s 0) (all_at accepted s 0 ok (omega arith))))

  gains_none : (j : ℕ) → j < length s → gains (line s) j ≡ plus_zero
  unfolding gains lt
  gains_none j h = rw (changes_none j h)

  losses_none : (j : ℕ) → j < length s → losses (line s) j ≡ plus_zero
  unfolding losses lt neg
  losses_none j h = rw (changes_none j h)

-- ---- the statement

-- A flat market reads 50: in an answered call of equal prices every cell from bar n on is 50.
pub flat_market_reads_50 : (s : List Float) (n : ℕ) {out₀ out₁ work₀ work₁ : List Float} {k : ℕ} → Flat s
    → WilderRsiCall s n out₀ work₀ (Ok k) out₁ work₁ → (i : ℕ) → n ≤ i → i < k → get_or out₁ i nan ≡ fifty
unfolding wilder_rsi_line eq
flat_market_reads_50 s n {work₀ = work₀} flat c i b h =
    let r = bar nan accepted s (n ∷ []) (length work₀ ∷ []) c.call i h in
    let inside = r.inside in
    let none = average_of_zeros n r.each.0 in
    let up = none (gains (line s)) (i - n) (λ j l. gains_none s flat r.values j (omega arith)) in
    let down = none (losses (line s)) (i - n) (λ j l. losses_none s flat r.values j (omega arith)) in
    let here : i ≡ n + (i - n) = omega arith in
    rw (r.cell, from_bar_lem n nan _ i b, here, up, down)
