-- The two functions that look ahead, each with a series to which one bar is added, so that a cell of answered calls
-- changes which it had before: no statement of no look-ahead can hold of them. And what does hold of the exponential
-- rule: from the first mean that is not 0 on no cell depends on a later bar. Assumes nothing.
use Rattle.std.specs.Prelude.{◌≡◌, refl, true, false, List, [], ◌∷◌, ◌++◌, ℕ, ◌<◌, ◌≤◌, pos, length, get_or, Float, Ok}
use Rattle.std.proofs.Common.{sym, ◌∙◌, arith}
use Rattle.std.specs.Float.Ieee.{round, neg, add, sub, mul, div, eq, of_int, is_nan}
use Rattle.std.specs.Float.{nan}
use Rattle.rounding.specs.Leaves.{plus_one, magnitude_of, sign_of}
use Rattle.rounding.specs.Literals.{half}
use Rattle.cells.specs.Line.{line, plus_zero, from_bar}
use Rattle.cells.specs.Recur.{recur, carried}
use Rattle.cells.specs.Search.{first_bar, non_zero}
use Rattle.cells.specs.Shown.{prices, num}
use Rattle.windows.specs.Window.{sum_from, window_sum, mean}
use Rattle.changes.specs.Changes.{change}
use Rattle.jurik.specs.Jurik.{
  averaged,
  copied,
  first_differing,
  price_change,
  smooth1,
  smooth2,
  jv_of,
  jv,
  jurik_with,
  jurik_line,
  JurikCall,
}
use Rattle.rules_ema.specs.SingleEma.{first_usable, ema_of_means, single_ema_from, single_ema_line, SingleEmaCall}
use Rattle.rules_ema.proofs.SingleEma.{single_ema_settles}
use Rattle.values.specs.Accepted.{accepted}
use Rattle.calls.specs.Answer.{Answer, answered_with}
use Rattle.calls.proofs.Cells.{due_cell, bar}
use Rattle.guarantees.specs.NoLookAhead.{EqualBars, EqualCells}

-- ---- a cell that changes once a price follows

-- Of answered calls of the series s the cell of bar b is `first`, and of s with x behind it `then`, another number.
pub record Changed (Contract : List Float → List Float → List Float → Answer → List Float → List Float → Type 0)
    (s : List Float) (x : Float) (b : ℕ) (first then : Float) : Type 0 where
  pub inside : b < length s
  pub before : {out₀ work₀ out₁ work₁ : List Float} → Contract s out₀ work₀ (Ok (length s)) out₁ work₁
      → get_or out₁ b nan ≡ first
  pub after : {out₀ work₀ out₁ work₁ : List Float}
      → Contract (s ++ (x ∷ [])) out₀ work₀ (Ok (length (s ++ (x ∷ [])))) out₁ work₁ → get_or out₁ b nan ≡ then
  pub differ : eq first then ≡ false

jurik_cell : (s : List Float) (n : ℕ) (power : Float) {out₀ work₀ out₁ work₁ : List Float}
    → JurikCall s n power out₀ work₀ (Ok (length s)) out₁ work₁ → (i : ℕ) → i < length s
    → get_or out₁ i nan ≡ jurik_line (length s) n power (line s) i
unfolding answered_with
jurik_cell s n power {work₀ = work₀} c = due_cell nan s (length work₀) _ c.call

single_ema_cell : (s : List Float) (n : ℕ) {out₀ work₀ out₁ work₁ : List Float}
    → SingleEmaCall s n out₀ work₀ (Ok (length s)) out₁ work₁ → (i : ℕ) → i < length s
    → get_or out₁ i nan ≡ single_ema_line (length s) n (line s) i
single_ema_cell s n c i h = (bar nan accepted s (n ∷ []) _ c.call i h).cell

-- jurik_volty with period 2 and power 1: bar 3 of 0, 1, 1, 1 has 0, and with a 0 after them 0.5. Of the values of the
-- third pass only bar 2's was not 0, and then bar 4's is not 0 either.
pub jurik_looks_ahead : Changed (λ s. JurikCall s 2 plus_one) (prices (pos 0 ∷ pos 1 ∷ pos 1 ∷ pos 1 ∷ [])) (num 0) 3
    plus_zero half
unfolding jurik_line jurik_with smooth1 smooth2 jv_of jv price_change averaged copied first_differing change carried
    first_bar recur from_bar magnitude_of is_nan neg add sub mul div of_int round eq
jurik_looks_ahead =
    record {
      inside = omega arith;
      before = λ c. jurik_cell _ 2 plus_one c 3 (omega arith);
      after = λ c. jurik_cell _ 2 plus_one c 3 (omega arith);
      differ = refl;
    }

-- single_ema_positions with n 1: bar 0 of 0 has 1, and with a 1 after it 0. Its start was bar 0, and then it is bar 1.
pub single_ema_looks_ahead : Changed (λ s. SingleEmaCall s 1) (prices (pos 0 ∷ [])) (num 1) 0 plus_one plus_zero
unfolding single_ema_line single_ema_from ema_of_means first_usable first_bar carried recur mean window_sum sum_from
    from_bar sign_of add sub mul div of_int eq round
single_ema_looks_ahead =
    record {
      inside = omega arith;
      before = λ c. single_ema_cell _ 1 c 0 (omega arith);
      after = λ c. single_ema_cell _ 1 c 0 (omega arith);
      differ = refl;
    }

-- ---- what holds of the exponential rule

-- Two answered calls with equal bars up to bar b, where the mean of some bar j up to b is not 0: equal cells up to b.
pub single_ema_settles_calls : {s t out₀ work₀ out₁ work₁ out₀' work₀' out₁' work₁' : List Float} {b : ℕ} (n j : ℕ)
    → EqualBars s t b → j ≤ b → non_zero (mean n (line s) j) ≡ true
    → SingleEmaCall s n out₀ work₀ (Ok (length s)) out₁ work₁
    → SingleEmaCall t n out₀' work₀' (Ok (length t)) out₁' work₁' → EqualCells nan out₁ out₁' b
single_ema_settles_calls {s = s} {t} {b = b} n j equal k e c c' i h =
    let p = equal.left in
    let q = equal.right in
    single_ema_cell s n c i (omega arith)
    ∙ single_ema_settles (length s) (length t) n (line s) (line t) b p q equal.same j k e i h
    ∙ sym (single_ema_cell t n c' i (omega arith))
