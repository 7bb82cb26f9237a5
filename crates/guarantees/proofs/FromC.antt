-- What specs/FromC.antt speaks of, where it rests on theorems of proofs/. Assumes nothing.
use Rattle.std.specs.Prelude.{◌≡◌, List, ℕ, ◌+◌, ◌<◌, ◌≤◌, length, get_or, Float}
use Rattle.std.proofs.Common.{sym}
use Rattle.std.specs.Float.{nan}
use Rattle.calls.specs.declared.numbers.CAnswer.{CAnswer}
use Rattle.calls.specs.Numbers.{InNumbers}
use Rattle.averages.specs.Sma.{SmaCall}
use Rattle.true_range.specs.TrueRange.{supplied, TrueRangeCall}
use Rattle.guarantees.specs.Series.{WholeTicks}
use Rattle.guarantees.specs.OnTicks.{window_sum_of, IsMean, sma_on_ticks}
use Rattle.guarantees.specs.NoLookAhead.{EqualBars, EqualCells}
use Rattle.guarantees.proofs.NoLookAhead.{sma_no_look_ahead, true_range_no_look_ahead}
use Rattle.guarantees.specs.FromC.{from_c, from_c_of}

-- One output and no work slice: on whole ticks each cell of `tegbalowu_sma` is the mean of the last n prices.
pub sma_from_c : {s out₀ out₁ : List Float} (n : ℕ) {r : CAnswer} → WholeTicks s
    → InNumbers (λ a. SmaCall s n out₀ a out₁) r
    → r.refusal ≡ 0 → (i : ℕ) → n ≤ i + 1 → i < r.count → IsMean (window_sum_of n s i) n (get_or out₁ i nan)
sma_from_c n w c e = sma_on_ticks w n (from_c c e)

-- Two calls: equal bars up to bar b give equal cells of `tegbalowu_sma` up to it.
pub sma_from_c_no_look_ahead : {s t out₀ out₁ out₀' out₁' : List Float} {b : ℕ} (n : ℕ) {r r' : CAnswer}
    → EqualBars s t b
    → InNumbers (λ a. SmaCall s n out₀ a out₁) r → r.refusal ≡ 0 → r.count ≡ length s
    → InNumbers (λ a. SmaCall t n out₀' a out₁') r' → r'.refusal ≡ 0 → r'.count ≡ length t
    → EqualCells nan out₁ out₁' b
sma_from_c_no_look_ahead {s = s} {t} n equal c e k c' e' k' =
    sma_no_look_ahead equal n (from_c_of c e (length s) k) (from_c_of c' e' (length t) k')

-- Two calls of three series: likewise for `tegbalowu_true_range`, where both flags are set and the closes before bar 0
-- are equal, or neither flag is set, whatever the closes.
pub true_range_from_c_no_look_ahead : {high low before high' low' before' out₀ out₁ out₀' out₁' : List Float} {b : ℕ}
    (known known' : ℕ) (close close' : Float) {r r' : CAnswer}
    → EqualBars high high' b → EqualBars low low' b → EqualBars before before' b
    → supplied known close ≡ supplied known' close'
    → InNumbers (λ a. TrueRangeCall high low before (supplied known close) out₀ a out₁) r
    → r.refusal ≡ 0 → r.count ≡ length high
    → InNumbers (λ a. TrueRangeCall high' low' before' (supplied known' close') out₀' a out₁') r'
    → r'.refusal ≡ 0 → r'.count ≡ length high'
    → EqualCells nan out₁ out₁' b
true_range_from_c_no_look_ahead {high = high} {high' = high'} known known' close close' h l p same c e k c' e' k' =
    true_range_no_look_ahead h l p (supplied known close) (from_c_of c e (length high) k)
    (rw (sym same) at (from_c_of c' e' (length high') k'))
