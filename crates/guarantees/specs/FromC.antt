-- What is stated of a call holds of a C call. With refusal 0 its contract holds of the answer `Cells count`, whatever
-- the function, so that each statement of this crate speaks to a C caller: `from_c` for those about `Cells k`,
-- `from_c_of` for those about `Cells (length s)`. Shown here for a function of each shape: one output, a work slice,
-- whole-number cells, three outputs, two series, three series, and two calls. Assumes nothing.
use Rattle.std.specs.Prelude.{◌≡◌, true, List, ℕ, ◌+◌, ◌<◌, ◌≤◌, ℤ, pos, length, get_or, Float, Ok}
use Rattle.std.specs.Float.{nan, binary64}
use Rattle.std.specs.Float.Ieee.{fits}
use Rattle.rounding.specs.Leaves.{plus_one}
use Rattle.cells.specs.Line.{plus_zero, line}
use Rattle.values.specs.Accepted.{all}
use Rattle.calls.specs.Answer.{Answer}
use Rattle.calls.specs.declared.numbers.CAnswer.{CAnswer}
use Rattle.calls.specs.Numbers.{InNumbers}
use Rattle.calls.proofs.InNumbers.{accepted_call}
use Rattle.bands.specs.Bands.{UltimateBandsCall}
use Rattle.rules_double.specs.Double.{double_line}
use Rattle.rules_double_ranges.specs.Ranges.{RangesCall}
use Rattle.rules_held.specs.Held.{flat}
use Rattle.rules_single.specs.Single.{SingleCall}
use Rattle.rules_triple.specs.Triple.{TripleCall}
use Rattle.guarantees.specs.Ranges.{Inside, ranges_all_long}
use Rattle.guarantees.specs.Positions.{Position, single_writes_positions}
use Rattle.guarantees.specs.WholeCells.{WholePosition, triple_writes_positions}
use Rattle.guarantees.specs.NanLines.{bands_outer_lines_nan}

module _ {P : Answer → Type 0} {r : CAnswer} (c : InNumbers P r) (e : r.refusal ≡ 0) where
  -- Any C function: what its call promises with refusal 0.
  pub from_c : P (Ok r.count)
  from_c = accepted_call c e

  -- The same where the count is known, as the number of bars.
  pub from_c_of : (l : ℕ) → r.count ≡ l → P (Ok l)
  from_c_of l k = rw k at from_c

-- With a work slice: each cell of `tegbalowu_single_sma_positions` is a position.
pub single_from_c : (s : List Float) {out₀ work₀ out₁ work₁ : List Float} (n : ℕ) {r : CAnswer}
    → InNumbers (λ a. SingleCall s n out₀ work₀ a out₁ work₁) r
    → r.refusal ≡ 0 → (i : ℕ) → i < r.count → Position (get_or out₁ i nan)
single_from_c s n c e = single_writes_positions n s (from_c c e)

-- Cells that are whole numbers: each cell of `tegbalowu_triple_sma_positions` is +1, -1 or 0.
pub triple_from_c : (s : List Float) {out₀ out₁ : List ℤ} {work₀ work₁ : List Float} (m1 m2 m3 : ℕ) {r : CAnswer}
    → InNumbers (λ a. TripleCall s m1 m2 m3 out₀ work₀ a out₁ work₁) r
    → r.refusal ≡ 0 → r.count ≡ length s → (i : ℕ) → i < length s → WholePosition (get_or out₁ i flat)
triple_from_c s m1 m2 m3 c e k = triple_writes_positions s m1 m2 m3 (from_c_of c e (length s) k)

-- Three outputs: both outer lines of `tegbalowu_ultimate_bands` are NaN from period 5 on.
pub bands_from_c : (s : List Float) (n : ℕ) (k : Float) (m : ℕ)
    {middle₀ upper₀ lower₀ work₀ middle₁ upper₁ lower₁ work₁ : List Float} {r : CAnswer}
    → InNumbers (λ a. UltimateBandsCall s n k m middle₀ upper₀ lower₀ work₀ a middle₁ upper₁ lower₁ work₁) r
    → r.refusal ≡ 0 → 5 ≤ n → (i : ℕ) → i < r.count
    → (get_or upper₁ i plus_zero ≡ nan) × (get_or lower₁ i plus_zero ≡ nan)
bands_from_c s n k m c e = bands_outer_lines_nan s n k m (from_c c e)

-- Two series: where a cell of `tegbalowu_double_sma_ranges` is +1, so is the double rule's on every series of whole
-- ticks inside the ranges.
pub ranges_from_c : (low high : List Float) (n m : ℕ) {out₀ out₁ : List ℤ} {r : CAnswer}
    → all (fits binary64) low ≡ true → all (fits binary64) high ≡ true
    → InNumbers (λ a. RangesCall low high n m out₀ a out₁) r
    → r.refusal ≡ 0 → (i : ℕ) → i < r.count → m ≤ i + 1 → {s : List Float} → Inside low high s
    → get_or out₁ i (pos 0) ≡ pos 1 → double_line n m (line s) i ≡ plus_one
ranges_from_c low high n m v w c e i h b inside =
    ranges_all_long low high n m v w (from_c c e) i h b inside
