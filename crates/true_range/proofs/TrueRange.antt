-- True range: the close before a bar as the code finds it, what is known where cells are due, and no look-ahead.
-- Assumes nothing.
use mathlib.Core.Path.{◌≡◌, refl, sym}
use mathlib.Core.Bool.{true}
use mathlib.Core.List.{List, [], ◌∷◌}
use Prim.Native.Nat.{ℕ, zero, suc, ◌-◌, ◌<◌, ◌≤◌}
use native.Mathlib.Nat.{le_refl, sub-zero}
use native.Mathlib.Omega.{arith}
use lib.Dec.{lit<}
use lib.ListN.{length}
use lib.Ieee.{Float}
use Rattle.values.specs.Accepted.{accepted, all}
use Rattle.values.proofs.Numbers.{values_apart}
use Rattle.cells.specs.Line.{Line, line, Same, Causal}
use Rattle.calls.specs.Answer.{Answer, count_of, checked}
use Rattle.std.specs.Prelude.{Ok, Option, None, Some}
use Rattle.calls.proofs.Call.{AllBars}
use Rattle.calls.proofs.Room.{and_then_cells, unless_cells, same_count}
use Rattle.checks.specs.inner.Three.{Three}
use Rattle.checks.proofs.Passed.{passed}
use Rattle.checks.proofs.Three.{checked_three_room}
use Rattle.true_range.specs.TrueRange.{true_range, true_ranges, given_before, close_before}
use Rattle.true_range.specs.TrueRange.{accepted_close, close_checked, true_range_answer}
use Rattle.true_range.specs.inner.Ranging.{Numbers, back_by}

module _ (first : Option Float) where
  -- that of bar 0 is given apart
  pub before_first : (before : Line) (i : ℕ) → i ≡ 0 → first ≡ given_before first before i
  unfolding given_before
  before_first before zero e = refl
  before_first before (suc i) e = absurd (omega arith)

  pub before_next : (before : Line) (i : ℕ) → (i ≡ 0 → ⊥) → Some (before i) ≡ given_before first before i
  unfolding given_before
  before_next before zero h = absurd (h refl)
  before_next before (suc i) h = refl

-- the cell of bar i
pub range_at : (high low : Line) (before : ℕ → Option Float) (i : ℕ) {b : Option Float} {x : Float}
    → x ≡ true_range (high i) (low i) b → b ≡ before i → x ≡ true_ranges high low before i
unfolding true_ranges
range_at high low before i e f = rw (e, f)

-- high and low less the close before are numbers, where all values are accepted
numbers_first : (high low : List Float) (first : Option Float) → all accepted high ≡ true → all accepted low ≡ true
    → accepted_close first ≡ true → 0 < length high → 0 < length low → Numbers (line high 0) (line low 0) first
numbers_first high low None x y a h l = tt
numbers_first high low (Some close) x y a h l =
    let one : all accepted (close ∷ []) ≡ true = rw a in
    (values_apart high (close ∷ []) 0 0 x one h (lit< tt), values_apart low (close ∷ []) 0 0 y one l (lit< tt))

pub numbers_at : (high low close : List Float) (first : Option Float) {out : ℕ} {back : ℕ} (i : ℕ) {b : Option Float}
    → Three high low close out [] → back ≤ 1 → accepted_close first ≡ true → i < length high
    → b ≡ given_before first (back_by back (line close)) i → Numbers (line high i) (line low i) b
unfolding given_before
numbers_at high low close first zero t k a h e =
    rw e (numbers_first high low first t.values.0 t.values.1 a h (rw t.second h))
numbers_at high low close first {back = back} (suc i) t k a h e =
    let there : suc i - back < length close = rw t.third (omega arith) in
    rw e (
      values_apart high close (suc i) (suc i - back) t.values.0 t.values.2 h there,
      values_apart low close (suc i) (suc i - back) t.values.1 t.values.2 (rw t.second h) there,
    )

-- the close before stands at the bar itself
pub at_the_bar : (high low close : Line) (first : Option Float) (i : ℕ)
    → true_ranges high low (given_before first (back_by 0 close)) i ≡ true_ranges high low (given_before first close) i
unfolding true_ranges given_before
at_the_bar high low close first zero = refl
at_the_bar high low close first (suc i) = rw (sub-zero (suc i))

-- ---- the call

module _ (high low before : List Float) (first : Option Float) (out : ℕ) where
  abbrev slices : Answer
  slices = checked accepted (high ∷ low ∷ before ∷ []) (out ∷ []) []

  abbrev rest : Answer
  rest = close_checked first (Ok (length high))

  -- it has a cell for each bar
  pub range_bars : AllBars (true_range_answer high low before first out) (length high)
  unfolding true_range_answer
  range_bars j e h =
      let next = (and_then_cells slices rest j e).1 in
      sym (same_count _ _ (unless_cells (accepted_close first) _ _ j next).1)

  -- and where they are due, all is in order
  pub range_ready : {r : Answer} → r ≡ true_range_answer high low before first out → 0 < count_of r
      → Three high low before out [] × (accepted_close first ≡ true)
  unfolding true_range_answer
  range_ready e h =
      let p = passed slices rest e h in
      ((checked_three_room high low before out [] _ p.0).0, (unless_cells (accepted_close first) _ _ _ p.1).0)

-- ---- no look-ahead

-- an operator on three lines, high, low and close, of which no cell needs anything after its own bar
abbrev pub Causal₃ : (Line → Line → Line → Line) → Type 0
Causal₃ F = (h h' l l' c c' : Line) (b : ℕ) → Same h h' b → Same l l' b → Same c c' b → F h l c b ≡ F h' l' c' b

-- an operator on one line after one on three
pub causal₃-then : {F : Line → Line → Line → Line} {G : Line → Line} → Causal₃ F → Causal G
    → Causal₃ (λ h l c. G (F h l c))
causal₃-then {F = F} p q h h' l l' c c' b x y z =
    q (F h l c) (F h' l' c') b
    (λ j m. p h h' l l' c c' j (λ i k. x i (omega arith)) (λ i k. y i (omega arith)) (λ i k. z i (omega arith)))

module _ (first : Option Float) where
  pub causal_given : Causal (given_before first)
  unfolding given_before
  causal_given f g zero s = refl
  causal_given f g (suc i) s = rw (s (suc i) (le_refl (suc i)))

  pub causal_close : Causal (close_before first)
  causal_close f g b s = causal_given _ _ b (λ j m. s (j - 1) (omega arith))

module _ {before : Line → ℕ → Option Float} (p : Causal before) where
  pub causal_ranges : Causal₃ (λ h l c. true_ranges h l (before c))
  unfolding true_ranges
  causal_ranges h h' l l' c c' b x y z = rw (x b (le_refl b), y b (le_refl b), p c c' b z)
