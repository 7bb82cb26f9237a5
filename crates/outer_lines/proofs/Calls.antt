-- Calls with three outputs and a work slice: what is known after their checks, and how they meet their contract.
-- Assumes nothing.
use mathlib.Core.Path.{◌≡◌}
use mathlib.Core.Bool.{true, false}
use mathlib.Core.List.{List, [], ◌∷◌}
use Prim.Native.Nat.{ℕ, ◌*◌, ◌<◌, ◌≤◌, min}
use lib.ListN.{length}
use lib.Ieee.{Float}
use Rattle.values.specs.Accepted.{accepted}
use Rattle.cells.specs.Line.{Line, plus_zero}
use Rattle.cells.specs.Written.{Writing}
use Rattle.cells.specs.inner.Touched.{Touched}
use Rattle.calls.specs.Answer.{Answer, count_of, cleared_of, and_then, checked}
use Rattle.std.specs.Prelude.{Ok}
use Rattle.calls.specs.Call.{BandCall}
use Rattle.calls.proofs.Call.{AllBars, all_called, none_called}
use Rattle.calls.proofs.Room.{Room}
use Rattle.checks.specs.inner.Due.{CellsDue}
use Rattle.checks.specs.inner.Three.{Three}
use Rattle.checks.proofs.Due.{some_due, none_due, cleared}
use Rattle.checks.proofs.Passed.{one_passed, one_clearable, three_passed, three_clearable}
use Rattle.checks.proofs.Three.{three_outputs}
use Rattle.outer_lines.specs.inner.Lined.{Lined}

-- ---- after the checks: of three outputs the shortest decides

module _ (a b c work : ℕ) (next : Answer) {r : Answer} where
  -- one series
  module _ (s : List Float) (e : r ≡ and_then (checked accepted (s ∷ []) (a ∷ b ∷ c ∷ []) (work ∷ [])) next) where
    pub one_band_passed : 0 < count_of r → Room accepted s (min a (min b c)) (work ∷ []) × (next ≡ Ok (count_of r))
    one_band_passed =
        one_passed s (min a (min b c)) work next (rw (three_outputs accepted (s ∷ []) a b c (work ∷ [])) at e)

    pub one_band_clearable : cleared_of r (8 * length s) ≤ work
    one_band_clearable =
        one_clearable s (min a (min b c)) work next (rw (three_outputs accepted (s ∷ []) a b c (work ∷ [])) at e)

  -- three series
  module _ (s t u : List Float)
      (e : r ≡ and_then (checked accepted (s ∷ t ∷ u ∷ []) (a ∷ b ∷ c ∷ []) (work ∷ [])) next) where
    pub three_band_passed : 0 < count_of r → Three s t u (min a (min b c)) (work ∷ []) × (next ≡ Ok (count_of r))
    three_band_passed =
        three_passed s t u (min a (min b c)) work next
        (rw (three_outputs accepted (s ∷ t ∷ u ∷ []) a b c (work ∷ [])) at e)

    pub three_band_clearable : cleared_of r (8 * length s) ≤ work
    three_band_clearable =
        three_clearable s t u (min a (min b c)) work next
        (rw (three_outputs accepted (s ∷ t ∷ u ∷ []) a b c (work ∷ [])) at e)

-- ---- the contract

module _ {due r : Answer} {l : ℕ} {f g h : Line} {middle₀ upper₀ lower₀ work₀ work₁ : List Float} (e : r ≡ due)
  where
    -- all cells are written, and the work slice is cleared
    pub written_band_call : {j : ℕ} {middle₁ upper₁ lower₁ mid now : List Float} → AllBars due l
        → CellsDue r l true work₀ work₁
        → Lined l f g h middle₀ upper₀ lower₀ middle₁ upper₁ lower₁ → Touched j work₁ mid
        → j ≤ 8 * l → Writing (8 * l) (λ i. plus_zero) mid now
        → BandCall due f g h middle₀ upper₀ lower₀ l work₀ r middle₁ upper₁ lower₁ now
    written_band_call whole d o t n w =
        let some = some_due d in
        record {
          middle = all_called whole e some o.middle;
          upper = all_called whole e some o.upper;
          lower = all_called whole e some o.lower;
          work = cleared d t n w;
        }

    -- no cells
    pub empty_band_call : CellsDue r l false work₀ work₁
        → BandCall due f g h middle₀ upper₀ lower₀ l work₀ r middle₀ upper₀ lower₀ work₁
    empty_band_call d =
        let none = none_due d in
        record {
          middle = none_called e none.0;
          upper = none_called e none.0;
          lower = none_called e none.0;
          work = none.1;
        }
