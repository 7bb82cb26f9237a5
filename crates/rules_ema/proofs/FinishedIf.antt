-- Whether all bars are finished. Assumes nothing.
use mathlib.Core.Path.{sym}
use mathlib.Core.Bool.{Bool, false, true≢false}
use mathlib.Core.List.{List}
use Prim.Native.Nat.{ℕ, ◌*◌}
use lib.Ieee.{Float}
use Rattle.cells.specs.Line.{Line}
use Rattle.cells.specs.inner.Touched.{Touched}
use Rattle.cells.proofs.Touched.{untouched, touched, touched_then}
use Rattle.cells.specs.inner.Finished.{Finished}
use Rattle.cells.proofs.Finished.{then_finished}
use Rattle.rules_ema.specs.inner.ByMargins.{FinishedIf}

module _ (f : Line) {l : ℕ} {out₀ out₁ work₀ work₁ : List Float} where
  -- all are
  pub finished_if_all : {r : Bool} → Finished f l l out₀ out₁ work₀ work₁ → FinishedIf r f l out₀ out₁ work₀ work₁
  finished_if_all p = record { used = touched p.cells; rows = p.cleared.rest; all = λ e. p }

  -- some are not
  pub finished_if_not : Touched l out₀ out₁ → Touched (8 * l) work₀ work₁ → FinishedIf false f l out₀ out₁ work₀ work₁
  finished_if_not u v = record { used = u; rows = v; all = λ e. absurd (true≢false (sym e)) }

-- on an output whose first cells were used before
pub then_finished_if : {f : Line} {l : ℕ} {r : Bool} {out₀ out₁ out₂ work₀ work₁ : List Float} → Touched l out₀ out₁
    → FinishedIf r f l out₁ out₂ work₀ work₁ → FinishedIf r f l out₀ out₂ work₀ work₁
then_finished_if t p = record {
  used = touched_then t p.used;
  rows = p.rows;
  all = λ e. then_finished t untouched (p.all e);
}
