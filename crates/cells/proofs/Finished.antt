-- Bars that are finished, one after the other. Assumes nothing.
use mathlib.Core.Path.{◌≡◌, refl}
use mathlib.Core.List.{List}
use Prim.Native.Nat.{ℕ, ◌+◌, ◌*◌, ◌<◌, ◌≤◌}
use lib.ListN.{length, set}
use lib.Ieee.{Float}
use Rattle.cells.specs.Line.{Line, plus_zero}
use Rattle.cells.specs.inner.Touched.{Touched}
use Rattle.cells.proofs.Written.{one_more}
use Rattle.cells.proofs.Touched.{written_over_all}
use Rattle.cells.specs.inner.Finished.{Finished}
use Rattle.cells.specs.inner.Scratch.{put_at}
use Rattle.cells.proofs.Scratch.{one_put, then_put}

module _ {f : Line} {l : ℕ} where
  -- a bar more
  pub one_finished : {i : ℕ} {x : Float} {out₀ out₁ work₀ work₁ work₂ : List Float}
      → Finished f l i out₀ out₁ work₀ work₁ → x ≡ f i → work₂ ≡ put_at l i plus_zero work₁
      → (i < l) × (i < length out₀) × (8 * l ≤ length work₁) → Finished f l (i + 1) out₀ (set out₁ i x) work₀ work₂
  one_finished p e q (inside, room, rows) =
      record { cells = one_more p.cells e room; cleared = one_put p.cleared refl q (inside, rows) }

  -- the loop is over
  pub all_finished : {k m : ℕ} {out₀ out₁ work₀ work₁ : List Float} → Finished f l k out₀ out₁ work₀ work₁ → k ≡ m
      → Finished f l m out₀ out₁ work₀ work₁
  all_finished p e = rw (← e) p

  -- on slices whose first cells were used before
  pub then_finished : {k : ℕ} {out₀ out₁ out₂ work₀ work₁ work₂ : List Float} → Touched k out₀ out₁
      → Touched (8 * l) work₀ work₁ → Finished f l k out₁ out₂ work₁ work₂ → Finished f l k out₀ out₂ work₀ work₂
  then_finished t u p = record { cells = written_over_all t p.cells; cleared = then_put u p.cleared }
