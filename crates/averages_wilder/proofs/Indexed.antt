-- Cells of Wilder's index, written while the work slice is cleared: the lead, NaN before bar n, and the cells after it.
-- Assumes nothing.
use mathlib.Core.Path.{refl}
use mathlib.Core.List.{List}
use Prim.Native.Nat.{ℕ, ◌<◌, ◌≤◌}
use native.Mathlib.Omega.{arith}
use lib.ListN.{length}
use lib.Ieee.{Float, nan}
use Rattle.cells.specs.Line.{plus_zero}
use Rattle.cells.specs.inner.Leads.{Led}
use Rattle.cells.proofs.Leads.{up_to_bar, lead_then, lead_only}
use Rattle.cells.specs.inner.Scratch.{Scratch}
use Rattle.cells.proofs.Scratch.{all_put, goes_on, then_put}
use Rattle.averages_wilder.specs.WilderRsi.{wilder_rsi_line}
use Rattle.averages_wilder.specs.inner.Averaged.{Indexed}

module _ {n : ℕ} (s : List Float) {r : ℕ} {out₀ mid work₀ rows : List Float} (w : Led n (length s) nan r out₀ mid)
    (c : Scratch (length s) r (λ i. plus_zero) work₀ rows) where
  pub lead_indexed : r < length s → Indexed n s n mid mid rows rows
  unfolding wilder_rsi_line
  lead_indexed h = record { cells = up_to_bar w _ h; cleared = all_put (goes_on c) (omega arith) }

  pub then_indexed : {now left : List Float} → Indexed n s (length s) mid now rows left
      → Indexed n s (length s) out₀ now work₀ left
  then_indexed p = record { cells = lead_then w p.cells refl; cleared = then_put c.rest p.cleared }

  pub only_indexed : length s ≤ r → Indexed n s (length s) out₀ mid work₀ rows
  unfolding wilder_rsi_line
  only_indexed h = record { cells = lead_only w _ h; cleared = all_put c (omega arith) }
