-- A lead, and the bars after it. Assumes nothing.
use mathlib.Core.Path.{◌≡◌, sym, ◌∙◌}
use mathlib.Core.List.{List}
use Prim.Native.Nat.{ℕ, ◌<◌, ◌≤◌}
use native.Mathlib.Omega.{arith}
use lib.ListN.{length}
use lib.Ieee.{Float, nan}
use Rattle.cells.specs.Written.{Writing}
use Rattle.cells.proofs.Written.{stands, writing_same, then_written, ends, getd_untouched, read_back}
use Rattle.cells.specs.Line.{from_bar, Line, line}
use Rattle.cells.specs.inner.Leads.{Led}
use Rattle.cells.proofs.Line.{before_bar}

module _ {A : Type 0} where
  -- those are the first cells of any line that begins at bar b
  pub lead_stands : {b bars r : ℕ} {d : A} {old now : List A} (f : ℕ → A) → Led b bars d r old now
      → Writing r (from_bar b d f) now now
  lead_stands {b} {d = d} f w = stands (writing_same w.lead (λ i l. sym (before_bar b d f i (omega arith))))

module _ {A : Type 0} {b bars r : ℕ} {d : A} {old mid : List A} (w : Led b bars d r old mid) where
  -- where bars are left, the first of them is bar b
  pub up_to_bar : (f : ℕ → A) → r < bars → Writing b (from_bar b d f) mid mid
  up_to_bar f h = ends (lead_stands f w) (omega arith)

  -- they are all written after it
  pub lead_then : {k : ℕ} {g : ℕ → A} {now : List A} → Writing k g mid now → k ≡ bars → Writing bars g old now
  lead_then v e = then_written w.lead (ends v e) (omega arith)

  -- where none are left, the lead is all
  pub lead_only : (f : ℕ → A) → bars ≤ r → Writing bars (from_bar b d f) old mid
  lead_only f h = lead_then (lead_stands f w) (omega arith)

-- ---- stages in one slice

pub not_yet : {k : ℕ} {f : Line} {old now : List Float} (i : ℕ) → Writing k f old now → k ≤ i → line now i ≡ line old i
not_yet {k} {f} {old} i w h = rw w.is (getd_untouched k f old i nan h)

-- a cell that the lead and the loop have not reached still holds what stood there
pub still : {r k l : ℕ} {f g h : Line} {old mid now : List Float} (i : ℕ) → Writing l g old old → Writing r h old mid
    → Writing k f mid now
    → (r ≤ i) × (k ≤ i) × (i < l) × (i < length old) → line now i ≡ g i
still i stood lead w (a, b, c, d) = not_yet i w b ∙ not_yet i lead a ∙ read_back i nan stood (c, d)
