-- The cells of an answered call: what each of them is, and that calls which agree up to a bar have equal cells up to
-- it. Assumes nothing.
use mathlib.Core.Path.{◌≡◌, sym, ◌∙◌}
use mathlib.Core.Bool.{Bool, true}
use mathlib.Core.List.{List, [], ◌∷◌}
use Prim.Native.Nat.{ℕ, ◌<◌, ◌≤◌}
use native.Mathlib.Omega.{arith}
use lib.ListN.{length, get_or}
use lib.Ieee.{Float}
use Rattle.limits.specs.Limits.{longest_series}
use Rattle.values.specs.Accepted.{accepted, all}
use Rattle.cells.specs.Line.{Same, Causal}
use Rattle.cells.proofs.Line.{causal_same}
use Rattle.cells.proofs.Written.{getd_written}
use Rattle.calls.specs.Answer.{Answer, and_then, checked, answered}
use Rattle.std.specs.Prelude.{Ok}
use Rattle.calls.specs.Call.{Call}
use Rattle.calls.proofs.Room.{Room, EachWindow, and_then_cells, checked_room, room, opened, all_bars}

-- the cell of a bar below the count; d stands past an output's end
pub cell_at : {A : Type 0} (d : A) {due : Answer} {f : ℕ → A} {out₀ out₁ : List A} {k : ℕ}
    → Call due f out₀ (Ok k) out₁ → k ≤ length out₀
    → (i : ℕ) → i < k → get_or out₁ i d ≡ f i
cell_at d {f = f} {out₀} {k = k} c r i h = rw c.cells (getd_written k f out₀ i d h (omega arith))

-- what is known after the checks of one series, whatever follows them
pub room_after : (ok : Float → Bool) (s : List Float) (out : ℕ) (work : List ℕ) (next : Answer) (k : ℕ)
    → and_then (checked ok (s ∷ []) (out ∷ []) work) next ≡ Ok k → Room ok s out work
room_after ok s out work next k e = checked_room ok s out work _
    (and_then_cells (checked ok (s ∷ []) (out ∷ []) work) next k e).0

-- a cell of an accepted series below the count is the line's, whatever follows the checks
pub due_cell : {A : Type 0} (d : A) (s : List Float) (work : ℕ) (next : Answer) {f : ℕ → A} {out₀ out₁ : List A}
    → Call (and_then (checked accepted (s ∷ []) (length out₀ ∷ []) (work ∷ [])) next) f out₀ (Ok (length s)) out₁
    → (i : ℕ) → i < length s
    → get_or out₁ i d ≡ f i
due_cell d s work next {out₀ = out₀} c =
    cell_at d c (room_after accepted s (length out₀) (work ∷ []) next (length s) (sym c.answer)).out_long

-- a bar below the count, in a call of one series and windows
pub record Bar {A : Type 0} (d : A) (ok : Float → Bool) (s : List Float) (windows : List ℕ) (out₁ : List A)
    (f : ℕ → A) (i : ℕ) : Type 0 where
  pub each : EachWindow windows
  pub inside : i < length s
  pub short : length s ≤ longest_series
  pub values : all ok s ≡ true
  pub cell : get_or out₁ i d ≡ f i

pub bar : {A : Type 0} (d : A) (ok : Float → Bool) (s : List Float) (windows work : List ℕ) {f : ℕ → A}
    {out₀ out₁ : List A} {k : ℕ}
    → Call (answered ok s windows (length out₀) work) f out₀ (Ok k) out₁ → (i : ℕ) → i < k
    → Bar d ok s windows out₁ f i
bar d ok s windows work {out₀ = out₀} {k = k} c i h =
    let e = sym c.answer in
    let r = room ok s windows (length out₀) work k e in
    let whole = all_bars ok s windows (length out₀) work k e (omega arith) in
    record {
      each = (opened ok s windows (length out₀) work k e (omega arith)).each;
      inside = omega arith;
      short = r.short;
      values = r.values;
      cell = cell_at d c (omega (arith, r.out_long)) i h;
    }

-- ---- no look-ahead

-- Calls of one causal operator on lines x and y that agree up to bar b, each with as many cells as bars: equal cells
-- up to bar b.
pub no_look_ahead : {X A : Type 0} {F : (ℕ → X) → ℕ → A} (d : A) → Causal F → (x y : ℕ → X) (b : ℕ) → Same x y b
    → {due due' : Answer} {out₀ out₁ out₀' out₁' : List A} {l m : ℕ}
    → Call due (F x) out₀ (Ok l) out₁ → (b < l) × (l ≤ length out₀)
    → Call due' (F y) out₀' (Ok m) out₁' → (b < m) × (m ≤ length out₀')
    → (j : ℕ) → j ≤ b → get_or out₁ j d ≡ get_or out₁' j d
no_look_ahead d causal x y b same c (p, r) c' (p', r') j h =
    cell_at d c r j (omega arith) ∙ causal_same causal x y b same j h ∙ sym (cell_at d c' r' j (omega arith))
