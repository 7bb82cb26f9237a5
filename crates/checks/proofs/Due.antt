-- A call with a work slice, from its checks to its contract. Assumes nothing.
use mathlib.Core.Path.{◌≡◌, refl, sym, ◌∙◌}
use mathlib.Core.Bool.{true, false, Bool}
use mathlib.Core.List.{List, [], ◌∷◌}
use Prim.Native.Nat.{ℕ, ◌*◌, ◌<◌, ◌≤◌}
use native.Mathlib.Nat.{mul-le-mul_right}
use native.Mathlib.Omega.{arith}
use borrow.Author.Tests.{ltb-true, ltb-false, lt-ltb, le-ltb}
use lib.ListN.{length}
use lib.Ieee.{Float}
use Rattle.values.specs.Accepted.{accepted}
use Rattle.cells.specs.Line.{plus_zero}
use Rattle.cells.specs.Written.{Writing}
use Rattle.cells.specs.inner.Touched.{Touched}
use Rattle.cells.proofs.Touched.{touched_more, written_over_all}
use Rattle.calls.specs.declared.Refusal.{Refusal}
use Rattle.calls.specs.Answer.{Answer, count_of, cleared_of, and_then, checked, answered}
use Rattle.std.specs.Prelude.{Ok, Err}
use Rattle.calls.specs.Call.{Cleared, WorkCall}
use Rattle.calls.proofs.Call.{AllBars, all_called, none_called}
use Rattle.calls.proofs.Room.{Room, room, answered_room, answered_windows, and_then_cells, checked_room}
use Rattle.checks.specs.inner.Due.{CellsDue, Priced}

-- ---- the test

-- there is room to clear
pub clear_room : (l : ℕ) {due : Answer} {k n : ℕ} → due ≡ Ok k → cleared_of due (8 * l) ≤ n → 8 * l ≤ n
clear_room l e h = rw e at h

module _ {due : Answer} {l k : ℕ} (e : due ≡ Ok k) where
  pub yes_due : {w : List Float} → 0 < k → CellsDue due l true w w
  yes_due h = record { some = rw e (sym (lt-ltb 0 k h)); work = refl; long = refl }

  pub not_due : {w v : List Float} → k ≤ 0 → Writing (8 * l) (λ i. plus_zero) w v → CellsDue due l false w v
  not_due h c = record { some = rw e (sym (le-ltb 0 k h)); work = rw e c.is; long = c.long }

pub refused_due : {due : Answer} {q : Refusal} {l : ℕ} {w : List Float} → due ≡ Err q → CellsDue due l false w w
refused_due e = record { some = rw e; work = rw e; long = refl }

-- ---- the work slice

clears : (due : Answer) (n : ℕ) → 0 < count_of due → cleared_of due n ≡ n
clears (Ok k) n h = refl
clears (Err q) n h = let none : 0 < 0 = h in absurd (omega arith)

module _ {due : Answer} {l : ℕ} {work₀ work₁ : List Float} where
  -- there are cells, and the work slice is as it was
  pub some_due : CellsDue due l true work₀ work₁ → 0 < count_of due
  some_due d = ltb-true 0 (count_of due) (sym d.some)

  -- there are none, and the work slice is as it is to be left
  pub none_due : CellsDue due l false work₀ work₁ → (count_of due ≡ 0) × Cleared l work₀ due work₁
  none_due d = let none = ltb-false 0 (count_of due) (sym d.some) in (omega arith, d.work)

  -- the rows that a stage used are cleared with the rest
  pub cleared : {j : ℕ} {mid now : List Float} → CellsDue due l true work₀ work₁ → Touched j work₁ mid → j ≤ 8 * l
      → Writing (8 * l) (λ i. plus_zero) mid now → Cleared l work₀ due now
  cleared {mid = mid} d t h w =
      rw (clears due (8 * l) (some_due d)) (written_over_all (touched_more (rw d.work at t) h) w).is

-- ---- a call of one output

module _ {A : Type 0} {due r : Answer} {l : ℕ} {f : ℕ → A} {out₀ : List A} {work₀ work₁ : List Float} (e : r ≡ due)
  where
    -- all cells are written, and the work slice is cleared
    pub written_call : {j : ℕ} {out₁ : List A} {mid now : List Float} → AllBars due l → CellsDue r l true work₀ work₁
        → Writing l f out₀ out₁ × Touched j work₁ mid
        → j ≤ 8 * l → Writing (8 * l) (λ i. plus_zero) mid now → WorkCall due f out₀ l work₀ r out₁ now
    written_call whole d (o, t) h w = record { call = all_called whole e (some_due d) o; work = cleared d t h w }

    -- no cells
    pub empty_call : CellsDue r l false work₀ work₁ → WorkCall due f out₀ l work₀ r out₀ work₁
    empty_call d = record { call = none_called e (none_due d).0; work = (none_due d).1 }

-- ---- a call with one series, windows and a work slice

module _ (s : List Float) (windows : List ℕ) (out work : ℕ) {r : Answer}
    (e : r ≡ answered accepted s windows out (work ∷ [])) where
  -- its work slice has room to be cleared
  pub clearable : cleared_of r (8 * length s) ≤ work
  clearable = go r refl
    where
      go : (a : Answer) → r ≡ a → cleared_of a (8 * length s) ≤ work
      go (Err q) p = omega arith
      go (Ok k) p = (room accepted s windows out (work ∷ []) k (sym e ∙ p)).work_long.0

-- where its cells are due, its window is open, its prices are accepted, and the work slice has eight rows
pub priced : (s : List Float) (n : ℕ) (rest : List ℕ) (out : ℕ) {r : Answer} {t : Bool} {work₀ work₁ : List Float}
    → r ≡ answered accepted s (n ∷ rest) out (length work₀ ∷ []) → CellsDue r (length s) t work₀ work₁ → t ≡ true
    → Priced 8 n s out (length work₁)
priced s n rest out {work₀ = work₀} e d y =
    let some = some_due (rw y at d) in
    let facts = answered_room accepted s (n ∷ rest) out (length work₀ ∷ []) e some in
    record {
      window = (answered_windows accepted s (n ∷ rest) out (length work₀ ∷ []) e some).0;
      short = facts.short;
      out_long = facts.out_long;
      work_long = rw d.long facts.work_long.0;
      values = facts.values;
    }

-- a stage that uses fewer rows
pub fewer_rows : {rows more n : ℕ} {s : List Float} {out work : ℕ} → Priced more n s out work → rows ≤ more
    → Priced rows n s out work
fewer_rows {s = s} p h =
    let long = p.work_long in
    record {
      window = p.window;
      short = p.short;
      out_long = p.out_long;
      work_long = omega (arith, mul-le-mul_right (length s) h);
      values = p.values;
    }

-- ---- a call with one series and a work slice, whatever comes after the checks of its slices and values

module _ (s : List Float) (out work : ℕ) (next : Answer) {r : Answer}
    (e : r ≡ and_then (checked accepted (s ∷ []) (out ∷ []) (work ∷ [])) next) where
  -- where it has a count, there is room for its cells, and the count is that of what comes after
  pub checked_then : {k : ℕ} → r ≡ Ok k → Room accepted s out (work ∷ []) × (next ≡ Ok k)
  checked_then {k} p =
      let parts = and_then_cells (checked accepted (s ∷ []) (out ∷ []) (work ∷ [])) next k (sym e ∙ p) in
      (checked_room accepted s out (work ∷ []) _ parts.0, parts.1)

  -- its work slice has room to be cleared
  pub clearable_then : cleared_of r (8 * length s) ≤ work
  clearable_then = go r refl
    where
      go : (a : Answer) → r ≡ a → cleared_of a (8 * length s) ≤ work
      go (Err q) p = omega arith
      go (Ok k) p = (checked_then p).0.work_long.0

  -- there is room where it has cells
  pub room_then : 0 < count_of r → Room accepted s out (work ∷ [])
  room_then h = go r refl h
    where
      go : (a : Answer) → r ≡ a → 0 < count_of a → Room accepted s out (work ∷ [])
      go (Ok k) p h = (checked_then p).0
      go (Err q) p h = let none : 0 < 0 = h in absurd (omega arith)
