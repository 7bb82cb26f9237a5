-- How a call meets its contract: where cells are due all of them are written, and else none. Assumes nothing.
use mathlib.Core.Path.{◌≡◌, sym, ◌∙◌}
use mathlib.Core.List.{List}
use mathlib.Core.Bool.{Bool, false, true}
use Prim.Native.Nat.{ℕ, ◌<◌}
use native.Mathlib.Omega.{arith}
use borrow.Author.Tests.{ltb-false, ltb-true}
use lib.Dec.{ltb}
use Rattle.calls.specs.declared.Refusal.{Refusal}
use Rattle.calls.specs.Answer.{Answer, count_of}
use Rattle.std.specs.Prelude.{Ok, Err}
use Rattle.cells.specs.Written.{Writing}
use Rattle.calls.specs.Call.{Call}

module _ {A : Type 0} {due : Answer} {f : ℕ → A} {out₀ : List A} where
  -- a refusal changes no cell
  pub refused : {r : Answer} {q : Refusal} → r ≡ due → r ≡ Err q → Call due f out₀ r out₀
  refused e q = record { answer = e; cells = rw q }

  -- a count says how much is written
  pub counted : {k : ℕ} {out₁ : List A} → Ok k ≡ due → Writing k f out₀ out₁ → Call due f out₀ (Ok k) out₁
  counted e o = record { answer = e; cells = o.is }

  -- no cells
  pub none_called : {r : Answer} → r ≡ due → count_of r ≡ 0 → Call due f out₀ r out₀
  none_called e z = record { answer = e; cells = rw z }

-- a call that has cells has one for each of l bars
abbrev pub AllBars : Answer → ℕ → Type 0
AllBars due l = (k : ℕ) → due ≡ Ok k → 0 < k → k ≡ l

-- where there are cells, they are those of all bars
pub all_counted : {due r : Answer} {l : ℕ} → AllBars due l → r ≡ due → 0 < count_of r → count_of r ≡ l
all_counted {r = Ok k} whole e h = whole k (sym e) h
all_counted {r = Err q} whole e h = let none : 0 < 0 = h in absurd (omega arith)

-- all cells
pub all_called : {A : Type 0} {due r : Answer} {l : ℕ} {f : ℕ → A} {out₀ out₁ : List A} → AllBars due l → r ≡ due
    → 0 < count_of r
    → Writing l f out₀ out₁ → Call due f out₀ r out₁
all_called whole e h w = record { answer = e; cells = rw (all_counted whole e h) w.is }

-- ---- by the test of `has_cells`

module _ (r : Answer) {t : Bool} (e : t ≡ ltb 0 (count_of r)) where
  pub some_cells : t ≡ true → 0 < count_of r
  some_cells h = ltb-true 0 (count_of r) (sym e ∙ h)

  pub no_cells : t ≡ false → count_of r ≡ 0
  no_cells h = let none = ltb-false 0 (count_of r) (sym e ∙ h) in omega arith
