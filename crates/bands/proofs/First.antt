-- A line of which only the first bars are computed, since it is NaN after them. Assumes nothing.
use mathlib.Core.Path.{◌≡◌, refl, sym, ◌∙◌}
use mathlib.Core.Bool.{Bool, true, false}
use mathlib.Core.List.{List, [], ◌∷◌, ◌++◌}
use Prim.Native.Nat.{ℕ, zero, suc, ◌+◌, ◌-◌, ◌<◌, ◌≤◌}
use native.Mathlib.Omega.{arith}
use borrow.Author.Tests.{ltb-true, ltb-false}
use lib.Dec.{ltb}
use lib.ListN.{length, take, drop, length-take}
use lib.Seq.{get_or-take}
use lib.Ieee.{Float, nan}
use Rattle.values.specs.Accepted.{all}
use Rattle.values.proofs.All.{and_parts}
use Rattle.cells.specs.Line.{Line, line, Causal}
use Rattle.cells.specs.Written.{Writing}
use Rattle.cells.specs.inner.Rows.{beside}
use Rattle.cells.proofs.RowWrites.{beside_first, beside_second, lent_on}
use Rattle.cells.proofs.Written.{ends, writing_same}

-- ---- the first k bars of a series

pub all_first : (p : Float → Bool) (k : ℕ) (s : List Float) → all p s ≡ true → all p (take k s) ≡ true
all_first p zero s e = refl
all_first p (suc k) [] e = refl
all_first p (suc k) (x ∷ s) e =
    let q = and_parts (p x) (all p s) e in
    rw q.0 (all_first p k s q.1)

module _ (k : ℕ) (s : List Float) (h : k ≤ length s) where
  pub first_long : length (take k s) ≡ k
  first_long = rw length-take (omega arith)

  -- a causal operator on them is the operator on the series
  pub of_first : (F : Line → Line) {a b : List Float} → Causal F
      → Writing (length (take k s)) (F (line (take k s))) a b → Writing k (F (line s)) a b
  of_first F p v =
      writing_same (ends v first_long)
      (λ i l. p (line (take k s)) (line s) i (λ j m. get_or-take k s j nan (omega arith)))

-- ---- the bars from k on

-- the part from bar k on was lent, and came back with the line's cells
pub then_part : {k l : ℕ} {f g : Line} {old mid part : List Float} → Writing k f old mid
    → Writing l g (take (length mid - k) (drop k mid)) part
    → ((j : ℕ) → j < l → g j ≡ f (k + j)) → k ≤ length mid
    → Writing (k + l) f old (take k mid ++ (part ++ drop (length mid - k) (drop k mid)))
then_part {k} {l} {f} {g} v w same room = writing_same (lent_on v w room) each
  where
    each : (i : ℕ) → i < k + l → beside k f g i ≡ f i
    each i b = go (ltb i k) refl
      where
        go : (t : Bool) → ltb i k ≡ t → beside k f g i ≡ f i
        go true e = beside_first k f g i (ltb-true i k e)
        go false e =
            let q = ltb-false i k e in
            let at : k + (i - k) ≡ i = omega arith in
            rw at at (beside_second k f g (i - k) ∙ same (i - k) (omega arith))

-- NaN from bar k on
pub nan_then : {k l : ℕ} {f : Line} {old mid part : List Float} → Writing k f old mid
    → Writing (l - k) (λ i. nan) (take (length mid - k) (drop k mid)) part
    → ((i : ℕ) → k ≤ i → i < l → f i ≡ nan) → (k ≤ l) × (k ≤ length mid)
    → Writing l f old (take k mid ++ (part ++ drop (length mid - k) (drop k mid)))
nan_then {k} v w late (h, room) =
    ends (then_part v w (λ j b. sym (late (k + j) (omega arith) (omega arith))) room) (omega arith)
