-- Operators on a line that stands in the first part of a slice. Assumes nothing.
use mathlib.Core.Path.{◌≡◌}
use mathlib.Core.List.{List}
use Prim.Native.Nat.{ℕ, zero, suc, ◌+◌, ◌<◌, ◌≤◌}
use native.Mathlib.Omega.{arith}
use lib.ListN.{length, take}
use lib.Ieee.{Float}
use Rattle.cells.specs.Line.{Line, line, Causal}
use Rattle.cells.specs.inner.Rows.{beside}
use Rattle.cells.specs.Written.{Writing}
use Rattle.cells.proofs.Written.{writing_same}
use Rattle.cells.proofs.Parts.{part_is, part_long}

beside_same : (a b : ℕ) (g f g' f' : Line) → ((i : ℕ) → i < a → g i ≡ g' i) → ((i : ℕ) → i < b → f i ≡ f' i)
    → (i : ℕ) → i < a + b → beside a g f i ≡ beside a g' f' i
unfolding beside
beside_same zero b g f g' f' p q i l = q i (omega arith)
beside_same (suc a) b g f g' f' p q zero l = p 0 (omega arith)
beside_same (suc a) b g f g' f' p q (suc i) l =
    beside_same a b (λ j. g (suc j)) f (λ j. g' (suc j)) f' (λ j m. p (suc j) (omega arith)) q i (omega arith)

-- two causal operators, side by side, on the first part of a slice, which holds the line g
pub both_through : {k : ℕ} {g : Line} {old mid : List Float} → Writing k g old mid → k ≤ length old
    → (F G : Line → Line) {a b : List Float} → Causal F → Causal G
    → (let t = take k mid in Writing (length t + length t) (beside (length t) (F (line t)) (G (line t))) a b)
    → Writing (k + k) (beside k (F g) (G g)) a b
both_through {k} {g} {mid = mid} w h F G p q v =
    let t = line (take k mid) in
    let same : (i : ℕ) → i < k → (j : ℕ) → j ≤ i → t j ≡ g j = λ i l j m. part_is w h j (omega arith) in
    writing_same (rw (part_long w h) at v)
    (beside_same k k _ _ _ _ (λ i l. p t g i (same i l)) (λ i l. q t g i (same i l)))
