-- Parts of a slice that are read, and a stage that reads the first part, which holds a line. Assumes nothing.
use mathlib.Core.Path.{◌≡◌, ◌∙◌}
use mathlib.Core.List.{List}
use Prim.Native.Nat.{ℕ, ◌+◌, ◌-◌, ◌<◌, ◌≤◌}
use native.Mathlib.Omega.{arith}
use lib.ListN.{length, take, drop, length-take, length-drop}
use lib.Seq.{get_or-take, get_or-drop}
use lib.Ieee.{Float, nan}
use Rattle.cells.specs.Line.{Line, line, Causal}
use Rattle.cells.specs.Written.{Writing}
use Rattle.cells.proofs.Written.{read_back, ends, writing_same}

-- the first k cells of a slice that has as many
pub taken_long : {A : Type 0} (k : ℕ) (s : List A) → k ≤ length s → length (take k s) ≡ k
taken_long k s h = rw length-take (omega arith)

-- the cells of a slice from index a up to b, lent
pub lent_long : {A : Type 0} (a b : ℕ) (s : List A) → b ≤ length s → length (take (b - a) (drop a s)) ≡ b - a
lent_long a b s h = simp (length-take, length-drop) (omega arith)

pub lent_cell : (a k i : ℕ) (s : List Float) → i < k → line (take k (drop a s)) i ≡ line s (a + i)
lent_cell a k i s h = get_or-take k (drop a s) i nan h ∙ get_or-drop a s i nan

-- ---- a stage that reads the first part of a slice, which holds the line g

module _ {k : ℕ} {g : Line} {old mid : List Float} (w : Writing k g old mid) (h : k ≤ length old) where
  pub part_long : length (take k mid) ≡ k
  part_long = taken_long k mid (let e = w.long in omega arith)

  pub part_is : (i : ℕ) → i < k → line (take k mid) i ≡ g i
  part_is i l = get_or-take k mid i nan l ∙ read_back i nan w (omega arith)

  -- a causal operator on that part is the operator on g
  pub through : {B : Type 0} (F : Line → ℕ → B) {a b : List B} → Causal F
      → Writing (length (take k mid)) (F (line (take k mid))) a b → Writing k (F g) a b
  through F p v = writing_same (ends v part_long) (λ i l. p (line (take k mid)) g i (λ j m. part_is j (omega arith)))
