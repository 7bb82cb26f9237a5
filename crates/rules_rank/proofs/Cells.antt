-- A bar's position from what the stages before it wrote. Assumes nothing.
use mathlib.Core.Path.{◌≡◌, sym, ◌∙◌}
use mathlib.Core.List.{List}
use Prim.Native.Nat.{ℕ, ◌+◌, ◌-◌, ◌*◌, ◌<◌, ◌≤◌}
use native.Mathlib.Omega.{arith}
use lib.ListN.{length}
use lib.Ieee.{Float, nan}
use Rattle.cells.specs.Line.{Line, line, plus_zero}
use Rattle.cells.proofs.Line.{from_bar_lem, before_bar}
use Rattle.cells.specs.Written.{Writing}
use Rattle.cells.proofs.Written.{read_back, writing_same}
use Rattle.cells.proofs.RowWrites.{beside_first, beside_second}
use Rattle.windows.specs.Window.{mean}
use Rattle.ranks.specs.Counted.{below}
use Rattle.ranks.specs.inner.Counting.{Counting}
use Rattle.ranks.proofs.Counted.{count_from_same}
use Rattle.rules_rank.specs.Rank.{below_now, rank_line}
use Rattle.rules_rank.specs.inner.Rows.{RankRows}

-- no position is due
pub none_ranked : (n : ℕ) {l : ℕ} (f : Line) {old now : List Float} → Writing l (λ i. plus_zero) old now → l ≤ 2 * n - 2
    → Writing l (rank_line n f) old now
unfolding rank_line
none_ranked n f w h = writing_same w (λ i m. sym (before_bar (2 * n - 2) plus_zero _ i (omega arith)))

module _ {n : ℕ} {s now : List Float} (r : RankRows n s now) where
  -- the means, read back
  mean_at : (j : ℕ) → j < length s → line now j ≡ mean n (line s) j
  mean_at j h =
      let w = r.window.some in
      read_back j nan r.rows (omega arith) ∙ beside_first _ _ _ j h

  -- the count of the means below that of bar i picks its position
  pub picked : (i : ℕ) {c : ℕ} → Counting (below (line now i)) (line now) (i + 1 - n) (n - 1) c
      → (2 * n - 2 ≤ i) × (i < length s) → line now (length s + c) ≡ rank_line n (line s) i
  unfolding rank_line below_now
  picked i {c} k (h, l) =
      let w = r.window.some in
      let room = r.room in
      let due = r.due in
      let count : c ≡ below_now n (mean n (line s)) i =
      k.is ∙ count_from_same _ _ _ _ (i + 1 - n) (n - 1) (λ j m. rw (mean_at j (omega arith), mean_at i l)) in
      read_back (length s + c) nan r.rows (omega arith)
      ∙ beside_second (length s) _ _ c
      ∙ rw count (sym (from_bar_lem (2 * n - 2) plus_zero _ i h))
