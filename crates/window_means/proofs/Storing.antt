-- How the cells of bars side by side are stored. Assumes nothing.
use mathlib.Core.Path.{◌≡◌}
use Rattle.std.proofs.Common.{List, [], ◌∷◌}
use Prim.Native.Nat.{ℕ, suc, ◌+◌, ◌<◌, ◌≤◌}
use native.Mathlib.Nat.{add-zero}
use native.Mathlib.Omega.{arith}
use lib.ListN.{length}
use lib.Ieee.{Float}
use Rattle.cells.specs.Line.{Line, line}
use Rattle.cells.specs.Written.{Writing}
use Rattle.cells.proofs.Written.{one_more, ends}
use Rattle.windows.specs.inner.Lanes.{LanesOf}
use Rattle.window_means.specs.inner.Storing.{stored}

module _ {f : Line} {old : List Float} where
  -- the cells that a line asks, stored
  more_stored : (lanes : List Float) (k : ℕ) {now : List Float} → Writing k f old now
      → ((j : ℕ) → j < length lanes → line lanes j ≡ f (k + j)) → k + length lanes ≤ length old
      → Writing (k + length lanes) f old (stored now k lanes)
  more_stored [] k w e h = ends w (omega arith)
  more_stored (x ∷ lanes) k w e h =
      let first : x ≡ f k = rw add-zero at (e 0 (omega arith)) in
      let rest = more_stored lanes (k + 1) (one_more w first (omega arith))
      (λ j l. let bar : k + 1 + j ≡ k + suc j = omega arith in rw bar (e (suc j) (omega arith))) (omega arith) in
      ends rest (omega arith)

  -- N bars side by side, stored
  pub lanes_stored : {N : ℕ} (k : ℕ) {now next lanes : List Float} → Writing k f old now → LanesOf N f k lanes
      → next ≡ stored now k lanes → k + N ≤ length old → Writing (k + N) f old next
  lanes_stored k {lanes = lanes} w r e h =
      let l = r.long in
      rw (e, ← l) (more_stored lanes k w (λ j m. r.lane j (omega arith)) (omega arith))
