-- The middle rule: no look-ahead, and a cell from what the stages before it wrote. Assumes nothing.
use mathlib.Core.Path.{◌≡◌, ◌∙◌}
use mathlib.Core.List.{List}
use Prim.Native.Nat.{ℕ, ◌+◌, ◌-◌, ◌*◌, ◌<◌, ◌≤◌}
use native.Mathlib.Omega.{arith}
use lib.ListN.{length}
use lib.Ieee.{Float, nan}
use Rattle.cells.specs.Line.{Line, line, plus_zero, Causal}
use Rattle.cells.specs.inner.Rows.{beside}
use Rattle.cells.specs.Written.{Writing}
use Rattle.cells.proofs.Carried.{from_same}
use Rattle.cells.proofs.RowWrites.{beside_first, beside_second}
use Rattle.cells.proofs.Written.{read_back}
use Rattle.cells.proofs.Line.{causal_then, causal_from}
use Rattle.windows.proofs.Window.{causal_mean}
use Rattle.extremes.specs.Extreme.{larger, smaller, extreme}
use Rattle.extremes.proofs.Extreme.{causal_extreme}
use Rattle.rules_middle.specs.Middle.{against_middles, mid_line}
use Rattle.rules_middle.specs.inner.Positions.{positions}

pub causal_mid : (n : ℕ) → 0 < n → Causal (mid_line n)
unfolding mid_line
causal_mid n p =
    causal_from (2 * n - 2) plus_zero
    (λ f g b s l. rw (
      causal_mean n f g b s,
      causal_then (causal_mean n) (causal_extreme larger n p) f g b s,
      causal_then (causal_mean n) (causal_extreme smaller n p) f g b s,
    ))

-- ---- the positions of any means

-- the means of g stand in one slice, and the highest and the lowest of the last n in two rows of another
pub record Standing (n bars : ℕ) (g : Line) (now rows : List Float) : Type 0 where
  pub mean_is : (i : ℕ) → i < bars → line now i ≡ g i
  pub high_is : (i : ℕ) → i < bars → line rows i ≡ extreme larger n g i
  pub low_is : (i : ℕ) → i < bars → line rows (bars + i) ≡ extreme smaller n g i

pub standing : (n : ℕ) {bars : ℕ} {g : Line} {old now old' rows : List Float} → Writing bars g old now
    → Writing (bars + bars) (beside bars (extreme larger n g) (extreme smaller n g)) old' rows
    → bars ≤ length old → bars + bars ≤ length old' → Standing n bars g now rows
standing n {bars} v w h k = record {
  mean_is = λ i l. read_back i nan v (omega arith);
  high_is = λ i l. read_back i nan w (omega arith) ∙ beside_first _ _ _ i l;
  low_is = λ i l. read_back (bars + i) nan w (omega arith) ∙ beside_second _ _ _ i;
}

pub positions_are : {n bars : ℕ} {g : Line} {now rows : List Float} → Standing n bars g now rows → (i : ℕ) → i < bars
    → positions n bars (line now) (line rows) i ≡ against_middles n g (extreme larger n g) (extreme smaller n g) i
positions_are {n} w i l =
    from_same (2 * n - 2) plus_zero _ _ i (λ b. rw (w.mean_is i l, w.high_is i l, w.low_is i l))
