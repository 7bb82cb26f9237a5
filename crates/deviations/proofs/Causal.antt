-- The deviation has no look-ahead. Assumes nothing.
use mathlib.Core.Path.{◌≡◌}
use Prim.Native.Nat.{ℕ, ◌+◌, ◌-◌, ◌≤◌}
use native.Mathlib.Omega.{arith}
use lib.Ieee.{Float, nan, binary64, sub}
use Rattle.cells.specs.Line.{Line, Same, Causal}
use Rattle.cells.proofs.Line.{causal_from}
use Rattle.windows.specs.Window.{sum_from, over}
use Rattle.windows.proofs.Window.{sum_from_same}
use Rattle.deviations.specs.Deviation.{square, squares_about, deviation}

squares_same : (z : Float) (n : ℕ) (m : Float) (f g : Line) (i : ℕ) → n ≤ i + 1 → Same f g i
    → squares_about z n m f i ≡ squares_about z n m g i
squares_same z n m f g i l s =
    sum_from_same z (λ j. square (sub binary64 (f j) m)) (λ j. square (sub binary64 (g j) m)) (i + 1 - n) n
    (λ j h. rw (s j (omega arith)))

pub causal_deviation : (z : Float) (d n : ℕ) → Causal (deviation z d n)
unfolding deviation
causal_deviation z d n =
    causal_from (n - 1) nan
    (λ f g b s l. rw (
      sum_from_same z f g (b + 1 - n) n (λ j h. s j (omega arith)),
      squares_same z n (over n (sum_from z g (b + 1 - n) n)) f g b (omega arith) s,
    ))
