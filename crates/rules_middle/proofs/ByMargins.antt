-- The middle rule decided by running sums. Assumes nothing.
use mathlib.Core.Path.{◌≡◌, ◌∙◌}
use mathlib.Core.Bool.{Bool, true}
use mathlib.Core.List.{List}
use Prim.Native.Nat.{ℕ, ◌+◌, ◌-◌, ◌*◌, ◌<◌, ◌≤◌}
use native.Mathlib.Omega.{arith}
use lib.Dec.{T}
use lib.ListN.{length, take}
use lib.Ieee.{Float, binary64, fits}
use Rattle.rounding.proofs.Signs.{finite_number}
use Rattle.limits.specs.Limits.{Window, longest_series}
use Rattle.values.specs.Accepted.{accepted, all}
use Rattle.cells.specs.Line.{line, plus_zero}
use Rattle.cells.specs.Written.{Writing}
use Rattle.cells.proofs.Carried.{from_same}
use Rattle.cells.proofs.Parts.{part_long}
use Rattle.extremes.specs.inner.Blocks.{Room}
use Rattle.extremes.proofs.Parts.{part_numbers}
use Rattle.windows.specs.inner.Means.{running_means}
use Rattle.margins.specs.inner.Margin.{largest_of, margin_of, far_from_middle, AllFar}
use Rattle.margins.proofs.Twice.{running_windowed}
use Rattle.margins.proofs.Middle.{decided_middle}
use Rattle.rules_middle.specs.Middle.{mid_line}
use Rattle.rules_middle.specs.inner.Positions.{positions}
use Rattle.rules_middle.proofs.Middle.{Standing, positions_are}

module _ (s : List Float) (n : ℕ) (ok : all accepted s ≡ true) (floats : (j : ℕ) → T (fits binary64 (line s j)))
    (w : Window n) (B : length s ≤ longest_series) where
  -- means by running sums have windows
  pub running_means_room : {old now : List Float} {cells : ℕ} → Writing (length s) (running_means n (line s)) old now
      → length s ≤ length old → length s + length s ≤ cells → Room (take (length s) now) n cells
  running_means_room v h l =
      let long = part_long v h in
      record {
        window = w;
        short = rw long B;
        room = rw long l;
        numbers = part_numbers v h
            (record { at = λ i m. finite_number _ ((running_windowed s n ok floats w B).small.number i m).ends });
      }

  -- where every mean is far enough from its middle, the means by running sums give the rule's cells
  pub by_margins : {now rows : List Float} → Standing n (length s) (running_means n (line s)) now rows
      → {r : Bool} {d : Float} → r ≡ true → d ≡ margin_of (largest_of (line s) (length s))
      → AllFar r (2 * n - 2) (λ j. far_from_middle d (line now j) (line rows j) (line rows (length s + j))) (length s)
      → (i : ℕ) → i < length s → positions n (length s) (line now) (line rows) i ≡ mid_line n (line s) i
  unfolding mid_line
  by_margins v e m far i h =
      positions_are v i h
      ∙ from_same (2 * n - 2) plus_zero _ _ i
      (λ b. let (sign, highs, lows) = decided_middle s n ok floats w B i (omega arith) h
      (rw (m, v.mean_is i h, v.high_is i h, v.low_is i h) at (far.each e i b h)) in
      rw (highs.0, highs.1, lows.0, lows.1, sign))
