-- A stage that reads the first part of a slice, which holds numbers. Assumes nothing.
use mathlib.Core.List.{List}
use Prim.Native.Nat.{ℕ, ◌<◌, ◌≤◌}
use native.Mathlib.Omega.{arith}
use lib.ListN.{length, take}
use lib.Ieee.{Float}
use Rattle.cells.specs.Line.{Line, line}
use Rattle.cells.specs.Written.{Writing}
use Rattle.extremes.specs.inner.Best.{Numbers}
use Rattle.cells.proofs.Parts.{part_is, part_long}

module _ {k : ℕ} {g : Line} {old mid : List Float} (w : Writing k g old mid) (h : k ≤ length old) where
  pub part_numbers : Numbers g k → Numbers (line (take k mid)) (length (take k mid))
  part_numbers p = record {
    at = λ i l. let long = part_long w h in let m : i < k = omega arith in rw
        (part_is w h i m) (p.at i m);
  }
