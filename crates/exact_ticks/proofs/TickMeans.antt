-- A series of whole ticks as a line of whole numbers. Assumes nothing.
use mathlib.Core.Path.{◌≡◌, sym}
use mathlib.Core.Bool.{true}
use mathlib.Core.List.{List}
use Prim.Native.Nat.{ℕ, ◌<◌}
use lib.Dec.{T}
use lib.ListN.{length}
use lib.Ieee.{Float, binary64, to_signed, fits}
use lib.Ieee.Back.{Float-back_signed}
use Rattle.values.specs.Accepted.{tick, all}
use Rattle.values.proofs.All.{all_at}
use Rattle.cells.specs.Line.{line}
use Rattle.values.proofs.Ticks.{ticked}
use Rattle.exact_ticks.proofs.Exact.{TickLine}

-- a series of floats that are whole ticks, as a line of whole numbers
pub tick_line : (s : List Float) → ((i : ℕ) → i < length s → T (fits binary64 (line s i))) → all tick s ≡ true
    → TickLine (length s) (line s) (λ i. to_signed 63 (line s i))
tick_line s floats h = record {
  is = λ i l. sym (Float-back_signed binary64 63 (line s i) (floats i l)
      (ticked (line s i) (all_at tick s i h l)).castable).1;
  small = λ i l. (ticked (line s i) (all_at tick s i h l)).near;
}
