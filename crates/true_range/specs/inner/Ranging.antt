-- What the functions under `true_range` ask of each other. Assumes nothing.
use Rattle.std.specs.Prelude.{◌≡◌, false, List, ℕ, ◌-◌, length, Float, Option, None, Some}
use Rattle.std.specs.Float.{binary64}
use Rattle.std.specs.Float.Ieee.{sub, is_nan}
use Rattle.cells.specs.Line.{Line, line}
use Rattle.cells.specs.Written.{Writing}
use Rattle.true_range.specs.TrueRange.{true_ranges}

-- high and low less the close before are numbers
abbrev pub Numbers : Float → Float → Option Float → Type 0
Numbers high low None = Unit {0}
Numbers high low (Some close) =
    (is_nan (sub binary64 high close) ≡ false) × (is_nan (sub binary64 low close) ≡ false)

-- a line's cell of some bars before
abbrev pub back_by : ℕ → Line → Line
back_by back f i = f (i - back)

-- the true range of every bar is written
abbrev pub Ranged : List Float → List Float → (ℕ → Option Float) → List Float → List Float → Type 0
Ranged high low before old now = Writing (length high) (true_ranges (line high) (line low) before) old now
