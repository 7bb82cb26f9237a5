-- The highest and the lowest of the last means, in two rows. Assumes nothing.
use Rattle.std.specs.Prelude.{List, ℕ, ◌+◌, length, Float}
use Rattle.cells.specs.Line.{line}
use Rattle.cells.specs.inner.Rows.{beside}
use Rattle.cells.specs.Written.{Writing}
use Rattle.windows.specs.Window.{mean}
use Rattle.extremes.specs.Extreme.{larger, smaller, extreme}

-- the highest of the last w means in the first row, the lowest in the second; each mean is of n bars
abbrev pub Ranges : ℕ → ℕ → List Float → List Float → List Float → Type 0
Ranges n w s old now =
    let f = mean n (line s) in
    Writing (length s + length s) (beside (length s) (extreme larger w f) (extreme smaller w f)) old now
