-- `sqrt_of` is the correctly rounded root: the true root is nearer to it than to any other float of the format
-- (`nearest_root_lem`, at the end). So there is never a tie. Assumes nothing.
use Rattle.std.specs.Prelude.{ℕ, ◌+◌, ◌*◌, ◌^◌, ◌<◌, T, Float}
use Rattle.std.specs.Float.{Format}
use Rattle.std.specs.Float.Ieee.{low, fits}
use Rattle.std.specs.Float.Ieee.Positive.{positive}
use Rattle.std.specs.Float.Ieee.Scale.{finite}
use Rattle.rounding.specs.Nearest.{in_units}

-- ---- the statement

-- √n is nearer to r than to y: it lies on r's side of the middle between them, (r + y) / 2, so 4 * n lies on that
-- side of (r + y)²
pub record Nearer (n r y : ℕ) : Type 0 where
  pub below_middle : r < y → 4 * n < (r + y) * (r + y)
  pub above_middle : y < r → (r + y) * (r + y) < 4 * n

-- r is a float of the format f, finite and above zero, and √x is nearer to r than to any other finite float y of f.
-- All are in units of f's smallest value, and x in their squares. Of y the size is taken: a y below zero is farther
-- from the root than its size is.
pub record NearestRoot (f : Format) (x r : Float) : Type 0 where
  pub held : T (fits f r)
  pub above_zero : T (positive r)
  pub nearer : (y : Float) → T (fits f y) → T (finite y)
      → Nearer (in_units f x * 2 ^ low f) (in_units f r) (in_units f y)
