-- The square root of a float: the value of the format that is nearest to the true root, found with whole numbers alone.
-- IEEE 754-2019, 5.4.1 (squareRoot), with roundTiesToEven. Assumes nothing.
use Rattle.std.specs.Prelude.{true, false, cond, leb, Float}
use Prim.Native.Nat.{ℕ, zero, suc, ◌+◌, ◌-◌, ◌*◌, ◌/◌, ◌^◌, compare}
use Rattle.std.specs.Float.{nan, inf, fin, Format}
use Rattle.std.specs.Float.Ieee.{prec, low, size, nearest, units}
use Rattle.rounding.specs.Nearest.{in_units}

-- The root of an n below 2 ^ d, rounded down to a whole number: twice the root of n / 4, or one more where the square
-- of that is at most n.
unfoldable pub root_below : ℕ → ℕ → ℕ
root_below zero n = 0
root_below (suc d) n = let r = 2 * root_below d (n / 4) in cond (leb ((r + 1) * (r + 1)) n) (r + 1) r

unfoldable pub root : ℕ → ℕ
unfolding root_below size
root n = root_below (size n) n

-- The value of the format f that is nearest to √n, in units of f's smallest value. Of the root's whole part the
-- format keeps the `prec` leading digits and drops k, so that √n lies from q * 2 ^ k up to (q + 1) * 2 ^ k. It goes
-- to the nearer one: half their sum is the middle between them, so √n lies below or above the middle as 4 * n lies
-- below or above the square of the sum. At a tie it goes to the even one.
unfoldable pub nearest_root : Format → ℕ → Float
unfolding root size units
nearest_root f n =
    let k = size (root n) - prec f in
    let q = root n / 2 ^ k in
    let sum = (2 * q + 1) * 2 ^ k in
    units f false (nearest q (compare (4 * n) (sum * sum))) k

-- The root of a number in units, in units: √x is √(x * 2 ^ low f) where x is in units, since a unit is 2 ^ -low f.
-- A zero is its own root, and so is the infinity above zero. A NaN and what is below zero have none.
unfoldable pub sqrt_of : Format → Float → Float
unfolding nearest_root
sqrt_of f nan = nan
sqrt_of f (inf s) = cond s nan (inf false)
sqrt_of f (fin s zero e) = fin s zero e
sqrt_of f (fin true (suc m) e) = nan
sqrt_of f (fin false (suc m) e) = nearest_root f (in_units f (fin false (suc m) e) * 2 ^ low f)
