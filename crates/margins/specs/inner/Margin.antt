-- The margin beyond which an average by running sums decides. Assumes nothing.
use Rattle.std.specs.Prelude.{◌≡◌, Bool, true, false, ◌&&◌, ℕ, ◌<◌, ◌≤◌, negsuc, Float}
use Rattle.std.specs.Float.{fin, binary64}
use Rattle.std.specs.Float.Ieee.{add, sub, mul, div, lt}
use Rattle.rounding.specs.Leaves.{magnitude_of, two}
use Rattle.cells.specs.Line.{Line, plus_zero}
use Rattle.cells.specs.Recur.{recur}
use Rattle.extremes.specs.Extreme.{larger}

-- the largest magnitude of the first k cells
unfoldable pub largest_of : Line → ℕ → Float
largest_of f = recur plus_zero (λ j most. larger most (magnitude_of (f j)))

-- 2 ^ -31, and 2 ^ -1000
abbrev pub margin_share : Float
margin_share = fin false 1 (negsuc 30)

abbrev pub margin_least : Float
margin_least = fin false 1 (negsuc 999)

-- that share of a bound, and the least for bounds among the smallest numbers
abbrev pub margin_of : Float → Float
margin_of most = add binary64 (mul binary64 most margin_share) margin_least

-- price and average are farther apart than the distance d, and so are the average and 0
abbrev pub far : Float → Float → Float → Bool
far d price average = lt d (magnitude_of (sub binary64 price average)) && lt d (magnitude_of average)

-- a mean and the middle of highest and lowest are farther apart than the distance d, and so are each of these and 0
abbrev pub far_from_middle : Float → Float → Float → Float → Bool
far_from_middle d average high low =
    lt d (magnitude_of (sub binary64 average (div binary64 (add binary64 high low) two)))
    && (lt d (magnitude_of high) && lt d (magnitude_of low))

-- r says whether the bars from `first` on all meet a test
pub record AllFar (r : Bool) (first : ℕ) (test : ℕ → Bool) (bars : ℕ) : Type 0 where
  pub each : r ≡ true → (i : ℕ) → first ≤ i → i < bars → test i ≡ true
  pub only : ((i : ℕ) → first ≤ i → i < bars → test i ≡ true) → r ≡ true
