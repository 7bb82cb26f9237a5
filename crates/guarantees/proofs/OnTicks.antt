-- The doubly averaged price on whole ticks: see specs/OnTicks.antt. Assumes nothing.
use Rattle.std.specs.Prelude.{List, ℕ, ◌+◌, ◌*◌, ◌<◌, ◌≤◌, length, Float}
use Rattle.std.proofs.Common.{arith}
use Rattle.limits.specs.Limits.{Window}
use Rattle.cells.specs.Line.{line}
use Rattle.exact_ticks.proofs.Errors.{mean_of_means_about}
use Rattle.windows.specs.Window.{mean}
use Rattle.guarantees.specs.Series.{WholeTicks}
use Rattle.guarantees.specs.OnTicks.{IsNearMean, D, near_mean, whole_ticks}

-- The doubly averaged price of any series of whole ticks, in a call or not: from bar 2n - 2 it is at most 1/131,072
-- tick from D / (n · n).
pub doubly_averaged_on_ticks : {s : List Float} → WholeTicks s → (n : ℕ) → Window n → (i : ℕ) → 2 * n ≤ i + 2
    → i < length s → IsNearMean (D n s i) (n * n) (mean n (mean n (line s)) i)
doubly_averaged_on_ticks w n v i b h =
    let M = v.narrow in
    near_mean
    (mean_of_means_about (whole_ticks w) n v.some (omega arith) n v.some (omega arith) i (omega arith) h)
