-- The one-average rule decided by running sums. Assumes nothing.
use mathlib.Core.Path.{◌≡◌, ◌∙◌, ap}
use mathlib.Core.Bool.{Bool, true}
use mathlib.Core.List.{List}
use Prim.Native.Nat.{ℕ, ◌-◌, ◌*◌, ◌<◌, ◌≤◌}
use native.Mathlib.Omega.{arith}
use lib.Dec.{T}
use lib.ListN.{length}
use lib.Ieee.{Float, nan, binary64, fits}
use Rattle.limits.specs.Limits.{Window, longest_series}
use Rattle.values.specs.Accepted.{accepted, all}
use Rattle.cells.specs.Line.{line, plus_zero}
use Rattle.cells.specs.Written.{Writing}
use Rattle.cells.proofs.Carried.{from_same}
use Rattle.cells.proofs.Written.{read_back}
use Rattle.windows.specs.inner.Means.{running_means}
use Rattle.margins.specs.inner.Margin.{largest_of, margin_of, far, AllFar}
use Rattle.margins.proofs.Twice.{decided_twice}
use Rattle.rules_single.specs.inner.Positions.{positions}
use Rattle.rules_single.specs.Single.{single_line}
use Rattle.rules_single.proofs.Single.{positions_single}

-- where every price is far enough from its average, the averages by running sums give the rule's cells
pub by_margins : (s : List Float) (n : ℕ) {old now : List Float} → all accepted s ≡ true
    → ((j : ℕ) → T (fits binary64 (line s j))) → Window n → length s ≤ longest_series
    → Writing (length s) (running_means n (running_means n (line s))) old now → length s ≤ length old
    → {r : Bool} {d : Float} → r ≡ true → d ≡ margin_of (largest_of (line s) (length s))
    → AllFar r (2 * n - 2) (λ j. far d (line s j) (line now j)) (length s)
    → (i : ℕ) → i < length s → positions n (line s) (line now) i ≡ single_line n (line s) i
by_margins s n {old} {now} ok floats w B cells room e m far i h =
    let cell = read_back i nan cells (omega arith) in
    from_same (2 * n - 2) plus_zero _ _ i
    (λ b. let (sign, some, other) = decided_twice s n ok floats w B i h (rw (m, cell) at (far.each e i b h)) in
    rw (cell, some, other, sign))
    ∙ ap (λ g. g i) (positions_single n (line s))
