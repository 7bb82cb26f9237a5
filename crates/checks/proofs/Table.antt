-- A call of one series with f64 parameters, a window and a work slice: what is known of it where its cells are due.
-- Assumes nothing.
use mathlib.Core.Path.{◌≡◌}
use mathlib.Core.Bool.{Bool, true}
use mathlib.Core.List.{List, [], ◌∷◌}
use Prim.Native.Nat.{ℕ, ◌*◌, ◌<◌, ◌≤◌}
use lib.ListN.{length}
use lib.Ieee.{Float}
use Rattle.values.specs.Accepted.{accepted}
use Rattle.calls.specs.Answer.{Answer, cleared_of, answered_with}
use Rattle.calls.proofs.Room.{with_windows}
use Rattle.checks.specs.inner.Due.{CellsDue, Priced}
use Rattle.checks.proofs.Due.{some_due}
use Rattle.checks.proofs.Passed.{one_passed, one_clearable}

-- its work slice has room to be cleared
pub with_clearable : (s numbers : List Float) (windows : List ℕ) (out work : ℕ) {r : Answer}
    → r ≡ answered_with accepted s numbers windows out (work ∷ []) → cleared_of r (8 * length s) ≤ work
unfolding answered_with
with_clearable s numbers windows out work e = one_clearable s out work _ e

-- where its cells are due, its stages may run, and there are bars
pub with_priced : (s numbers : List Float) (n out : ℕ) {r : Answer} {t : Bool} {work₀ work₁ : List Float}
    → r ≡ answered_with accepted s numbers (n ∷ []) out (length work₀ ∷ []) → CellsDue r (length s) t work₀ work₁
    → t ≡ true → Priced 8 n s out (length work₁) × (0 < length s)
unfolding answered_with
with_priced s numbers n out {work₀ = work₀} e d y =
    let some = some_due (rw y at d) in
    let facts = (one_passed s out (length work₀) _ e some).0 in
    let (windows, bars) = with_windows accepted s numbers (n ∷ []) out (length work₀ ∷ []) e some in (
      record {
        window = windows.0;
        short = facts.short;
        out_long = facts.out_long;
        work_long = rw d.long facts.work_long.0;
        values = facts.values;
      },
      bars,
    )
