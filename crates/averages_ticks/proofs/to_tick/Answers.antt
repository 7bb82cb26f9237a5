-- `to_tick` meets its contract: the size is rounded, and the sign put back. Assumes nothing.
use mathlib.Core.Path.{◌≡◌, ap, ◌∙◌}
use Prim.Native.Nat.{ℕ, ◌^◌, ◌≤◌}
use native.Mathlib.Omega.{arith}
use lib.Ieee.Nearest.{closest}
use lib.IntN.{pos, neg_ℤ, nat_abs, +ℤ_idl}
use Rattle.averages_ticks.specs.inner.Share.{Shared}
use Rattle.averages_ticks.proofs.Even.{closest_few}
use Rattle.averages_ticks.proofs.Share.{sum_near}
use Rattle.rounding_laws.proofs.Integers.{abs_neg}
use Rattle.averages_ticks.proofs.Whole.{kept, tick_below, tick_above}
use Rattle.averages_ticks.proofs.to_tick.Goals as goal
use Rattle.averages_ticks.proofs.to_tick.Goals.{After-half_even-size, After-unsigned_abs}

near : {size n share : ℕ} → Shared size n share → size ≤ 2 ^ 40
near h = let l = sum_near h in omega arith

size_is : (c : After-unsigned_abs) → c.unsigned_abs.result ≡ nat_abs c.args.sum
size_is c = c.unsigned_abs.ensures.value ∙ ap nat_abs (kept c.args.sum (near c.requires))

-- the rounded size, and that it is small
rounded : (c : After-half_even-size)
    → let a = c.args in
    c.half_even-size.result ≡ closest (nat_abs a.sum) a.n
rounded c = rw (← size_is c.before) c.half_even-size.ensures

small : (c : After-half_even-size) → c.half_even-size.result ≤ 2 ^ 40
small c =
    let a = c.args in
    let same = rounded c in
    let few = closest_few (nat_abs a.sum) a.n in
    let size = sum_near c.requires in
    omega arith

pub returns-then-sum-lt0 : goal.returns-then-sum-lt0
returns-then-sum-lt0 c =
    let a = c.args in
    let size = c.half_even-size.result in
    let h = small (goal.at.returns-then-sum-lt0 c).After-half_even-size in
    rw (
      kept (pos size) h,
      +ℤ_idl (neg_ℤ (pos size)),
      kept (neg_ℤ (pos size)) (rw (abs_neg (pos size)) h),
      rounded (goal.at.returns-then-sum-lt0 c).After-half_even-size,
      tick_below a.sum a.n (rw (kept a.sum (near c.requires)) at c.if-sum-lt0.true),
    )

pub returns-else-sum-lt0 : goal.returns-else-sum-lt0
returns-else-sum-lt0 c =
    let a = c.args in
    rw (
      kept (pos c.half_even-size.result) (small (goal.at.returns-else-sum-lt0 c).After-half_even-size),
      rounded (goal.at.returns-else-sum-lt0 c).After-half_even-size,
      tick_above a.sum a.n (rw (kept a.sum (near c.requires)) at c.if-sum-lt0.false),
    )
