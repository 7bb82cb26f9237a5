-- `print` meets its contract: each turn prints the line of one desk more. Assumes nothing.
use mathlib.Core.Path.{◌≡◌}
use Prim.Native.Nat.{◌+◌, ◌-◌}
use native.Mathlib.Omega.{arith}
use Rattle.sheet_requests.specs.Counts.{desks}
use Rattle.sheet_requests.proofs.Desks.{none_printed, one_printed}
use Rattle.sheet_requests.proofs.Counts.print.Goals as goal

pub loop-i-init : goal.loop-i-init
loop-i-init c = none_printed

pub loop-i-preserved : goal.loop-i-preserved
loop-i-preserved c =
    let next : c.loop-i.i + 1 - 1 ≡ c.loop-i.i = omega arith in
    one_printed c.loop-i.invariant (rw next) c.print_count.ensures

pub returns : goal.returns
returns c = let all : c.loop-i.i ≡ desks = omega arith in
    rw all at c.loop-i.invariant.text
