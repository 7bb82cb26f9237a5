-- `average_from` meets its contract: the first value stands, and each turn blends the next value, which still stands,
-- into the average and writes it. Assumes nothing.
use mathlib.Core.Path.{◌≡◌, sym}
use Prim.Native.Nat.{◌+◌, ◌-◌}
use native.Mathlib.Omega.{arith}
use Rattle.cells.proofs.Written.{one_more, ends, writing_same, then_written}
use Rattle.cells.proofs.Leads.{not_yet}
use Rattle.cells.proofs.Carried.{carried_seed}
use Rattle.jurik.proofs.TwoPasses.{carried_from, seed_carried, next_carried}
use Rattle.jurik.proofs.passes.average_from.Goals as goal

pub loop-i-init : goal.loop-i-init
loop-i-init c =
    let now : c.args.first + 1 - 1 ≡ c.args.first = omega arith in
    rw now (seed_carried _ _ _ c.fill.ensures (omega arith), sym (carried_seed _ _ _ _ _))

pub loop-i-preserved : goal.loop-i-preserved
loop-i-preserved c =
    let i = c.loop-i.i in
    let inv = c.loop-i.invariant in
    let now : i + 1 - 1 ≡ i = omega arith in
    let stood = not_yet i inv.0 (omega arith) in
    let last = next_carried _ _ _ _ _ i inv.1 stood c.blended-last.ensures (omega arith) in
    (one_more inv.0 last (omega arith), rw now last)

pub returns : goal.returns
returns c =
    let lead = c.fill.ensures in
    let all = then_written lead c.loop-i.invariant.0 (omega arith) in
    writing_same (ends all (omega arith)) (λ j l. carried_from _ _ _ _ _ j (λ k p q. not_yet k lead p))
