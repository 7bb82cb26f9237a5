-- `write_ranges` meets its contract: each turn writes the true range of its bar. Assumes nothing.
use native.Mathlib.Omega.{arith}
use Rattle.cells.proofs.Written.{one_more}
use Rattle.true_range.proofs.TrueRange.{range_at, numbers_at}
use Rattle.true_range.proofs.write_ranges.Goals as goal

pub range_of-requires : goal.range_of-requires
range_of-requires c =
    let pre = c.requires in
    numbers_at _ _ _ _ c.loop-i.i pre.0 pre.1 pre.2 (omega arith) c.close_before.ensures

pub loop-i-preserved : goal.loop-i-preserved
loop-i-preserved c =
    let at = c.loop-i in
    let cell = range_at _ _ _ at.i c.range_of.ensures c.close_before.ensures in
    one_more at.invariant cell (omega arith)
