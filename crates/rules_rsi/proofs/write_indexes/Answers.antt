-- `write_indexes` meets its contract: a few bars with each turn. Assumes nothing.
use native.Mathlib.Omega.{arith}
use Rattle.cells.proofs.Written.{stands, then_written}
use Rattle.rules_rsi.proofs.Rows.{still_changed}
use Rattle.rules_rsi.proofs.write_indexes.Goals as goal

pub write_some-i-requires : goal.write_some-i-requires
write_some-i-requires c =
    let pre = c.requires in
    let w = c.loop-i.invariant.1 in
    record {
      window = pre.0;
      inside = omega arith;
      changes = still_changed pre.1 w (omega arith);
      indexes = stands w;
    }

pub loop-i-preserved : goal.loop-i-preserved
loop-i-preserved c =
    let more = c.write_some-i.ensures in
    (omega arith, then_written c.loop-i.invariant.1 more.cells (omega arith))
