-- `write_by_margins` meets its contract: the means of the first bars by running sums, and the positions from there on.
-- Assumes nothing.
use Prim.Native.Nat.{◌+◌, ◌-◌, ◌*◌, ◌≤◌}
use native.Mathlib.Omega.{arith}
use lib.ListN.{length}
use lib.Ieee.{ne, of_bits}
use Rattle.cells.specs.Line.{line}
use Rattle.cells.proofs.Touched.{untouched, touched, touched_more}
use Rattle.rules_ema.proofs.Decides.{distance_decides}
use Rattle.rules_ema.proofs.Head.{early_line}
use Rattle.rules_ema.proofs.FinishedIf.{then_finished_if, finished_if_not}
use Rattle.rules_ema.proofs.by_margins.write_by_margins.Goals as goal

pub write_from_by_margins-requires : goal.write_from_by_margins-requires
write_from_by_margins-requires c =
    let a = c.args in
    let written = c.write_head-seed.ensures in
    let full : a.n ≤ 2 * a.n - 2 + 1 = omega arith in
    record {
      prices = rw written.cells.long c.requires.priced;
      full = full;
      inside = omega arith;
      first = written.first;
      decides = distance_decides a.series.now a.n c.requires.priced c.shared_slice_known-1.given _
          full a.ticks c.requires.ticks_value c.distance-d.ensures;
    }

pub returns-then-out-n : goal.returns-then-out-n
unfolding ne of_bits
returns-then-out-n c =
    let a = c.args in
    let written = c.write_head-seed.ensures in
    let is = early_line (length a.series.now) a.n (line a.series.now) written c.if-out-n.true
    (omega arith) in
    rw is
    (then_finished_if (touched_more (touched written.cells) (omega arith)) c.write_from_by_margins.ensures)

pub returns-else-out-n : goal.returns-else-out-n
returns-else-out-n c =
    let written = c.write_head-seed.ensures in
    finished_if_not _ (touched_more (touched written.cells) (omega arith)) untouched
