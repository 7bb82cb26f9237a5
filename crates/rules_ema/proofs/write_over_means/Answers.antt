-- `write_over_means` meets its contract: the means, the search among them, and the positions from the start that was
-- found. Assumes nothing.
use native.Mathlib.Omega.{arith}
use borrow.Author.Rules.{rules}
use Rattle.cells.specs.Line.{line}
use Rattle.cells.proofs.Written.{stands}
use Rattle.windows.specs.Window.{mean}
use Rattle.rules_ema.proofs.SingleEma.{seed_of, found_finished, lead_finished}
use Rattle.rules_ema.proofs.write_over_means.Goals as goal

pub write_from-requires : goal.write_from-requires
write_from-requires c =
    let a = c.args in
    let stood = c.write_means_by.ensures in
    record {
      means = record { window = c.requires.priced.window; room = search rules; means = stands stood };
      inside = omega arith;
      first = seed_of a.n (mean a.n (line a.series.now)) stood (omega arith) _ c.mean_at-seed.ensures
          (omega arith);
      rows = c.requires.priced.work_long;
    }

pub returns-then-start-bars : goal.returns-then-start-bars
returns-then-start-bars c =
    let a = c.args in
    let stood = c.write_means_by.ensures in
    found_finished a.n (line a.series.now) stood (omega arith) c.first_bar-start.ensures
    c.write_from.ensures

pub returns-else-start-bars : goal.returns-else-start-bars
returns-else-start-bars c =
    let a = c.args in
    let f = line a.series.now in
    found_finished a.n f c.write_means_by.ensures (omega arith) c.first_bar-start.ensures
    (lead_finished _ a.n f c.clear_lead.ensures (omega arith))
