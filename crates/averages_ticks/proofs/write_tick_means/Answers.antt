-- `write_tick_means` meets its contract: the lead, and the means after it. Assumes nothing.
use native.Mathlib.Omega.{arith}
use Rattle.cells.proofs.Written.{stands, then_written}
use Rattle.averages_ticks.proofs.Ticks.{hold, lead_cells}
use Rattle.averages_ticks.proofs.write_tick_means.Goals as goal

pub slide_ticks-requires : goal.slide_ticks-requires
slide_ticks-requires c =
    let lead = c.sum_lead-lead.ensures in
    let pre = c.requires in
    record {
      window = pre.window;
      inside = omega arith;
      room = omega arith;
      ticks = pre.ticks;
      sum = (hold pre.ticks lead.sum (omega arith)).sum;
      cells = stands (lead_cells c.args.n lead (omega arith));
    }

pub returns-then-series-n : goal.returns-then-series-n
returns-then-series-n c = lead_cells c.args.n c.sum_lead.ensures (omega arith)

pub returns-else-series-n : goal.returns-else-series-n
returns-else-series-n c = then_written c.sum_lead-lead.ensures.lead c.slide_ticks.ensures (omega arith)
