-- `write_single_of_ticks` meets its contract: the window sums in `out`, the means and the sums of those sums in two
-- rows, and the positions. Assumes nothing.
use native.Mathlib.Omega.{arith}
use Rattle.cells.proofs.RowWrites.{lent_on}
use Rattle.cells.proofs.Touched.{touched, touched_more}
use Rattle.cells.proofs.Written.{stands, then_written}
use Rattle.cells.proofs.Parts.{through}
use Rattle.windows.specs.inner.RunningSums.{running_sums}
use Rattle.windows.proofs.RunningSums.{causal_running_sums}
use Rattle.rules_single.proofs.write_single_of_ticks.Goals as goal

pub write_tick_positions-requires : goal.write_tick_positions-requires
write_tick_positions-requires c =
    let pre = c.requires in
    let second = through c.write_sums.ensures (omega arith) (running_sums _)
    (causal_running_sums _ pre.priced.window.some)
    c.write_sums-2.ensures in
    let rows = lent_on c.write_means_of_ticks.ensures second (omega arith) in (record {
      tick_rows = record {
        window = pre.priced.window;
        ticks = pre.series_value;
        room = omega (arith, rows.long);
        rows = stands rows;
      };
      series_in_bounds = omega arith;
    })

pub returns : goal.returns
returns c =
    let pre = c.requires in
    let second = through c.write_sums.ensures (omega arith) (running_sums _)
    (causal_running_sums _ pre.priced.window.some)
    c.write_sums-2.ensures in
    let rows = lent_on c.write_means_of_ticks.ensures second (omega arith) in (
      then_written c.write_sums.ensures c.write_tick_positions.ensures (omega arith),
      touched_more
          (touched rows) (omega arith),
    )
