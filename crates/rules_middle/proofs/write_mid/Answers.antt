-- `write_mid` meets its contract: by means where the prices are whole ticks and the window is long, else by running
-- sums where they decide every bar, and else by means. Assumes nothing.
use Rattle.cells.proofs.Touched.{touched_then, written_over_all}
use Rattle.rules_middle.proofs.write_mid.Goals as goal
use Rattle.rules_middle.proofs.write_mid.Goals.{
  then-ticks-via-then-ticks,
  then-ticks-via-else-ticks+then-not-write_mid_by_margins,
}

pub returns-then-ticks : goal.returns-then-ticks
returns-then-ticks c =
    elim c.then-ticks.branch [
      | then-ticks-via-then-ticks w ↦
          rw (w.out-is, w.work-is) at c.write_mid_of_means.ensures
      | then-ticks-via-else-ticks+then-not-write_mid_by_margins w ↦
          let decided = w.write_mid_by_margins.ensures in
          let cells = rw (w.out-is, w.work-is) at c.write_mid_of_means.ensures in
          (written_over_all decided.used cells.0, touched_then decided.work cells.1)
    ]
