-- `write_single` meets its contract: by exact sums where the prices are whole ticks and the window is long, else by
-- running sums where they decide every bar, and else by means. Assumes nothing.
use Rattle.cells.proofs.Touched.{touched_then, written_over_all}
use Rattle.rules_single.proofs.write_single.Goals as goal

pub returns-then-not-write_single_by_margins : goal.returns-then-not-write_single_by_margins
returns-then-not-write_single_by_margins c =
    let decided = c.write_single_by_margins.ensures in
    let cells = c.write_single_of_means.ensures in
    (written_over_all decided.used cells.0, touched_then decided.work cells.1)
