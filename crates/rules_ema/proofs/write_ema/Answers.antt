-- `write_ema` meets its contract: each way of writing the positions does, and where the running sums do not decide, the
-- means write over what they wrote. Assumes nothing.
use Rattle.cells.proofs.Finished.{then_finished}
use Rattle.rules_ema.proofs.write_ema.Goals as goal

pub returns-then-not-write_by_margins : goal.returns-then-not-write_by_margins
returns-then-not-write_by_margins c =
    let by-sums = c.write_by_margins.ensures in
    then_finished by-sums.used by-sums.rows c.write_over_means.ensures
