-- `write_means_of_ticks` meets its contract: on whole ticks the means by running sums are those summed afresh. Assumes
-- nothing.
use Rattle.cells.proofs.Written.{writing_same}
use Rattle.window_means.proofs.Ticks.{running_mean_lem}
use Rattle.window_means.proofs.write_means_of_ticks.Goals as goal

pub returns : goal.returns
returns c =
    writing_same c.write_running_means.ensures
    (λ i l. running_mean_lem c.args.series.now _ i c.shared_slice_known-1.given c.requires.series_value
    c.requires.window_room.window l)
