-- `write_mid_of_means` meets its contract: the means and their ranges, and the positions over the means. Assumes
-- nothing.
use native.Mathlib.Omega.{arith}
use Rattle.cells.proofs.Touched.{touched, touched_more}
use Rattle.cells.proofs.Written.{then_written, writing_same}
use Rattle.rules_middle.specs.Middle.{mid_line}
use Rattle.rules_middle.proofs.Middle.{standing, positions_are}
use Rattle.rules_middle.proofs.write_mid_of_means.Goals as goal

pub returns : goal.returns
unfolding mid_line
returns c =
    let ranges = c.write_mean_ranges_by.ensures in
    let stood = standing _ ranges.0 ranges.1 (omega arith) (omega arith) in (
      writing_same (then_written ranges.0 c.write_against_middles.ensures (omega arith))
          (λ i l. positions_are stood i l),
      touched_more (touched ranges.1) (omega arith),
    )
