-- `write_mms` meets its contract: the means and their ranges, and the cells over the means. Assumes nothing.
use native.Mathlib.Omega.{arith}
use borrow.Author.Rules.{rules}
use Rattle.cells.proofs.Touched.{touched, touched_more}
use Rattle.cells.proofs.Written.{stands, then_written}
use Rattle.rules_mms.proofs.write_mms.Goals as goal

pub write_scaled-requires : goal.write_scaled-requires
write_scaled-requires c =
    let ranges =
    c.write_mean_ranges.ensures in
    (record {
      averaged = (
        record { window = search rules; room = search rules; means = stands ranges.0 },
        search
            rules,
      );
      series_in_bounds = (search rules, stands ranges.1);
    })

pub returns : goal.returns
returns c =
    let ranges = c.write_mean_ranges.ensures in (
      then_written ranges.0 c.write_scaled.ensures (omega arith),
      touched_more (touched ranges.1)
          (omega arith),
    )
