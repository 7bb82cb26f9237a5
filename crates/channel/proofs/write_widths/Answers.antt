-- `write_widths` meets its contract: each stage reads the line that the one before it wrote. Assumes nothing.
use mathlib.Core.Path.{sym}
use native.Mathlib.Omega.{arith}
use borrow.Author.Rules.{rules}
use Rattle.cells.proofs.Written.{then_written}
use Rattle.cells.proofs.Parts.{part_long, through}
use Rattle.cells.proofs.Touched.{touched}
use Rattle.smoother_table.specs.Coefficients.{coefficients}
use Rattle.smoother.specs.Smoother.{smooth}
use Rattle.smoother.proofs.Smoother.{causal_smooth}
use Rattle.channel.specs.Channel.{average_range, channel_width}
use Rattle.channel.proofs.Stages.{averaged}
use Rattle.channel.proofs.write_widths.Goals as goal

pub write_ranges-requires : goal.write_ranges-requires
write_ranges-requires c =
    let pre = c.requires in (
      record {
        values = pre.values;
        second = pre.second;
        third = pre.third;
        out_long = search rules;
        work_long = tt;
      },
      omega arith,
      search rules,
    )

pub slice_bounds-write_average-end-2 : goal.slice_bounds-write_average-end-2
slice_bounds-write_average-end-2 c = sym (part_long c.write_ranges.ensures (omega arith))

pub write_average-requires : goal.write_average-requires
write_average-requires c = let row = part_long c.write_ranges.ensures (omega arith) in
    search rules

pub slice_bounds-write_smooth-end-2 : goal.slice_bounds-write_smooth-end-2
slice_bounds-write_smooth-end-2 c =
    let ranges = c.write_ranges.ensures in
    let row = averaged _ ranges (omega arith) c.write_average.ensures in
    sym (part_long row (omega arith))

pub write_smooth-requires : goal.write_smooth-requires
write_smooth-requires c =
    let ranges = c.write_ranges.ensures in
    let row = averaged _ ranges (omega arith) c.write_average.ensures in
    let long = part_long row (omega arith) in
    search rules

pub returns : goal.returns
unfolding channel_width average_range
returns c =
    let pre = c.requires in
    let ranges = c.write_ranges.ensures in
    let row = averaged _ ranges (omega arith) c.write_average.ensures in
    let width = through row (omega arith) (smooth (coefficients _)) (causal_smooth _) c.write_smooth.ensures in
    (then_written ranges width (omega arith), touched row)
