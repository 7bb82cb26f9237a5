-- `write_channel` meets its contract: to period 4 the outer lines are made of the widths, and from period 5 on they
-- are NaN. Assumes nothing.
use native.Mathlib.Omega.{arith}
use lib.ListN.{length}
use Rattle.cells.proofs.Touched.{written_over_all}
use Rattle.cells.proofs.Written.{ends}
use Rattle.outer_lines.proofs.Lines.{upper_of, lower_of, filled_upper, filled_lower}
use Rattle.channel.proofs.Stages.{no_width}
use Rattle.channel.proofs.write_channel.Goals as goal

pub returns-then-n-lt5 : goal.returns-then-n-lt5
returns-then-n-lt5 c =
    let pre = c.requires in
    let m = ends {n = length c.args.high.now} c.write_smooth.ensures (omega arith) in
    let w = c.write_widths.ensures in
    record {
      middle = m;
      upper = upper_of _ m w.0 (omega arith) c.write_outer_lines.ensures.0;
      lower = written_over_all w.1 (lower_of _ m w.0 (omega arith) c.write_outer_lines.ensures.1);
    }

pub returns-else-n-lt5 : goal.returns-else-n-lt5
returns-else-n-lt5 c =
    record {
      middle = ends c.write_smooth.ensures (omega arith);
      upper = filled_upper _ _ _ (no_width _ _ _ _ _ c.if-n-lt5.false) c.fill_outer_lines.ensures.0;
      lower = filled_lower _ _ _ (no_width _ _ _ _ _ c.if-n-lt5.false) c.fill_outer_lines.ensures.1;
    }
