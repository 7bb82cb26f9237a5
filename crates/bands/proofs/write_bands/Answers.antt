-- `write_bands` meets its contract: the outer lines are made of the middle and the widths, or are NaN. Assumes nothing.
use native.Mathlib.Omega.{arith}
use Rattle.cells.specs.Line.{line}
use Rattle.cells.proofs.Touched.{written_over_all}
use Rattle.outer_lines.proofs.Lines.{upper_of, lower_of, filled_upper, filled_lower}
use Rattle.bands.specs.Bands.{bands_middle, bands_upper, bands_lower}
use Rattle.bands.proofs.Lines.{nan_width}
use Rattle.bands.proofs.write_bands.Goals as goal

pub returns-then-n-lt5 : goal.returns-then-n-lt5
unfolding bands_middle bands_upper bands_lower
returns-then-n-lt5 c =
    let pre = c.requires in
    let middle = c.write_smooth.ensures in
    let wide = c.write_widths.ensures in
    let made = c.write_outer_lines.ensures in
    record {
      middle = middle;
      upper = upper_of _ middle wide.0 (omega arith) made.0;
      lower = written_over_all wide.1 (lower_of _ middle wide.0 (omega arith) made.1);
    }

pub returns-else-n-lt5 : goal.returns-else-n-lt5
unfolding bands_middle bands_upper bands_lower
returns-else-n-lt5 c =
    let a = c.args in
    let late = nan_width a.n a.m (line a.close.now) (omega arith) in
    let made = c.fill_outer_lines.ensures in
    record {
      middle = c.write_smooth.ensures;
      upper = filled_upper a.k _ _ late made.0;
      lower = filled_lower a.k _ _ late made.1;
    }
