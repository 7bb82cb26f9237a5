-- `write_first_widths` meets its contract: the width is NaN after the first four bars. Assumes nothing.
use Prim.Native.Nat.{◌≤◌}
use native.Mathlib.Omega.{arith}
use lib.ListN.{length}
use lib.Ieee.{div, of_bits}
use Rattle.cells.specs.Line.{line}
use Rattle.cells.proofs.Touched.{touched_more}
use Rattle.bands.specs.Bands.{bands_width}
use Rattle.bands.proofs.Lines.{causal_bands_width, nan_from_bar_4}
use Rattle.bands.proofs.First.{first_long, of_first, nan_then}
use Rattle.bands.proofs.write_first_widths.Goals as goal
use Rattle.bands.proofs.write_first_widths.Goals.{After-min-some}

-- the first bars are no more than there are
few : (c : After-min-some) → c.min-some.result ≤ length c.args.close.now
few c = omega (arith, c.min-some.ensures)

pub returns : goal.returns
unfolding div of_bits
returns c =
    let a = c.args in
    let s = a.close.now in
    let some = c.min-some.result in
    let inside = few (goal.at.returns c).After-min-some in
    let row = first_long some s inside in
    let cells = of_first some s inside (bands_width a.n a.m) (causal_bands_width a.n a.m)
    c.write_each_width.ensures.0 in
    let late = nan_from_bar_4 a.n a.m (line s) c.requires.le_n in (
      nan_then cells c.fill.ensures
          (λ i p q. late i (omega (arith, p, q, c.min-some.ensures)))
          (inside, omega (arith, cells.long, c.requires.m_le_longest_period.1)),
      touched_more c.write_each_width.ensures.1 (omega (arith, row, inside)),
    )
