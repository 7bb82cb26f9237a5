-- `write_smooth` meets its contract: the lead, the seed, and then the blended cells. Assumes nothing.
use native.Mathlib.Omega.{arith}
use lib.ListN.{length-set}
use Rattle.cells.proofs.Written.{stands, then_written}
use Rattle.averages.proofs.Smoothed.{seed_written}
use Rattle.averages.proofs.halves.write_smooth.Goals as goal

pub blend_halves-requires : goal.blend_halves-requires
blend_halves-requires c = (
  record {
    inside = omega arith;
    room = simp length-set (omega arith);
    cells = stands (seed_written c.args.series.now _ _ _ c.fill_nan.ensures (omega arith));
  },
  c.requires.1,
)

pub returns : goal.returns
returns c =
    let a = c.args in
    then_written (seed_written a.series.now a.alpha a.first a.seed c.fill_nan.ensures
    (omega arith)) c.blend_halves.ensures (omega arith)
