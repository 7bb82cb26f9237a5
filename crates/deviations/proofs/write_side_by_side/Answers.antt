-- `write_side_by_side` meets its contract: the means and the variances of N bars are stored. Assumes nothing.
use native.Mathlib.Omega.{arith}
use Rattle.cells.proofs.Written.{none_written, ends}
use Rattle.window_means.proofs.Storing.{lanes_stored}
use Rattle.deviations.proofs.Squares.{variances_of_lanes, counted_from}
use Rattle.deviations.proofs.write_side_by_side.Goals as goal

pub returns : goal.returns
returns g c =
    let means = c.means_side_by_side-means.ensures in
    let variances = variances_of_lanes c.args.d _ _ _ means c.squares_side_by_side-squares.ensures
    c.divided.ensures (omega arith) in
    record {
      some = omega arith;
      few = omega arith;
      inside = omega arith;
      middles = ends (lanes_stored 0 none_written (counted_from _ means) c.store.ensures (omega arith)) (omega arith);
      variances =
          ends (lanes_stored 0 none_written (counted_from _ variances) c.store-2.ensures (omega arith)) (omega arith);
    }
