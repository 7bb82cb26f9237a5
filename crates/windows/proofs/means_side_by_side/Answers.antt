-- `means_side_by_side` meets its contract: the sums, each divided by n. Assumes nothing.
use mathlib.Core.Path.{refl}
use native.Mathlib.Omega.{arith}
use Rattle.windows.specs.Window.{over}
use Rattle.windows.proofs.Window.{mean_of}
use Rattle.windows.proofs.Lanes.{each_lane}
use Rattle.windows.proofs.means_side_by_side.Goals as goal

pub returns : goal.returns
returns g c =
    rw c.divided.ensures
    (each_lane (over c.args.n) c.sums_side_by_side.ensures (λ k m. mean_of _ _ _ refl (omega arith)))
