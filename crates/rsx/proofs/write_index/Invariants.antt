-- `write_index` meets its contract: NaN at bar 0, and then a step of both averages and their index. Assumes nothing.
use Prim.Native.Nat.{◌-◌}
use Rattle.rounding.specs.Leaves.{plus_one}
use Rattle.cells.specs.Line.{line}
use Rattle.cells.specs.Written.{Writing}
use Rattle.windows.specs.Window.{over}
use Rattle.rsx.specs.Rsx.{rsx_unsmoothed}
use Rattle.rsx.specs.inner.Averaged.{Averaged}
use Rattle.rsx.proofs.write_index.Given as goal

abbrev pub invariant-loop-i : goal.invariant-loop-i
invariant-loop-i l =
    Averaged (over l.n plus_one) (line l.close) (l.i - 1) l.averages
    × Writing l.i (rsx_unsmoothed l.n (line l.close)) l.fn.index l.index
