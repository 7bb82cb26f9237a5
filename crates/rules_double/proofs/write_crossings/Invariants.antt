-- `write_crossings` meets its contract: each turn writes a cell from the two sums and slides them. Assumes nothing.
use Rattle.cells.specs.Line.{line}
use Rattle.cells.specs.Written.{Writing}
use Rattle.rules_double.specs.Double.{double_line}
use Rattle.windows.specs.Window.{add_then_subtract}
use Rattle.windows.specs.inner.Sums.{Running}
use Rattle.rules_double.proofs.write_crossings.Given as goal

abbrev pub invariant-loop-i : goal.invariant-loop-i
invariant-loop-i l =
    Writing l.i (double_line l.n l.m (line l.series)) l.fn.out l.out
    × Running add_then_subtract l.n (line l.series) l.i l.short
    × Running add_then_subtract l.m (line l.series) l.i l.long
