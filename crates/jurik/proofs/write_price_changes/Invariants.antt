-- `write_price_changes` meets its contract: NaN at bar 0, and then the size of each change. Assumes nothing.
use Rattle.cells.specs.Line.{line}
use Rattle.cells.specs.Written.{Writing}
use Rattle.jurik.specs.Jurik.{price_change}
use Rattle.jurik.proofs.write_price_changes.Given as goal

abbrev pub invariant-loop-i : goal.invariant-loop-i
invariant-loop-i l =
    Writing l.i (price_change (line l.close)) l.initial.out l.out
