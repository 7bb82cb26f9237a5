-- `write_outer_lines` meets its contract: each turn reads a width before it writes over it. Assumes nothing.
use Rattle.cells.specs.Line.{line}
use Rattle.cells.specs.Written.{Writing}
use Rattle.outer_lines.specs.OuterLines.{upper_line, lower_line}
use Rattle.outer_lines.proofs.write_outer_lines.Given as goal

abbrev pub invariant-loop-i : goal.invariant-loop-i
invariant-loop-i l =
    Writing l.i (upper_line l.k (line l.middle) (line l.initial.upper)) l.initial.upper l.upper
    × Writing l.i (lower_line l.k (line l.middle) (line l.initial.upper)) l.initial.lower l.lower
