-- `write_jv` meets its contract: each turn writes a cell over its own value, and keeps that for the next one. Assumes
-- nothing.
use mathlib.Core.Path.{◌≡◌}
use Rattle.cells.specs.Line.{line, plus_zero}
use Rattle.cells.specs.Written.{Writing}
use Rattle.changes.specs.Changes.{earlier}
use Rattle.jurik.specs.Jurik.{jv}
use Rattle.jurik.proofs.write_jv.Given as goal

abbrev pub invariant-loop-i : goal.invariant-loop-i
invariant-loop-i l =
    Writing l.i (jv l.power (line l.initial.cells)) l.initial.cells l.cells
    × (l.last ≡ earlier plus_zero (line l.initial.cells) l.i)
