-- `first_taken` meets its contract: each turn passes a bar that is not looked for. Assumes nothing.
use lib.ListN.{length}
use mathlib.Core.Path.{sym, ◌∙◌}
use native.Mathlib.Omega.{arith}
use Rattle.cells.proofs.Search.{first_bar_found, first_bar_none}
use Rattle.jurik.proofs.bar.first_taken.Goals as goal

pub returns-then-takes : goal.returns-then-takes
returns-then-takes c =
    let here = sym c.takes.ensures ∙ c.if-takes.true in
    (omega arith, sym (first_bar_found _ _ _ c.loop-i.invariant here (omega arith)))

pub returns : goal.returns
returns c = first_bar_none _ (length c.args.cells.now) (λ j l. c.loop-i.invariant j (omega arith))
