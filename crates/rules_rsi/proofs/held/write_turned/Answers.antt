-- `write_turned` meets its contract: each turn reads a bar's index, moves the position, and writes it. Assumes nothing.
use mathlib.Core.Path.{refl, ◌∙◌}
use native.Mathlib.Omega.{arith}
use borrow.Author.Rules.{sfits_of}
use mir.Syntax.{w32}
use mir.ValLaws.{to_z-of_z}
use Rattle.cells.proofs.Recur.{no_step, one_step}
use Rattle.cells.proofs.Written.{none_written, one_more}
use Rattle.rules_held.proofs.Holding.{held_at}
use Rattle.rules_rsi.specs.RsiReverse.{turned}
use Rattle.rules_rsi.proofs.held.write_turned.Goals as goal

pub loop-i-init : goal.loop-i-init
loop-i-init c = (none_written, no_step refl)

pub loop-i-preserved : goal.loop-i-preserved
unfolding turned
loop-i-preserved c =
    let call = c.turned_by-position in
    let is = to_z-of_z w32 call.result (sfits_of call.type_inv) ∙ call.ensures in
    let next = one_step c.loop-i.invariant.1 is in
    (one_more c.loop-i.invariant.0 (held_at _ _ next) (omega arith), next)
