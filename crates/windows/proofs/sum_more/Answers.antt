-- `sum_more` meets its contract: each turn adds one price. Assumes nothing.
use Rattle.std.proofs.Common.{◌+◌, ◌-◌, ◌<◌}
use native.Mathlib.Omega.{arith}
use borrow.Author.Rules.{rules}
use Rattle.std.proofs.lemmas.List.{get_or-take, get_or-drop}
use Rattle.windows.proofs.Window.{none_summed, one_added}
use Rattle.windows.proofs.sum_more.Goals as goal

pub loop-x-init : goal.loop-x-init
loop-x-init c = search (rules, none_summed)

pub loop-x-preserved : goal.loop-x-preserved
loop-x-preserved c =
    let inside : c.loop-x.x-index < c.args.at + c.args.count - c.args.at = omega arith in
    rw (get_or-take, get_or-drop) (one_added c.loop-x.invariant)
