-- `write_trends` meets its contract: each turn reads a bar's four averages and writes its position. Assumes nothing.
use mathlib.Core.Path.{◌∙◌}
use native.Mathlib.Nat.{zero-add}
use native.Mathlib.Omega.{arith}
use borrow.Author.Rules.{rules, sfits_of}
use mir.Syntax.{w32}
use mir.ValLaws.{to_z-of_z}
use Rattle.cells.proofs.Leads.{lead_stands, lead_then}
use Rattle.cells.proofs.Written.{one_more}
use Rattle.rules_triple.specs.Triple.{triple_line}
use Rattle.rules_triple.proofs.Crossover.{triple_at}
use Rattle.rules_triple.proofs.write_trends.Goals as goal

pub loop-i-init : goal.loop-i-init
loop-i-init c = unfold triple_line in search (rules, lead_stands)

pub loop-i-preserved : goal.loop-i-preserved
loop-i-preserved c =
    let rows = c.requires.averages in
    let i = c.loop-i.i in
    let mean_is = rw zero-add at (rows.means.cell i (omega arith)) in
    let ma1-is = rows.ma1.cell i (omega arith) in
    let ma2-is = rows.ma2.cell i (omega arith) in
    let ma3-is = rows.ma3.cell i (omega arith) in
    let call = c.trend in
    let same = to_z-of_z w32 call.result (sfits_of call.type_inv) in
    let cell = call.ensures ∙ triple_at _ _ _ _ i mean_is ma1-is ma2-is ma3-is (omega arith) in
    one_more c.loop-i.invariant (same ∙ cell) (omega arith)

pub returns : goal.returns
returns c = lead_then c.fill_before_trends-first.ensures c.loop-i.invariant (omega arith)
