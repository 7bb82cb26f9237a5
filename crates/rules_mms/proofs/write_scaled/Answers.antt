-- `write_scaled` meets its contract: each turn reads a mean that still stands and its range, and writes the bar's cell.
-- Assumes nothing.
use mathlib.Core.Path.{◌∙◌}
use native.Mathlib.Omega.{arith}
use borrow.Author.Rules.{rules}
use lib.Ieee.{nan, of_bits}
use Rattle.cells.proofs.Leads.{lead_stands, lead_then, still}
use Rattle.cells.proofs.RowWrites.{beside_first, beside_second}
use Rattle.cells.proofs.Written.{one_more, read_back}
use Rattle.rules_mms.specs.Mms.{mms_line}
use Rattle.rules_mms.proofs.Scaled.{mms_at}
use Rattle.rules_mms.proofs.write_scaled.Goals as goal

pub loop-i-init : goal.loop-i-init
loop-i-init c = unfold mms_line of_bits in search (rules, lead_stands)

pub loop-i-preserved : goal.loop-i-preserved
loop-i-preserved c =
    let pre = c.requires in
    let i = c.loop-i.i in
    let mean_is = still i pre.averaged.0.means c.fill_lead-first.ensures.lead c.loop-i.invariant (omega arith) in
    let high_is = read_back i nan pre.series_in_bounds.1 (omega arith) ∙ beside_first _ _ _ i (omega arith) in
    let low_is = read_back _ nan pre.series_in_bounds.1 (omega arith) ∙ beside_second _ _ _ i in
    let cell = c.scaled_between.ensures ∙ mms_at _ _ _ _ mean_is high_is low_is (omega arith) in
    one_more c.loop-i.invariant cell (omega arith)

pub returns : goal.returns
returns c = lead_then c.fill_lead-first.ensures c.loop-i.invariant (omega arith)
