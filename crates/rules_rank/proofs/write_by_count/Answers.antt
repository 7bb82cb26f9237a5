-- `write_by_count` meets its contract: each turn counts the means below and writes the position that the count picks.
-- Assumes nothing.
use native.Mathlib.Omega.{arith}
use borrow.Author.Rules.{rules}
use lib.Ieee.{of_bits}
use Rattle.cells.proofs.Leads.{lead_stands, lead_then}
use Rattle.cells.proofs.Written.{one_more}
use Rattle.rules_rank.specs.Rank.{rank_line}
use Rattle.rules_rank.proofs.Cells.{picked}
use Rattle.rules_rank.proofs.write_by_count.Goals as goal

pub loop-i-init : goal.loop-i-init
loop-i-init c = unfold rank_line of_bits in search (rules, lead_stands)

pub loop-i-preserved : goal.loop-i-preserved
loop-i-preserved c =
    let pre = c.requires in
    let position = picked pre.rank_rows c.loop-i.i c.count_below-below.ensures (omega arith) in
    one_more c.loop-i.invariant position (omega arith)

pub returns : goal.returns
returns c = lead_then c.fill_lead-first.ensures c.loop-i.invariant (omega arith)
