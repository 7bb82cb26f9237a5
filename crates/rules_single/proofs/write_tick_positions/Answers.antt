-- `write_tick_positions` meets its contract: each turn writes the bar's cell. Assumes nothing.
use native.Mathlib.Omega.{arith}
use borrow.Author.Rules.{rules}
use lib.Ieee.{of_bits}
use Rattle.cells.proofs.Leads.{lead_stands, lead_then}
use Rattle.cells.proofs.Written.{one_more}
use Rattle.rules_single.specs.Single.{single_line}
use Rattle.rules_single.proofs.write_tick_positions.Goals as goal

pub loop-i-init : goal.loop-i-init
loop-i-init c = unfold single_line of_bits in search (rules, lead_stands)

pub loop-i-preserved : goal.loop-i-preserved
loop-i-preserved c = one_more c.loop-i.invariant c.tick_position.ensures (omega arith)

pub returns : goal.returns
returns c = lead_then c.fill_lead-first.ensures c.loop-i.invariant (omega arith)
