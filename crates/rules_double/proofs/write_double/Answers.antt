-- `write_double` meets its contract: the lead, and the crossings where there are bars after it. Assumes nothing.
use borrow.Author.Rules.{rules}
use lib.Ieee.{of_bits}
use Rattle.cells.proofs.Leads.{up_to_bar, lead_then, lead_only}
use Rattle.rules_double.specs.Double.{double_line}
use Rattle.rules_double.proofs.write_double.Goals as goal

pub write_crossings-requires : goal.write_crossings-requires
write_crossings-requires c = unfold double_line of_bits in search (rules, up_to_bar)

pub returns-then-first-series : goal.returns-then-first-series
returns-then-first-series c = search (rules, lead_then)

pub returns-else-first-series : goal.returns-else-first-series
returns-else-first-series c = unfold double_line of_bits in search (rules, lead_only)
