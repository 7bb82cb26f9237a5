-- `write_sums` meets its contract: the lead, and the sums where there are bars after it. Assumes nothing.
use borrow.Author.Rules.{rules}
use lib.Ieee.{of_bits}
use Rattle.cells.proofs.Leads.{up_to_bar, lead_then, lead_only}
use Rattle.windows.specs.inner.RunningSums.{running_sums}
use Rattle.windows.proofs.write_sums.Goals as goal

pub slide_sums-requires : goal.slide_sums-requires
slide_sums-requires c = unfold running_sums of_bits in search (rules, up_to_bar)

pub returns-then-first-series : goal.returns-then-first-series
returns-then-first-series c = search (rules, lead_then)

pub returns-else-first-series : goal.returns-else-first-series
returns-else-first-series c = unfold running_sums of_bits in search (rules, lead_only)
