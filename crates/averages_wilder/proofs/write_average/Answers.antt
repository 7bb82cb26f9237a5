-- `write_average` meets its contract: the lead, and then the averages from the mean on. Assumes nothing.
use borrow.Author.Rules.{rules}
use Rattle.cells.proofs.Leads.{up_to_bar, lead_then, lead_only}
use Rattle.cells.specs.Recur.{carried}
use Rattle.averages_wilder.specs.Wilder.{wilder}
use Rattle.averages_wilder.proofs.write_average.Goals as goal

pub write_from_mean-requires : goal.write_from_mean-requires
write_from_mean-requires c =
    unfold wilder carried in (record { window = search rules; writing = search (rules, up_to_bar) })

pub returns-then-first-series : goal.returns-then-first-series
returns-then-first-series c = search (rules, lead_then)

pub returns-else-first-series : goal.returns-else-first-series
returns-else-first-series c = unfold wilder carried in search (rules, lead_only)
