-- `write_running_means` meets its contract: the lead, the first mean, and the running means after it. Assumes nothing.
use native.Mathlib.Omega.{arith}
use lib.Ieee.{of_bits}
use Rattle.cells.proofs.Leads.{lead_only}
use Rattle.windows.proofs.Means.{led_means, running_means_lem}
use Rattle.windows.proofs.sliding.write_running_means.Goals as goal

pub returns-then-lead-series : goal.returns-then-lead-series
unfolding of_bits
returns-then-lead-series c =
    running_means_lem _ c.requires.window
    (led_means _ c.fill_lead-lead.ensures c.requires.window c.sum_at-first.ensures
    c.slide_means.ensures (omega arith))

pub returns-else-lead-series : goal.returns-else-lead-series
unfolding of_bits
returns-else-lead-series c = running_means_lem _ c.requires.window (lead_only c.fill_lead-lead.ensures _ (omega arith))
