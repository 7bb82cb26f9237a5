-- `write_means` meets its contract: each call writes on from where the one before it stopped. Assumes nothing.
use native.Mathlib.Omega.{arith}
use borrow.Author.Rules.{rules}
use lib.Ieee.{of_bits}
use Rattle.cells.proofs.Leads.{lead_stands}
use Rattle.cells.proofs.Written.{stands, then_written, ends}
use Rattle.windows.specs.Window.{mean}
use Rattle.window_means.proofs.write_means.Goals as goal

pub write_side_by_side-fewer-requires : goal.write_side_by_side-fewer-requires
unfolding mean of_bits
write_side_by_side-fewer-requires c = search (rules, lead_stands)

pub write_side_by_side-few-requires : goal.write_side_by_side-few-requires
write_side_by_side-few-requires c = search (rules, stands c.write_side_by_side-fewer.ensures.means)

pub write_side_by_side-requires : goal.write_side_by_side-requires
write_side_by_side-requires c = search (rules, stands c.write_side_by_side-few.ensures.means)

pub returns : goal.returns
returns c =
    let so_far = then_written c.fill_lead-first.ensures.lead c.write_side_by_side-fewer.ensures.means
    (omega arith) in
    let further = then_written so_far c.write_side_by_side-few.ensures.means (omega arith) in
    ends (then_written further c.write_side_by_side.ensures.means (omega arith)) (omega arith)
