-- `write_double_of_ticks` meets its contract: the lead, the first position, and those after it. Assumes nothing.
use native.Mathlib.Omega.{arith}
use lib.ListN.{length-set}
use lib.Ieee.{of_bits}
use Rattle.cells.proofs.Leads.{lead_then}
use Rattle.cells.proofs.Written.{stands, then_written}
use Rattle.exact_ticks.proofs.TickMeans.{tick_line}
use Rattle.rules_double.specs.inner.Ticks.{OverTicks}
use Rattle.rules_double.proofs.Spread.{first_position, spread_number}
use Rattle.rules_double.proofs.write_double_of_ticks.Goals as goal
use Rattle.rules_double.proofs.write_double_of_ticks.Goals.{After-shared_slice_known-1}

over : (c : After-shared_slice_known-1) → OverTicks c.args.n c.args.m
    c.args.series.now
over c =
    let p = c.requires in
    record {
      short = p.short;
      long = p.long;
      order = p.order;
      full = p.full;
      ticks = tick_line c.args.series.now (λ i l. c.shared_slice_known-1.given i) p.ticks;
    }

pub first_spread-first-requires : goal.first_spread-first-requires
first_spread-first-requires c = over (goal.at.first_spread-first-requires c).After-shared_slice_known-1

pub sign_of_number-requires : goal.sign_of_number-requires
sign_of_number-requires c =
    let p = c.requires in
    spread_number (over (goal.at.sign_of_number-requires c).After-shared_slice_known-1) c.args.m (omega arith) p.full
    c.first_spread-first.ensures

pub slide_spreads-requires : goal.slide_spreads-requires
unfolding of_bits
slide_spreads-requires c =
    let o = over (goal.at.slide_spreads-requires c).After-shared_slice_known-1 in
    let first = c.first_spread-first.ensures in
    let long = c.fill_lead.ensures.lead.long in (record {
      over_ticks = o;
      spread = record {
        is = first;
        room = simp length-set (omega arith);
        before = stands (first_position o c.fill_lead.ensures (omega arith) first
            c.sign_of_number.ensures);
      };
    })

pub returns : goal.returns
unfolding of_bits
returns c =
    let p = c.requires in
    let long = c.fill_lead.ensures.lead.long in
    let first =
    first_position (over (goal.at.returns c).After-shared_slice_known-1) c.fill_lead.ensures
    (omega (arith, long, p.room))
    c.first_spread-first.ensures
    c.sign_of_number.ensures in
    lead_then c.fill_lead.ensures (then_written first c.slide_spreads.ensures p.full) (omega arith)
