-- `write_shares` meets its contract: the lead, and then the rest. Assumes nothing.
use native.Mathlib.Omega.{arith}
use borrow.Author.Rules.{rules}
use Rattle.cells.proofs.Leads.{lead_stands, lead_then}
use Rattle.oscillator.specs.Oscillator.{weighed_shares}
use Rattle.oscillator.proofs.write_shares.Goals as goal

pub cells_from-requires : goal.cells_from-requires
unfolding weighed_shares
cells_from-requires c =
    let led = c.fill_nan-first.ensures in
    record {
      windows = c.requires.0;
      past_lead = omega (arith, led.first, c.longest.ensures);
      inside = omega (arith, led.first);
      room = search rules;
      cells = rw (← c.longest.ensures) (lead_stands _ led);
    }

pub returns : goal.returns
returns c = lead_then c.fill_nan-first.ensures c.cells_from.ensures (omega arith)
