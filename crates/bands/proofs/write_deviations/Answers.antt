-- `write_deviations` meets its contract: the lead, and a few bars with each turn. Assumes nothing.
use native.Mathlib.Omega.{arith}
use borrow.Author.Rules.{rules}
use Rattle.cells.proofs.Leads.{lead_stands, lead_then}
use Rattle.cells.proofs.Written.{stands, then_written}
use Rattle.deviations.specs.Deviation.{deviation}
use Rattle.bands.proofs.write_deviations.Goals as goal

pub loop-i-init : goal.loop-i-init
loop-i-init c = unfold deviation in search (rules, lead_stands)

pub write_some_deviations-i-requires : goal.write_some_deviations-i-requires
write_some_deviations-i-requires c =
    let pre = c.requires.1 in
    record {
      asked = record { period = pre.period; values = pre.values; room = omega arith };
      some = omega arith;
      full = omega arith;
      inside = omega arith;
      cells = stands c.loop-i.invariant.2;
    }

pub loop-i-preserved : goal.loop-i-preserved
loop-i-preserved c =
    let more = c.write_some_deviations-i.ensures in
    (omega arith, omega arith, then_written c.loop-i.invariant.2 more.cells (omega arith))

pub returns : goal.returns
returns c = lead_then c.fill_nan-i.ensures c.loop-i.invariant.2 (omega arith)
