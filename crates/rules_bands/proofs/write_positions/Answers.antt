-- `write_positions` meets its contract: the lead, and a few bars with each turn. Assumes nothing.
use native.Mathlib.Omega.{arith}
use Rattle.cells.proofs.Leads.{lead_then}
use Rattle.cells.proofs.Written.{stands, then_written}
use Rattle.rules_bands.proofs.Stages.{flat_lead}
use Rattle.rules_bands.proofs.write_positions.Goals as goal

pub loop-i-init : goal.loop-i-init
loop-i-init c = (omega arith, omega arith, flat_lead _ _ _ _ c.fill_flat-i.ensures)

pub write_some_positions-i-requires : goal.write_some_positions-i-requires
write_some_positions-i-requires c =
    let pre = c.requires in
    record {
      window = pre.window;
      full = omega arith;
      inside = omega arith;
      room = omega arith;
      cells = stands c.loop-i.invariant.2;
    }

pub loop-i-preserved : goal.loop-i-preserved
loop-i-preserved c =
    let more = c.write_some_positions-i.ensures in
    (omega arith, omega arith, then_written c.loop-i.invariant.2 more.cells (omega arith))

pub returns : goal.returns
returns c = lead_then c.fill_flat-i.ensures c.loop-i.invariant.2 (omega arith)
