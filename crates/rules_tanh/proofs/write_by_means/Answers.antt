-- `write_by_means` meets its contract: the lead, and a few bars with each turn. Assumes nothing.
use mathlib.Core.Path.{refl}
use native.Mathlib.Omega.{arith}
use lib.Ieee.{of_bits}
use Rattle.cells.proofs.Leads.{lead_stands, lead_then}
use Rattle.cells.proofs.Written.{stands, then_written}
use Rattle.rules_tanh.specs.Recorded.{threshold_bits}
use Rattle.rules_tanh.specs.Tanh.{thresholds, tanh_of_means}
use Rattle.rules_tanh.proofs.write_by_means.Goals as goal

pub loop-i-init : goal.loop-i-init
unfolding tanh_of_means of_bits
loop-i-init c = (omega arith, omega arith, lead_stands _ c.fill_lead-i.ensures)

pub write_some-i-requires : goal.write_some-i-requires
unfolding thresholds threshold_bits
write_some-i-requires c =
    let pre = c.requires in
    record {
      window = pre.window;
      recorded = refl;
      full = omega arith;
      inside = omega arith;
      room = omega arith;
      cells = stands c.loop-i.invariant.2;
    }

pub loop-i-preserved : goal.loop-i-preserved
loop-i-preserved c =
    let more = c.write_some-i.ensures in
    (omega arith, omega arith, then_written c.loop-i.invariant.2 more.cells (omega arith))

pub returns : goal.returns
returns c = lead_then c.fill_lead-i.ensures c.loop-i.invariant.2 (omega arith)
