-- `write_price_changes` meets its contract: NaN at bar 0, and then the size of each change. Assumes nothing.
use native.Mathlib.Omega.{arith}
use Rattle.cells.proofs.Written.{one_more}
use Rattle.cells.proofs.Leads.{lead_stands}
use Rattle.jurik.specs.Jurik.{price_change}
use Rattle.jurik.proofs.write_price_changes.Goals as goal

pub loop-i-init : goal.loop-i-init
unfolding price_change
loop-i-init c = lead_stands _ c.fill_nan-first.ensures

pub loop-i-preserved : goal.loop-i-preserved
loop-i-preserved c = one_more c.loop-i.invariant c.price_change_at.ensures (omega arith)
