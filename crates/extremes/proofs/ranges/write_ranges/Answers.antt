-- `write_ranges` meets its contract: the lead, and either way the windows after it. Assumes nothing.
use native.Mathlib.Omega.{arith}
use Rattle.extremes.proofs.Part.{replaced_again, rows_written}
use Rattle.extremes.proofs.ranges.write_ranges.Goals as goal

pub returns-then-n-gt2 : goal.returns-then-n-gt2
returns-then-n-gt2 c =
    rows_written (replaced_again c.write_lead.ensures c.write_blocks.ensures (omega arith))
    c.requires.room

pub returns-else-n-gt2 : goal.returns-else-n-gt2
returns-else-n-gt2 c =
    rows_written (replaced_again c.write_lead.ensures c.write_pairs.ensures (omega arith))
    c.requires.room
