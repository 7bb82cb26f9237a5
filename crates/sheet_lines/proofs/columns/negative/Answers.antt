-- `negative` meets its contract: 0 is +0.0, and the float of any other number is negated. Assumes nothing.
use lib.Ieee.{of_bits, of_int}
use Rattle.sheet_lines.proofs.Signs.{neg_whole}
use Rattle.sheet_lines.proofs.columns.negative.Goals as goal

pub returns-then-ticks-eq0 : goal.returns-then-ticks-eq0
returns-then-ticks-eq0 c = unfold of_bits of_int in rw c.if-ticks-eq0.true

pub returns-else-ticks-eq0 : goal.returns-else-ticks-eq0
returns-else-ticks-eq0 c = neg_whole _ c.if-ticks-eq0.false
