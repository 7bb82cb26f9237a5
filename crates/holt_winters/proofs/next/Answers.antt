-- `next` meets its contract: three blends, in the order of `next_fit`. Assumes nothing.
use Rattle.holt_winters.specs.HoltWinters.{next_fit}
use Rattle.holt_winters.proofs.next.Goals as goal

pub returns : goal.returns
unfolding next_fit
returns c = rw (c.blended-season.ensures, c.blended-trend.ensures, c.blended-level.ensures)
