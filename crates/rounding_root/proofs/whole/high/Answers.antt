-- `high` meets its contract: the halves make the square, and no number on the way has more than 64 bits. Assumes
-- nothing.
use Rattle.rounding_root.proofs.Halves.{by_halves}
use Rattle.rounding_root.proofs.whole.high.Goals as goal
use Rattle.rounding_root.proofs.whole.high.Goals.{Start}

pub returns : goal.returns
returns c = by_halves c.args.h c.args.e
