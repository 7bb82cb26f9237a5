-- `boll_reverse_positions` meets its contract: it is `band_positions`. Assumes nothing.
use Rattle.rules.proofs.boll_reverse_positions.Goals as goal

pub returns : goal.returns
returns c = c.band_positions.ensures
