-- `begin` meets its contract: no request is refused yet. Assumes nothing.
use Rattle.sheet_requests.proofs.blocks.begin.Goals as goal

pub returns : goal.returns
returns c = rw c.none.ensures
