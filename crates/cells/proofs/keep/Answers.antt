-- `keep` meets its contract: the bytes are copied over the first ones. Assumes nothing.
use Rattle.cells.proofs.Kept.{copied}
use Rattle.cells.proofs.keep.Goals as goal

pub returns : goal.returns
returns c = rw c.copy_within.ensures.after (copied c.args.from c.args.to c.args.block.now c.requires)
