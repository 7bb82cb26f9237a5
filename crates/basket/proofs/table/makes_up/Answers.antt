-- `makes_up` meets its contract: the quotient is the part's length, and nothing is left. Assumes nothing.
use borrow.Author.Rules.{rules}
use Rattle.basket.proofs.Checks.{parts_whole}
use Rattle.basket.proofs.table.makes_up.Goals as goal

pub returns : goal.returns
returns c = parts_whole c.args.count c.args.bars c.args.len (search rules)
