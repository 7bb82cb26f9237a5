-- `change_at` meets its contract: three products, and their sum, of whole numbers. Assumes nothing.
use Rattle.rules_double.proofs.Spread.{change_exact}
use Rattle.rules_double.proofs.change_at.Goals as goal

pub returns : goal.returns
returns c = change_exact c.requires.0 c.args.i c.requires.1 c.requires.2
