-- `check_channel` meets its contract: the shortest output is tested for all three. Assumes nothing.
use Rattle.checks.proofs.Three.{three_outputs}
use Rattle.checks.proofs.check_channel.Goals as goal

pub returns : goal.returns
returns c = rw (c.check_three_with_work.ensures, c.shortest.ensures, three_outputs)
