-- `check_windows` meets its contract: the parameters of a call that has windows alone. Assumes nothing.
use Rattle.calls.specs.Answer.{windowed}
use Rattle.checks.proofs.check_windows.Goals as goal

pub returns : goal.returns
unfolding windowed
returns c = c.check_parameters.ensures
