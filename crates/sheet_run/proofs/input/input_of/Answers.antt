-- `input_of` meets its contract: its tests are those of `input_of`. Assumes nothing.
use Rattle.std.proofs.Common.{rules}
use Rattle.sheet_run.specs.Run.{input_of}
use Rattle.sheet_run.proofs.input.input_of.Goals as goal

pub returns-in_default : goal.returns-in_default
unfolding input_of
returns-in_default c = search rules

pub returns-in-0 : goal.returns-in-0
unfolding input_of
returns-in-0 c = search rules

pub returns-in_default-min : goal.returns-in_default-min
unfolding input_of
returns-in_default-min c = search rules
