-- What is left to write gets less. Assumes nothing.
use lib.ListN.{length}
use Rattle.sheet_run.proofs.input.write_all.Given as goal

abbrev pub decreases-loop-rest : goal.decreases-loop-rest
decreases-loop-rest l = length l.rest
