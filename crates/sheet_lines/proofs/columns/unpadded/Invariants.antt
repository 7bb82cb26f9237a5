-- `unpadded` meets its contract: the loop passes blanks only. Assumes nothing.
use Rattle.std.proofs.Common.{◌≡◌, length}
use Rattle.sheet_lines.specs.Read.{unpadded}
use Rattle.sheet_lines.proofs.columns.unpadded.Given as goal

abbrev pub invariant-loop-rest : goal.invariant-loop-rest
invariant-loop-rest l = unpadded l.rest ≡ unpadded l.columns

abbrev pub decreases-loop-rest : goal.decreases-loop-rest
decreases-loop-rest l = length l.rest
