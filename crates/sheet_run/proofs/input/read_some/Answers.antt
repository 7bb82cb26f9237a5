-- `read_some` meets its contract: a read gives no more bytes than there is room for. Assumes nothing.
use Rattle.std.proofs.Common.{◌≤◌, ℕ, zero, suc, arith}
use Rattle.std.specs.Prelude.{Option, Some, None, min}
use Rattle.sheet_run.specs.Run.{input_from, input_of, bytes_read}
use Rattle.sheet_run.proofs.input.read_some.Goals as goal

from-few : (n : ℕ) → bytes_read (input_from n) ≤ n
from-few zero = omega arith
from-few (suc n) = omega arith

of-few : (got : Option ℕ) (room : ℕ) → bytes_read (input_of got room) ≤ room
unfolding input_of
of-few (Some k) room = let few = from-few (min k room) in omega arith
of-few None room = omega arith

pub returns : goal.returns
returns c = rw (c.input_of.ensures, ← c.read.auto.buf) (of-few _ _)
