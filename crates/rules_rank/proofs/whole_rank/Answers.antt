-- `whole_rank` meets its contract. Assumes nothing.
use native.Mathlib.Omega.{arith}
use lib.Ieee.{of_bits}
use Rattle.windows.proofs.Window.{count_is_float}
use Rattle.rules_rank.specs.Rank.{whole_rank}
use Rattle.rules_rank.proofs.whole_rank.Goals as goal

pub int_to_float-share : goal.int_to_float-share
int_to_float-share c = count_is_float _ (omega arith)

pub int_to_float-share-2 : goal.int_to_float-share-2
int_to_float-share-2 c = count_is_float _ (omega arith)

pub returns : goal.returns
returns c = unfold whole_rank of_bits in c.round_to_whole.ensures
