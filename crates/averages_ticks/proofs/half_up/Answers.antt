-- `half_up` meets its contract: the product is the whole share, or one too many. Assumes nothing.
use native.Mathlib.Omega.{arith}
use Rattle.averages_ticks.proofs.Share.{product_fits, one_too_many, whole_already}
use Rattle.averages_ticks.proofs.half_up.Goals as goal

pub overflow_mul-guess : goal.overflow_mul-guess
overflow_mul-guess c = record { fits = product_fits c.requires }

pub returns-then-halves-guess : goal.returns-then-halves-guess
returns-then-halves-guess c = (one_too_many c.requires (omega arith)).1

pub returns-else-halves-guess : goal.returns-else-halves-guess
returns-else-halves-guess c = whole_already c.requires (omega arith)
