-- `cell_of` meets its contract: the arithmetic is the cell for the pairs of results that can occur. Assumes nothing.
use native.Mathlib.Omega.{arith}
use Rattle.rules_double_ranges.proofs.Pairs.{product_fits, less_fits, cell_fits, cell_picked}
use Rattle.rules_double_ranges.proofs.cell_of.Goals as goal

pub overflow_mul-result : goal.overflow_mul-result
overflow_mul-result c = product_fits _ (omega arith) c.args.best

pub overflow_sub-result : goal.overflow_sub-result
overflow_sub-result c = less_fits _ (omega arith) c.args.worst c.args.best

pub overflow_sub-result-2 : goal.overflow_sub-result-2
overflow_sub-result-2 c = cell_fits _ (omega arith) c.args.worst c.args.best

pub returns : goal.returns
returns c = cell_picked c.args.worst c.args.best c.requires
