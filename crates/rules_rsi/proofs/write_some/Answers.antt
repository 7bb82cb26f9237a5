-- `write_some` meets its contract: sixteen bars where so many are left that have n changes, and else one. Assumes
-- nothing.
use native.Mathlib.Omega.{arith}
use Rattle.cells.proofs.Written.{one_more}
use Rattle.rules_rsi.proofs.write_some.Goals as goal

pub returns-else-n-i : goal.returns-else-n-i
returns-else-n-i c = record {
  some = omega arith;
  inside = omega arith;
  cells = one_more c.requires.indexes c.index_at.ensures (omega arith);
}
