-- `changes_before` meets its contract: n changes, or as many as there are. Assumes nothing.
use native.Mathlib.Omega.{arith}
use Rattle.rules_rsi.proofs.Index.{changes_before_lem}
use Rattle.rules_rsi.proofs.bar.changes_before.Goals as goal

pub returns : goal.returns
returns c = omega (arith, changes_before_lem c.args.n c.args.i, c.min.ensures, c.saturating_sub.ensures)
