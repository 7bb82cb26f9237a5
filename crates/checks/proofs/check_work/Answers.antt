-- `check_work` meets its contract: an eighth of the work slice is compared, so that nothing overflows. Assumes nothing.
use Prim.Native.Nat.{◌*◌}
use native.Mathlib.Omega.{arith}
use borrow.Author.Tests.{le-leb, lt-leb}
use Rattle.checks.proofs.check_work.Goals as goal

pub returns-then-bars-work : goal.returns-then-bars-work
returns-then-bars-work c = rw (lt-leb (8 * c.args.bars) c.args.work (omega arith))

pub returns-else-bars-work : goal.returns-else-bars-work
returns-else-bars-work c = rw (le-leb (8 * c.args.bars) c.args.work (omega arith))
