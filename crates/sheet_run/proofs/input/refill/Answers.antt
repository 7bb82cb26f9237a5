-- `refill` meets its contract: what was left is kept, and what came stands behind it. Assumes nothing.
use mathlib.Core.Path.{◌∙◌}
use Prim.Native.Nat.{◌+◌, ◌≤◌}
use native.Mathlib.Omega.{arith}
use lib.ListN.{length}
use Rattle.sheet_run.proofs.input.refill.Goals.{After-count_of}
use Rattle.sheet_run.proofs.input.refill.Goals as goal

-- what was left and what came lies in the block
within : (c : After-count_of) → c.keep-kept.result + c.count_of.result ≤ length c.read_on-input.new.block
within c = omega (arith, c.read_on-input.auto.block, rw (← c.count_of.ensures) at c.read_on-input.ensures.0)

pub returns : goal.returns
returns c =
    record {
      kept = rw (← c.keep-kept.ensures.count) (c.read_on-input.ensures.1 ∙ c.keep-kept.ensures.bytes);
      end = rw (c.count_of.ensures, c.keep-kept.ensures.count);
      within = omega (arith, within c, c.read_on-input.auto.block, c.keep-kept.auto.block);
    }
