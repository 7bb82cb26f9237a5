-- What filling a block again promises. Assumes nothing.
use Rattle.std.specs.Prelude.{◌≡◌, List, ℕ, ◌+◌, ◌-◌, ◌≤◌, length, take}
use Rattle.std.proofs.Math.Seq.{slice}
use Rattle.sheet_run.specs.declared.input.Refilled.{Refilled}
use Rattle.sheet_run.specs.Run.{bytes_read}

-- The bytes that were left stand at the front of the block, and so many came behind them.
pub record Refills (from to : ℕ) (old : List ℕ) (r : Refilled) (now : List ℕ) : Type 0 where
  pub kept : take (to - from) now ≡ slice from to old
  pub end : r.end ≡ to - from + bytes_read r.input
  pub within : r.end ≤ length old
