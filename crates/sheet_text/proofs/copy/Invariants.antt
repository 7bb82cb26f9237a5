-- `copy` meets its contract: each byte is written behind those before it. Assumes nothing.
use Rattle.std.proofs.Common.{◌≡◌, length}
use Rattle.sheet_text.specs.inner.Standing.{Copied}
use Rattle.sheet_text.proofs.copy.Given as goal

abbrev pub invariant-loop-i : goal.invariant-loop-i
invariant-loop-i l = (length l.out ≡ length l.initial.out) × Copied l.text l.i l.at l.initial.out l.out
