-- `supplied_close` meets its contract: the flag is told as the definition does. Assumes nothing.
use mathlib.Core.Path.{◌≡◌, refl}
use Prim.Native.Nat.{ℕ, zero, suc}
use lib.Ieee.{Float}
use Rattle.std.specs.Prelude.{Some}
use Rattle.true_range.specs.TrueRange.{supplied}
use Rattle.true_range.proofs.supplied_close.Goals as goal

set : (flag : ℕ) (x : Float) → (flag ≡ 0 → ⊥) → Some x ≡ supplied flag x
set zero x h = absurd (h refl)
set (suc k) x h = refl

pub returns-then-known-eq0 : goal.returns-then-known-eq0
returns-then-known-eq0 c = rw c.if-known-eq0.true

pub returns-else-known-eq0 : goal.returns-else-known-eq0
returns-else-known-eq0 c = set _ _ c.if-known-eq0.false
