-- `first_usable` meets its contract: each turn passes a mean that is 0, and the first other one ends the search.
-- Assumes nothing.
use mathlib.Core.Path.{sym}
use Prim.Native.Nat.{◌-◌}
use native.Mathlib.Omega.{arith}
use lib.Ieee.{ne, of_bits}
use borrow.Author.Rules.{rules}
use borrow.Author.Count.{below_more}
use Rattle.rules_ema.proofs.Search.{usable_found, usable_none}
use Rattle.rules_ema.proofs.start.first_usable.Goals as goal

pub loop-i-init : goal.loop-i-init
loop-i-init c = (search rules, λ j l. absurd (omega arith))

pub loop-i-preserved : goal.loop-i-preserved
loop-i-preserved c =
    unfold ne of_bits in
    (search rules, below_more _ _ c.loop-i.invariant.1 c.if-means-i.false)

pub returns-then-i-means : goal.returns-then-i-means
returns-then-i-means c = sym (usable_none _ _ (λ j l. c.loop-i.invariant.1 j (omega arith)))

pub returns-then-means-i : goal.returns-then-means-i
returns-then-means-i c =
    unfold ne of_bits in
    sym (usable_found _ _ _ c.loop-i.invariant.1 c.if-means-i.true (omega arith))
