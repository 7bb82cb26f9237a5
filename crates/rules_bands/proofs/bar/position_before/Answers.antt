-- `position_before` meets its contract. Assumes nothing.
use mathlib.Core.Path.{◌≡◌, ◌∙◌}
use Prim.Native.Nat.{◌-◌}
use borrow.Author.Rules.{rules}
use lib.IntN.{pos}
use lib.ListN.{get_or}
use mir.Syntax.{w32}
use mir.Val.{to_z, of_z}
use Rattle.rules_bands.proofs.Stages.{before_some, before_none}
use Rattle.rules_bands.proofs.bar.position_before.Goals as goal

pub returns-then-i-gt0 : goal.returns-then-i-gt0
returns-then-i-gt0 c =
    let before = get_or c.args.out.now (c.args.i - 1) (pos 0) in
    let held : to_z w32 (of_z w32 before) ≡ before = search rules in
    held ∙ before_some _ _ c.if-i-gt0.true

pub returns-else-i-gt0 : goal.returns-else-i-gt0
returns-else-i-gt0 c = before_none _ _ c.if-i-gt0.false
