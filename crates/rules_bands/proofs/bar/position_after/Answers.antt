-- `position_after` meets its contract: the margin of the plain rule is 1e-10. Assumes nothing.
use mathlib.Core.Path.{refl, ◌∙◌}
use borrow.Author.Rules.{sfits_of}
use lib.Ieee.{of_bits, round, lt}
use mir.Syntax.{w32}
use mir.ValLaws.{to_z-of_z}
use Rattle.rounding.specs.Literals.{ten_to_minus}
use Rattle.rules_bands.proofs.bar.position_after.Goals as goal

pub beyond_by-requires : goal.beyond_by-requires
beyond_by-requires c = unfold of_bits lt in refl

pub returns-else-reverse : goal.returns-else-reverse
unfolding of_bits ten_to_minus round
returns-else-reverse c =
    let call = c.beyond_by in
    rw c.if-reverse.false (to_z-of_z w32 call.result (sfits_of call.type_inv) ∙ call.ensures)
