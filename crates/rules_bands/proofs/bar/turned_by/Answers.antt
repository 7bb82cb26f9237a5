-- `turned_by` meets its contract: a flat position opens to the other side of the bands, and to a held one that does not
-- matter. Assumes nothing.
use mathlib.Core.Path.{◌≡◌, refl, sym, ap, ◌∙◌}
use borrow.Author.Rules.{sfits_of}
use native.Mathlib.Omega.{arith}
use lib.IntN.{ℤ, pos, neg_ℤ, ◌-ℤ◌}
use lib.Ieee.{binary64, of_bits}
use mir.Syntax.{w32}
use mir.Val.{SFits, to_z, of_z}
use mir.ValLaws.{to_z-of_z}
use Rattle.cells.specs.Line.{plus_zero}
use Rattle.rounding_root.specs.Root.{sqrt_of}
use Rattle.rules_held.specs.Held.{flat, moved}
use Rattle.rules_held.proofs.Holding.{Position, at_flat, at_long, at_short, moved_held}
use Rattle.rules_bands.specs.BollReverse.{turns_at}
use Rattle.rules_bands.proofs.Bands.{beyond_position, opens_other_side}
use Rattle.rules_bands.proofs.bar.turned_by.Goals as goal

-- the negation of a position
turned-fits : {z : ℤ} → Position z → SFits w32 (pos 0 -ℤ z)
turned-fits at_flat = record { sfits = omega arith }
turned-fits at_long = record { sfits = omega arith }
turned-fits at_short = record { sfits = omega arith }

turned-is : {z : ℤ} → Position z → pos 0 -ℤ z ≡ neg_ℤ z
turned-is at_flat = refl
turned-is at_long = refl
turned-is at_short = refl

pub returns-then-position-eq0 : goal.returns-then-position-eq0
unfolding moved of_bits
returns-then-position-eq0 c =
    let call = c.beyond_by in
    let a = c.args in
    let width = sqrt_of binary64 a.variance in
    let side = beyond_position plus_zero a.average a.middle a.k width in
    let is = to_z-of_z w32 call.result (sfits_of call.type_inv) ∙ call.ensures in
    let is-flat = sym (to_z-of_z w32 a.position c.ranges.position) ∙ ap (to_z w32) c.if-position-eq0.true in
    ap (λ (z : ℤ). to_z w32 (of_z w32 (pos 0 -ℤ z))) is
    ∙ to_z-of_z w32 _ (turned-fits side)
    ∙ turned-is side
    ∙ opens_other_side a.average a.middle a.k width
    ∙ rw is-flat

pub returns-else-position-eq0 : goal.returns-else-position-eq0
returns-else-position-eq0 c =
    let call = c.move_position in
    let a = c.args in
    let same = to_z-of_z w32 a.position c.ranges.position in
    let held : to_z w32 (of_z w32 a.position) ≡ flat → ⊥ =
    λ e. c.if-position-eq0.false (ap (of_z w32) (sym same ∙ e)) in
    let signal = turns_at a.average a.middle a.k (sqrt_of binary64 a.variance) in
    to_z-of_z w32 call.result (sfits_of call.type_inv)
    ∙ call.ensures
    ∙ moved_held (to_z w32 (of_z w32 a.position)) _ signal held refl refl
    ∙ ap (λ (z : ℤ). moved z signal) same
