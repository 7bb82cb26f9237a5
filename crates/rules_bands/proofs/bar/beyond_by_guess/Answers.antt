-- `beyond_by_guess` meets its contract: a guess decides, or the root does. Assumes nothing.
use mathlib.Core.Bool.{true, false}
use mathlib.Core.Path.{◌≡◌, sym, ap, ◌∙◌, subst}
use borrow.Author.Rules.{sfits_of}
use lib.Dec.{T}
use lib.Ieee.{Float, binary64, fits, lt, le, of_bits}
use mir.Syntax.{w32}
use mir.Val.{to_z, of_z}
use mir.ValLaws.{to_z-of_z}
use Rattle.cells.specs.Line.{plus_zero}
use Rattle.rounding_order.proofs.Rounded.{not_below}
use Rattle.rules_bands.proofs.Guess.{Guess, by_low, by_high}
use Rattle.rules_bands.proofs.bar.beyond_by_guess.Goals as goal
use Rattle.rules_bands.proofs.bar.beyond_by_guess.Goals.{Start}

-- what owning an f64 tells: the format holds it
held_v : (c : Start) → T (fits binary64 c.args.variance)
held_v c = subst T (sym c.well_formed.1.1.1.1.0.1) tt

held-lo : (c : Start) → T (fits binary64 c.args.low)
held-lo c = subst T (sym c.well_formed.1.1.1.1.1.0.1) tt

held-hi : (c : Start) → T (fits binary64 c.args.high)
held-hi c = subst T (sym c.well_formed.1.1.1.1.1.1.0.1) tt

from_zero : (x : Float) → le plus_zero x ≡ true → lt x plus_zero ≡ false
from_zero x e = not_below plus_zero x (subst T (sym e) tt)

pub returns-then-beyond_at-eq0 : goal.returns-then-beyond_at-eq0
unfolding of_bits
returns-then-beyond_at-eq0 c =
    let call = c.beyond_at in
    let a = c.args in
    let flat-at-lo = sym (to_z-of_z w32 call.result (sfits_of call.type_inv)) ∙ ap (to_z w32) c.if-beyond_at-eq0.true in
    let guess : Guess a.margin a.k a.variance a.low = record {
      margin = c.requires;
      factor = from_zero a.k c.if-k.true;
      held_v = held_v (goal.at.returns-then-beyond_at-eq0 c).Start;
      held = held-lo (goal.at.returns-then-beyond_at-eq0 c).Start;
      from_zero = from_zero a.low c.if-low.true;
    } in
    sym (by_low a.margin a.average a.middle a.k a.variance a.low guess c.if-low-variance.true
    (sym call.ensures ∙ flat-at-lo))

pub returns-then-cell-ne0 : goal.returns-then-cell-ne0
unfolding of_bits
returns-then-cell-ne0 c =
    let call = c.beyond_at-cell in
    let a = c.args in
    let guess : Guess a.margin a.k a.variance a.high = record {
      margin = c.requires;
      factor = from_zero a.k c.if-k.true;
      held_v = held_v (goal.at.returns-then-cell-ne0 c).Start;
      held = held-hi (goal.at.returns-then-cell-ne0 c).Start;
      from_zero = from_zero a.high c.if-high.true;
    } in
    let is = call.ensures in
    let above = c.if-variance-high.true in
    to_z-of_z w32 call.result (sfits_of call.type_inv)
    ∙ is
    ∙ sym
    (by_high a.margin a.average a.middle a.k a.variance a.high guess
    (from_zero a.variance c.if-variance.true) above
    (λ e. c.if-cell-ne0.true (ap (of_z w32) (is ∙ e))))
