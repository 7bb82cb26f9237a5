-- `exponential_smoothing` meets its contract: each answer is a line of the table. Assumes nothing.
use mathlib.Core.Path.{◌≡◌, refl, sym, ◌∙◌}
use mathlib.Core.Bool.{Bool, true, false, ◌&&◌, true≢false}
use Prim.Native.Nat.{◌<◌}
use native.Mathlib.Omega.{arith}
use lib.ListN.{length}
use Rattle.calls.specs.declared.Refusal.TheVariants.{ParameterNotFinite}
use Rattle.std.specs.Prelude.{Err}
use Rattle.std.proofs.Common.{rules}
use Rattle.values.specs.Accepted.{accepted, finite}
use Rattle.values.proofs.All.{and_parts}
use Rattle.calls.specs.Answer.{unless}
use Rattle.calls.specs.inner.Fits.{window_fits}
use Rattle.calls.proofs.Call.{refused, counted}
use Rattle.calls.proofs.Room.{fits_parts, fits_checked, none_fits, counted_twice, checked_room}
use Rattle.cells.proofs.Written.{none_written}
use Rattle.checks.proofs.Steps.{stopped, went_on, refused_there, let_pass}
use Rattle.averages.specs.ExponentialSmoothing.{exponential_answer}
use Rattle.averages.proofs.exponential.exponential_smoothing.Goals as goal
use Rattle.averages.proofs.exponential.exponential_smoothing.Goals.{Then-window_fits-is_finite}

-- the series has a bar, and the lengths are in order
told : (c : Then-window_fits-is_finite) → let a = c.args in window_fits
    (length a.series.now) 1 (length a.out.now) ≡ true
told c = sym c.window_fits.ensures ∙ (and_parts _ _ c.if-window_fits-is_finite.true).0

first-false : (t u : Bool) → t && u ≡ false → u ≡ true → t ≡ false
first-false true u p q = absurd (true≢false (sym q ∙ p))
first-false false u p q = refl

pub answer_from_first-requires : goal.answer_from_first-requires
answer_from_first-requires c =
    let fits =
    fits_parts _ _ _ (told (goal.at.answer_from_first-requires c).Then-window_fits-is_finite) in
    (fits.inside, fits.room)

pub returns-then-window_fits-is_finite : goal.returns-then-window_fits-is_finite
unfolding exponential_answer
returns-then-window_fits-is_finite c =
    let a = c.args in
    let yes = sym c.is_finite.ensures
    ∙ (and_parts c.window_fits.result _ c.if-window_fits-is_finite.true).1 in
    rw (
      fits_checked accepted a.series.now 1 (length a.out.now)
          (told (goal.at.returns-then-window_fits-is_finite c).Then-window_fits-is_finite),
      yes,
      counted_twice,
    )
    c.answer_from_first.ensures

pub returns-in_err-check : goal.returns-in_err-check
unfolding exponential_answer
returns-in_err-check c =
    let stop : c.from_residual.result ≡ Err c.in_err-check.field-0.0 = search rules in
    refused (stopped _ c.check.ensures c.in_err-check.was stop) stop

pub returns-then-is_finite : goal.returns-then-is_finite
unfolding exponential_answer
returns-then-is_finite c =
    let a = c.args in
    let yes = c.is_finite.ensures ∙ sym c.is_finite-2.ensures ∙ c.if-is_finite.true in
    let no = sym c.window_fits.ensures ∙ first-false _ _ c.if-window_fits-is_finite.false yes in
    let room = checked_room _ _ _ _ _ (sym c.check.ensures ∙ c.in_ok-check.was) in
    let few : length a.series.now < 1 = none_fits (length a.series.now) 1 _ no
    (record { some = omega arith; narrow = omega arith }) room.short room.out_long in
    let none : length a.series.now ≡ 0 = omega arith in
    counted
    (went_on _ c.check.ensures c.in_ok-check.was
    (let_pass _ _ (sym c.is_finite-2.ensures ∙ c.if-is_finite.true) (rw none)))
    none_written

pub returns-else-is_finite : goal.returns-else-is_finite
unfolding exponential_answer
returns-else-is_finite c =
    refused
    (went_on _ c.check.ensures c.in_ok-check.was
    (refused_there _ _ (sym c.is_finite-2.ensures ∙ c.if-is_finite.false)))
    refl
