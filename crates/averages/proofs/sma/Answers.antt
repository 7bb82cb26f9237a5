-- `sma` meets its contract: the values decide where the window fits, and else all cells are NaN. Assumes nothing.
use Rattle.std.proofs.Common.{◌≡◌, true, length, sym, refl, ◌∙◌, arith}
use Rattle.values.specs.Accepted.{accepted}
use Rattle.values.proofs.Part.{both_passing, all_passing, part_fails}
use Rattle.calls.specs.inner.Fits.{window_fits, Fits}
use Rattle.calls.proofs.Room.{fits_parts, fits_answered}
use Rattle.averages.specs.Sma.{sma_line}
use Rattle.averages.proofs.Stages.{values_pass, values_fail}
use Rattle.averages.proofs.sma.Goals as goal
use Rattle.averages.proofs.sma.Goals.{Else-not-window_fits}

-- the window is whole, and the lengths are in order
told : (c : Else-not-window_fits) → let a = c.args in window_fits (length a.series.now) a.n (length a.out.now) ≡ true
told c = sym c.window_fits.ensures ∙ c.if-not-window_fits.false

fits : (c : Else-not-window_fits) → let a = c.args in Fits (length a.series.now) a.n (length a.out.now)
fits c = fits_parts _ _ _ (told c)

pub returns-then-not-window_fits : goal.returns-then-not-window_fits
unfolding sma_line
returns-then-not-window_fits c = c.answer_lead.ensures _

pub sum_tested-requires : goal.sum_tested-requires
sum_tested-requires c =
    let h = fits (goal.at.sum_tested-requires c).Else-not-window_fits in
    (h.window.some, h.inside)

pub returns-in_default : goal.returns-in_default
returns-in_default c =
    let s = c.args.series.now in
    let from = (goal.at.returns-in_default c).Else-not-window_fits in
    rw (fits_answered accepted s c.args.n (length c.args.out.now) (told from))
    (values_fail s (sym (part_fails s c.in_default.ensures.accept (fits from).inside)) refl)

pub accepted_from-requires : goal.accepted_from-requires
accepted_from-requires c = (fits (goal.at.accepted_from-requires c).Else-not-window_fits).inside

pub returns-then-not-accepted_from : goal.returns-then-not-accepted_from
returns-then-not-accepted_from c =
    let s = c.args.series.now in
    let from = (goal.at.returns-then-not-accepted_from c).Else-not-window_fits in
    let inside = (fits from).inside in
    rw (fits_answered accepted s c.args.n (length c.args.out.now) (told from))
    (values_fail s
    (all_passing s (both_passing (length s) c.in-Ok.ensures.accept c.accepted_from.ensures (omega arith)) refl)
    c.if-not-accepted_from.true)

pub write_means-requires : goal.write_means-requires
write_means-requires c =
    let h = fits (goal.at.write_means-requires c).Else-not-window_fits in
    record { window = h.window; inside = h.inside; room = h.room; is = c.in-Ok.ensures.sum }

pub returns : goal.returns
returns c =
    let s = c.args.series.now in
    let from = (goal.at.returns c).Else-not-window_fits in
    let inside = (fits from).inside in
    rw (fits_answered accepted s c.args.n (length c.args.out.now) (told from))
    (values_pass s
    (all_passing s (both_passing (length s) c.in-Ok.ensures.accept c.accepted_from.ensures (omega arith)) refl)
    c.if-not-accepted_from.false
    c.write_means.ensures)
