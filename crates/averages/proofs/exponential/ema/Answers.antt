-- `ema` meets its contract: the smoothed line from the mean of the first bars on, where the window fits, and else all
-- cells are NaN. Assumes nothing.
use mathlib.Core.Path.{◌≡◌, sym, ◌∙◌}
use mathlib.Core.Bool.{true}
use lib.ListN.{length}
use Rattle.values.specs.Accepted.{accepted}
use Rattle.calls.specs.inner.Fits.{window_fits}
use Rattle.calls.proofs.Room.{fits_parts, fits_answered}
use Rattle.cells.specs.Recur.{carried}
use Rattle.averages.proofs.exponential.ema.Goals as goal
use Rattle.averages.proofs.exponential.ema.Goals.{Else-not-window_fits}

-- the window is whole, and the lengths are in order
told : (c : Else-not-window_fits) → let a = c.args in window_fits (length a.series.now)
    a.n (length a.out.now) ≡ true
told c = sym c.window_fits.ensures ∙ c.if-not-window_fits.false

pub answer_from_mean-requires : goal.answer_from_mean-requires
answer_from_mean-requires c = fits_parts _ _ _ (told (goal.at.answer_from_mean-requires c).Else-not-window_fits)

pub returns : goal.returns
returns c =
    let a = c.args in
    rw (fits_answered accepted a.series.now a.n (length a.out.now)
    (told (goal.at.returns c).Else-not-window_fits))
    c.answer_from_mean.ensures

pub returns-then-not-window_fits : goal.returns-then-not-window_fits
unfolding carried
returns-then-not-window_fits c = c.answer_lead.ensures _
