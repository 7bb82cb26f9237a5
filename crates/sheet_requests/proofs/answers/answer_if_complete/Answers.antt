-- `answer_if_complete` meets its contract: with all its prices the request
-- is answered, and else nothing is done. Assumes nothing.
use mathlib.Core.Path.{◌≡◌, refl}
use mathlib.Core.List.{List}
use Prim.Native.Nat.{ℕ, ◌+◌}
use native.Mathlib.Omega.{arith}
use lib.Ieee.{Float}
use Rattle.sheet_lines.proofs.Printing.{add_none}
use Rattle.sheet_requests.specs.Sheet.{Step, quiet}
use Rattle.sheet_requests.specs.declared.blocks.Place.{Place}
use Rattle.sheet_requests.specs.inner.Place.{state_of, text_owed, Incomplete, SteppedInRoom}
use Rattle.sheet_requests.proofs.Prices.{waits, all_there}
use Rattle.sheet_requests.proofs.answers.answer_if_complete.Goals as goal

-- where no step is to be made, the place stays
stays : {t : Step} {series : List Float} {p : Place} {text : List ℕ}
    → t ≡ quiet (state_of p.sheet.stage p.sheet.counts series)
    → Incomplete p.sheet.stage
    → SteppedInRoom t series p.at p.filled p text text (p.filled + text_owed p.sheet.stage)
stays e h =
    record { made = rw e (record { state = refl; text = add_none; place = refl }); incomplete = h; few = omega arith }

pub answer_complete-requires : goal.answer_complete-requires
answer_complete-requires c =
    let whole = c.if-got-request.true in
    let fits = rw c.in-Collecting.is at c.requires.0 in
    let room = rw c.in-Collecting.is at c.requires.2 in
    (fits.1, c.requires.1, omega arith)

pub returns-in-Waiting : goal.returns-in-Waiting
returns-in-Waiting c =
    let series = c.args.series.now in
    let request = c.in-Collecting.request in
    let got = c.in-Collecting.got in
    let is = c.in-Collecting.is in
    let fits = rw is at c.requires.0 in
    let more : got ≡ request.bars → ⊥ = c.if-got-request.false in
    let some = waits c.args.place.sheet.counts request series got
    (omega (arith, c.requires.1.series_long)) more in
    (stays (rw is some) (rw is (omega arith, omega arith)), refl)

pub returns-in-Collecting : goal.returns-in-Collecting
returns-in-Collecting c =
    let series = c.args.series.now in
    let request = c.in-Collecting.request in
    let got = c.in-Collecting.got in
    let is = c.in-Collecting.is in
    let fits = rw is at c.requires.0 in
    let (made, stage, few, clear) = c.answer_complete.ensures in
    let whole : got ≡ request.bars = c.if-got-request.true in
    let all = all_there c.args.place.sheet.counts request series got
    (omega (arith, c.requires.1.series_long)) whole in
    (record { made = rw (is, all) made; incomplete = rw stage tt; few = rw (stage, is) (omega arith) }, clear)
