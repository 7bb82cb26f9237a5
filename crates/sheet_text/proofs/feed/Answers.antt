-- `feed` meets its contract: each step goes onward, and the last one leaves too few bytes for a line. Assumes nothing.
use mathlib.Core.Path.{refl, ◌∙◌}
use Prim.Native.Nat.{◌-◌, ◌<◌}
use native.Mathlib.Nat.{zero-add}
use native.Mathlib.Omega.{arith}
use borrow.Author.Rules.{rules}
use lib.ListN.{length}
use Rattle.sheet_requests.specs.inner.Place.{next_line_bytes}
use Rattle.sheet_text.proofs.Feeding.{onward, text_owed_few, fed_rest, unfed_rest, stopped}
use Rattle.sheet_text.proofs.feed.Goals as goal
use Rattle.sheet_text.proofs.feed.Goals.{After-loop-place}

-- too few bytes are left
few : (c : After-loop-place) →
    let block = c.args.block.now in
    length block - c.loop-place.place.at < next_line_bytes c.loop-place.place.sheet.stage
few c = rw (← c.next_line_bytes.ensures) c.loop-place-test.false

pub loop-place-init : goal.loop-place-init
loop-place-init c =
    record {
      same = λ more. refl;
      placed = record {
        incomplete = c.requires.0;
        within = omega arith;
        room = rw zero-add (text_owed_few c.args.sheet.stage c.requires.0);
      };
      lent = c.requires.1;
      clear = refl;
      long = refl;
    }

pub take_lines-read-requires : goal.take_lines-read-requires
take_lines-read-requires c =
    let inv = c.loop-place.invariant in (
      rw (← c.next_line_bytes.ensures) c.loop-place-test.true,
      inv.placed,
      inv.lent.series_long,
      rw inv.long c.requires.2,
    )

pub loop-place-smaller : goal.loop-place-smaller
loop-place-smaller c =
    let on = onward c.take_lines-read.ensures c.answer_if_complete-place.ensures.0 in
    omega (arith, on.forth, on.placed.within, c.loop-place.invariant.placed.within)

pub loop-place-preserved : goal.loop-place-preserved
loop-place-preserved c =
    let on = onward c.take_lines-read.ensures c.answer_if_complete-place.ensures.0 in
    let kept = c.answer_if_complete-place.auto in
    let kept_read = c.take_lines-read.auto in
    let clear = c.answer_if_complete-place.ensures.1 in
    let inv = c.loop-place.invariant in
    let lent = inv.lent in
    let long = inv.long in
    record {
      same = λ more. inv.same more ∙ on.same more;
      placed = on.placed;
      lent = record { series_long = search rules; out_long = search rules; work_clear = clear ∙ lent.work_clear };
      clear = clear ∙ inv.clear;
      long = search rules;
    }

pub take_short-requires : goal.take_short-requires
take_short-requires c =
    let block = c.args.block.now in
    let inv = c.loop-place.invariant in (
      few (goal.at.take_short-requires c).After-loop-place,
      fed_rest block c.loop-place.place.at c.has_feed.ensures c.if-has_feed.true,
      inv.placed,
      rw inv.long c.requires.2,
    )

pub shape_of-text-then-has_feed : goal.shape_of-text-then-has_feed
shape_of-text-then-has_feed c = c.take_short.auto.text ∙ c.loop-place.invariant.long

pub returns-then-has_feed : goal.returns-then-has_feed
returns-then-has_feed c =
    let inv = c.loop-place.invariant in
    let (taken, stage, end) = c.take_short.ensures in
    let a = c.args in (
      stopped a.sheet a.block.now a.series.now inv.same (taken c.loop-place.series) stage end,
      inv.clear,
    )

pub shape_of-text-else-has_feed : goal.shape_of-text-else-has_feed
shape_of-text-else-has_feed c = c.loop-place.invariant.long

pub returns-else-has_feed : goal.returns-else-has_feed
returns-else-has_feed c =
    let block = c.args.block.now in
    let inv = c.loop-place.invariant in (
      record {
        same = inv.same;
        placed = inv.placed;
        few = few (goal.at.returns-else-has_feed c).After-loop-place;
        unended = unfed_rest block c.loop-place.place.at c.has_feed.ensures c.if-has_feed.false;
      },
      inv.clear,
    )
