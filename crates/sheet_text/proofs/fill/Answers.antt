-- `fill` meets its contract: the parts go onward, and what is printed last ends the sheet. Assumes nothing.
use mathlib.Core.Path.{◌≡◌, refl, sym, ap, ◌∙◌}
use Prim.Native.Nat.{◌≤◌}
use native.Mathlib.Omega.{arith}
use borrow.Author.Rules.{rules}
use lib.ListN.{length}
use Rattle.sheet_text.specs.inner.Standing.{text_bytes, Standing}
use Rattle.sheet_text.proofs.Parts.{
  stand_on,
  stand_over,
  stand_first,
  goes_on,
  end_fits,
  all_written,
}
use Rattle.sheet_text.proofs.fill.Goals as goal
use Rattle.sheet_text.proofs.fill.Goals.{After-part-last}

-- after the last part
standing : (c : After-part-last) → Standing c.args.input.now c.args.out.now c.part-last.result
    c.part-last.new.series c.part-last.new.out
standing c = stand_over c.loop-place.invariant.0 c.part-last.ensures.0

text_long : (c : After-part-last) → length c.part-last.new.text ≡ text_bytes
text_long c = c.part-last.auto.text ∙ c.loop-place.invariant.2

pub loop-place-init : goal.loop-place-init
loop-place-init c =
    rw c.begin.ensures (
      stand_first c.args.input.now c.args.series.now c.args.out.now,
      c.requires.0,
      c.requires.1,
    )

pub overflow_add-end : goal.overflow_add-end
overflow_add-end c = omega (arith, c.loop-place-test.true, c.loop-place.invariant.0.within, c.well_formed.0.0)

pub part-place-requires : goal.part-place-requires
part-place-requires c =
    let (standing, lent, long) = c.loop-place.invariant in
    let some : c.loop-place.place.at ≤ length c.args.input.now = standing.within in (
      stand_on standing,
      lent,
      long,
      omega arith,
      omega (arith, c.loop-place-test.true),
      omega arith,
      omega (arith, c.requires.2, standing.written.long),
    )

pub loop-place-smaller : goal.loop-place-smaller
loop-place-smaller c =
    let parted = c.part-place.ensures.0 in
    omega (arith, goes_on parted refl, parted.standing.within, c.loop-place.invariant.0.within)

pub part-last-requires : goal.part-last-requires
part-last-requires c =
    let (standing, lent, long) = c.loop-place.invariant in (
      stand_on standing,
      lent,
      long,
      standing.within,
      omega arith,
      omega (arith, c.loop-place-test.false),
      omega (arith, c.requires.2, standing.written.long),
    )

pub overflow_sub-input-2 : goal.overflow_sub-input-2
overflow_sub-input-2 c = (standing (goal.at.overflow_sub-input-2 c).After-part-last).within

pub finish-count-requires : goal.finish-count-requires
finish-count-requires c =
    (c.part-last.ensures.0.few, omega (arith, text_long (goal.at.finish-count-requires c).After-part-last))

pub copy-requires : goal.copy-requires
copy-requires c =
    let part = (goal.at.copy-requires c).After-part-last in (
      c.finish-count.ensures.within,
      omega (
        arith,
        end_fits (standing part) c.finish-count.ensures (c.part-last.ensures.0.unended refl),
        c.requires.2,
        (standing part).written.long,
      ),
    )

pub overflow_add-result : goal.overflow_add-result
overflow_add-result c =
    let part = (goal.at.overflow_add-result c).After-part-last in
    omega (
      arith,
      end_fits (standing part) c.finish-count.ensures (c.part-last.ensures.0.unended refl),
      c.requires.2,
      c.well_formed.1.1.1.1.1.0.0,
    )

pub shape_of-series : goal.shape_of-series
shape_of-series c =
    let part = (goal.at.shape_of-series c).After-part-last in
    c.part-last.auto.series ∙ c.loop-place.invariant.1.series_long ∙ sym c.requires.0.series_long

pub shape_of-cells : goal.shape_of-cells
shape_of-cells c =
    let part = (goal.at.shape_of-cells c).After-part-last in
    c.part-last.auto.cells ∙ c.loop-place.invariant.1.out_long ∙ sym c.requires.0.out_long

pub shape_of-work : goal.shape_of-work
shape_of-work c =
    let part = (goal.at.shape_of-work c).After-part-last in
    c.part-last.auto.work
    ∙ ap length (c.loop-place.invariant.1.work_clear ∙ sym c.requires.0.work_clear)

pub shape_of-text : goal.shape_of-text
shape_of-text c =
    let part = (goal.at.shape_of-text c).After-part-last in
    c.finish-count.auto.text ∙ text_long part ∙ sym c.requires.1

pub shape_of-out : goal.shape_of-out
shape_of-out c =
    let part = (goal.at.shape_of-out c).After-part-last in
    c.copy.auto.out ∙ (standing part).written.long

pub returns : goal.returns
returns c =
    let part = (goal.at.returns c).After-part-last in
    all_written (standing part) c.finish-count.ensures (c.part-last.ensures.0.unended refl)
    c.copy.ensures

pub loop-place-preserved : goal.loop-place-preserved
loop-place-preserved c =
    let (parted, clear) = c.part-place.ensures in
    let (standing, lent, long) = c.loop-place.invariant in (
      stand_over standing parted,
      record { series_long = search rules; out_long = search rules; work_clear = clear ∙ lent.work_clear },
      c.part-place.auto.text ∙ long,
    )
