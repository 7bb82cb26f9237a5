-- `part` meets its contract: what is fed is printed, and what is printed is copied. Assumes nothing.
use mathlib.Core.Path.{◌≡◌, ◌∙◌}
use Prim.Native.Nat.{◌≤◌, ◌+◌}
use native.Mathlib.Omega.{arith}
use lib.ListN.{length}
use Rattle.sheet_text.specs.inner.Standing.{part_bytes, text_bytes}
use Rattle.sheet_text.proofs.Parts.{length_part, up_to, text_fits, out_fits, parted}
use Rattle.sheet_text.proofs.part.Goals as goal
use Rattle.sheet_text.proofs.part.Goals.{After-feed-next}

-- what is known of the place and of the text once the part is fed
fit : (c : After-feed-next) → let a = c.args in
    (a.place.at ≤ a.end) × (a.end ≤ length a.input.now) × (a.end ≤ a.place.at + part_bytes)
    × (length c.feed-next.new.text ≡ text_bytes)
fit c =
    let (standing, lent, long, some, within, few, room) = c.requires in
    (some, within, few, c.feed-next.auto.text ∙ long)

pub feed-next-requires : goal.feed-next-requires
feed-next-requires c =
    let (standing, lent, long, some, within, few, room) = c.requires in (
      standing.incomplete,
      lent,
      rw (length_part c.args.place.at c.args.end c.args.input.now within) (omega arith),
    )

pub copy-requires : goal.copy-requires
copy-requires c =
    let (standing, lent, long, some, within, few, room) = c.requires in
    let end = c.args.end in
    let fed = c.feed-next.ensures.0 in (
      text_fits end standing fed (fit (goal.at.copy-requires c).After-feed-next),
      omega (arith, out_fits end standing fed (fit (goal.at.copy-requires c).After-feed-next), room),
    )

pub overflow_add-result : goal.overflow_add-result
overflow_add-result c =
    let (standing, lent, long, some, within, few, room) = c.requires in
    omega (
      arith,
      up_to c.args.end standing c.feed-next.ensures.0 (fit (goal.at.overflow_add-result c).After-feed-next),
      c.ranges.end,
    )

pub overflow_add-result-2 : goal.overflow_add-result-2
overflow_add-result-2 c =
    let (standing, lent, long, some, within, few, room) = c.requires in
    omega (
      arith,
      out_fits c.args.end standing c.feed-next.ensures.0 (fit (goal.at.overflow_add-result-2 c).After-feed-next),
      room,
      c.well_formed.1.1.1.1.1.1.1.0.0,
    )

pub returns : goal.returns
returns c =
    let (standing, lent, long, some, within, few, room) = c.requires in
    let (fed, clear) = c.feed-next.ensures in
    (parted c.args.end standing fed (fit (goal.at.returns c).After-feed-next) c.copy.ensures, clear)
