-- `turn` meets its contract: what was left and what came are fed, and what they print is handed over. Assumes nothing.
use mathlib.Core.Path.{sym}
use Prim.Native.Nat.{◌≤◌}
use native.Mathlib.Omega.{arith}
use lib.ListN.{length}
use lib.Seq.{length-take-le}
use Rattle.sheet_run.proofs.turn.Goals as goal
use Rattle.sheet_run.proofs.turn.Goals.{After-feed-next, After-refill-read}

-- what was left and what came lies in the block
within : (c : After-refill-read) → c.refill-read.result.end ≤ length c.refill-read.new.block
within c = omega (arith, c.refill-read.auto.block, c.refill-read.ensures.within)

-- what is left is in what was fed
left : (c : After-feed-next) →
    c.feed-next.result.at ≤ c.refill-read.result.end
left c =
    rw (length-take-le _ _ (within (goal.at.After-feed-next c).After-refill-read))
    at c.feed-next.ensures.0.placed.within

pub refill-read-requires : goal.refill-read-requires
refill-read-requires c = (c.requires.0.some, omega (arith, c.requires.0.within, c.requires.1.block_long))

pub slice_bounds-feed-end : goal.slice_bounds-feed-end
slice_bounds-feed-end c = within (goal.at.slice_bounds-feed-end c).After-refill-read

pub slice_bounds-feed-end-2 : goal.slice_bounds-feed-end-2
slice_bounds-feed-end-2 c = sym (length-take-le _ _ (within (goal.at.slice_bounds-feed-end-2 c).After-refill-read))

pub feed-next-requires : goal.feed-next-requires
feed-next-requires c =
    let lent = c.requires.1 in (
      c.requires.0.between.incomplete,
      lent.lent,
      rw (length-take-le _ _ (within (goal.at.feed-next-requires c).After-refill-read))
          (omega (arith, within (goal.at.feed-next-requires c).After-refill-read, lent.text_long, lent.block_long)),
    )

pub write_text-output-requires : goal.write_text-output-requires
write_text-output-requires c =
    let lent = c.requires.1 in
    omega (
      arith,
      left (goal.at.write_text-output-requires c).After-feed-next,
      within (goal.at.write_text-output-requires c).After-refill-read,
      c.feed-next.ensures.0.placed.room,
      c.feed-next.auto.text,
      lent.block_long,
      lent.text_long,
    )

pub returns : goal.returns
returns c =
    let (fed, clear) = c.feed-next.ensures in (
      record {
        kept = c.refill-read.ensures.kept;
        end = c.refill-read.ensures.end;
        steps = fed.same;
        unended = fed.unended;
        written = c.write_text-output.ensures;
        carrying = record {
          between = record {
            incomplete = fed.placed.incomplete;
            few = rw (length-take-le _ _ (within (goal.at.returns c).After-refill-read)) at fed.few;
          };
          some = left (goal.at.returns c).After-feed-next;
          within = omega (arith, within (goal.at.returns c).After-refill-read, c.requires.1.block_long);
        };
      },
      clear,
    )
