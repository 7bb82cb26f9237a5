-- `add_part` meets its contract: the part's positions stand in the block, and those of its new bars are added. Assumes
-- nothing.
use mathlib.Core.Path.{refl, sym}
use Prim.Native.Nat.{◌+◌, ◌<◌, ◌≤◌}
use borrow.Author.Rules.{rules}
use lib.ListN.{length}
use Rattle.basket.proofs.Afresh.{part_ends, part_priced, part_room, part_added}
use Rattle.basket.proofs.Weights.{weight_held}
use Rattle.basket.proofs.parts.add_part.Goals as goal
use Rattle.basket.proofs.parts.add_part.Goals.{After-smaller-end}

-- where the part begins and ends
ends : (c : After-smaller-end) →
    let a = c.args in
    let begin = c.part_begin-begin.result in
    (begin ≤ a.at) × (a.at < c.smaller-end.result) × (c.smaller-end.result ≤ length a.contract.now.prices.now)
    × (c.smaller-end.result ≤ begin + 4096)
ends c =
    part_ends c.requires.0 c.requires.1 c.part_begin-begin.ensures c.smaller-end.ensures

pub part_begin-begin-requires : goal.part_begin-begin-requires
part_begin-begin-requires c = c.requires.0.window

pub overflow_add-begin : goal.overflow_add-begin
overflow_add-begin c = let at = c.requires.1 in let b = c.part_begin-begin.ensures in search rules

pub slice_bounds-write_part-count : goal.slice_bounds-write_part-count
slice_bounds-write_part-count c = let e = ends c in search rules

pub slice_bounds-write_part-start : goal.slice_bounds-write_part-start
slice_bounds-write_part-start c = let e = ends c in search rules

pub slice_bounds-write_part-end : goal.slice_bounds-write_part-end
slice_bounds-write_part-end c = let e = ends c in search rules

pub write_part-requires : goal.write_part-requires
write_part-requires c = part_priced c.requires.0 c.requires.1 c.part_begin-begin.ensures c.smaller-end.ensures

pub add_bars-requires : goal.add_bars-requires
add_bars-requires c =
    rw (weight_held c.args.contract.now.weight c.requires.0.light)
    (part_room c.requires.0 c.requires.1 c.part_begin-begin.ensures c.smaller-end.ensures
    (sym c.write_part.ensures.0.long))

pub returns : goal.returns
returns c =
    let (begins, some, inside, few) = ends (goal.at.returns c).After-smaller-end in (
      part_added c.requires.0 c.requires.1 c.part_begin-begin.ensures c.smaller-end.ensures _ refl
          c.write_part.ensures.0 c.write_part.ensures.1
          (rw (weight_held c.args.contract.now.weight c.requires.0.light) at c.add_bars.ensures),
      some,
      inside,
    )
