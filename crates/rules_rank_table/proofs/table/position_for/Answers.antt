-- `position_for` meets its contract: no row that was asked covers k. Assumes nothing.
use mathlib.Core.Path.{◌≡◌, sym, ap, ◌∙◌}
use mathlib.Core.List.{List, [], ◌∷◌, map}
use Prim.Native.Nat.{ℕ, ◌+◌, ◌<◌}
use native.Mathlib.Numerals.{add-one}
use native.Mathlib.Omega.{arith}
use lib.IntN.{ℤ}
use lib.ListN.{length, get_or, drop, drop_of_length-le}
use lib.Seq.{drop-cons}
use borrow.Author.Rules.{rules}
use mir.Syntax.{w32}
use mir.Val.{to_z, of_z}
use mir.ValLaws.{to_z-of_z}
use Rattle.rules_rank_table.specs.Table.{position_for}
use Rattle.rules_rank_table.specs.Taken.{position_at}
use Rattle.rules_rank_table.specs.inner.Stages.{row_of}
use Rattle.rules_rank_table.proofs.table.position_for.Goals as goal

-- the next row, and those after it
next_row : (rows : List (List ℤ)) (i : ℕ) → i < length rows
    → map row_of (drop i rows) ≡ row_of (get_or rows i []) ∷ map row_of (drop (i + 1) rows)
next_row rows i h =
    let next : drop i rows ≡ get_or rows i [] ∷ drop (i + 1) rows = rw add-one (drop-cons rows i [] h) in
    ap (λ (left : List (List ℤ)). map row_of left) next

pub returns-then-row_covers : goal.returns-then-row_covers
unfolding position_for
returns-then-row_covers c =
    let rows = c.args.rows.now in
    let i = c.loop-row.row-index in
    let k = c.args.k in
    let same = to_z-of_z w32 k c.ranges.k in
    let covered = rw same at (sym c.row_covers.ensures ∙ c.if-row_covers.true) in
    let position = position_at (get_or rows i []) 0 in
    let held : to_z w32 (of_z w32 position) ≡ position = search rules in
    let found : position_for k (map row_of rows) ≡ position =
    rw same at c.loop-row.invariant ∙ rw (next_row rows i c.loop-row-test.true, covered) in
    held ∙ sym found

pub loop-row-preserved : goal.loop-row-preserved
unfolding position_for
loop-row-preserved c =
    let missed = sym c.row_covers.ensures ∙ c.if-row_covers.false in
    c.loop-row.invariant ∙ rw (next_row c.args.rows.now c.loop-row.row-index c.loop-row-test.true, missed)

pub returns : goal.returns
unfolding position_for
returns c =
    let at = c.loop-row in
    let asked = rw (to_z-of_z w32 c.args.k c.ranges.k) at at.invariant in
    sym (asked ∙ rw (drop_of_length-le c.args.rows.now {i = at.row-index} (omega arith)))
