-- `add_bars` meets its contract: the group's row, and then the last. Assumes nothing.
use mathlib.Core.Path.{refl, ap}
use Prim.Native.Nat.{ℕ}
use native.Mathlib.Nat.{mul-le-mul_right}
use native.Mathlib.Omega.{arith}
use borrow.Author.Rules.{rules}
use lib.IntN.{◌*ℤ◌}
use Rattle.cells.specs.Line.{line}
use Rattle.rules.specs.Position.{whole_position}
use Rattle.basket.specs.Basket.{groups}
use Rattle.basket.proofs.Adding.{two_rows, row_room, last_same}
use Rattle.basket.proofs.Weights.{weight_held}
use Rattle.basket.proofs.nets.add_bars.Goals as goal

pub overflow_sub-from : goal.overflow_sub-from
overflow_sub-from c = c.requires.start

pub overflow_sub-count : goal.overflow_sub-count
overflow_sub-count c = c.requires.order

pub overflow_mul-row : goal.overflow_mul-row
overflow_mul-row c =
    let most = mul-le-mul_right c.args.bars
    c.requires.row in let room = c.requires.room in
    search rules

pub overflow_add-row : goal.overflow_add-row
overflow_add-row c =
    let most = mul-le-mul_right c.args.bars
    c.requires.row in let room = c.requires.room in
    let order = c.requires.order in let inside = c.requires.inside in search rules

pub add_row-requires : goal.add_row-requires
add_row-requires c =
    let row = c.requires.row in
    rw (weight_held c.args.weight c.requires.light)
    (row_room c.requires c.args.row (omega arith) (λ j k. refl) refl)

pub overflow_mul-bars : goal.overflow_mul-bars
overflow_mul-bars c = let room = c.requires.room in search rules

pub overflow_add-bars : goal.overflow_add-bars
overflow_add-bars c =
    let s = c.requires in let room = s.room in let order = s.order in
    let inside = s.inside in search rules

pub add_row-requires-2 : goal.add_row-requires-2
add_row-requires-2 c =
    rw (weight_held c.args.weight c.requires.light)
    (row_room c.requires groups (omega arith) (last_same c.requires c.add_row.ensures)
    c.add_row.ensures.rest.long)

pub returns : goal.returns
returns c =
    let a = c.args in
    let s = c.requires in
    two_rows c.add_row.ensures c.add_row-2.ensures (s.row, s.order, s.inside) (λ j h k.
    let order = s.order in
    let from = s.start in
    rw (weight_held a.weight s.light)
    (ap (λ (i : ℕ). a.weight *ℤ whole_position (line a.positions.now i)) (omega arith)))
