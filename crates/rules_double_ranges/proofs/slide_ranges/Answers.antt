-- `slide_ranges` meets its contract: the first cell, and then each turn moves the sums on and writes one. Assumes
-- nothing.
use mathlib.Core.Path.{◌≡◌}
use Prim.Native.Nat.{◌+◌, ◌-◌}
use native.Mathlib.Omega.{arith}
use borrow.Author.Rules.{sfits_of}
use mir.Syntax.{w32}
use mir.ValLaws.{to_z-of_z}
use Rattle.cells.proofs.Written.{step, one_more}
use Rattle.rules_double_ranges.proofs.Bars.{cell_asks, cell_is}
use Rattle.rules_double_ranges.proofs.slide_ranges.Goals as goal
use Rattle.rules_double_ranges.proofs.slide_ranges.Goals.{After-cell_at}

pub cell_at-requires : goal.cell_at-requires
cell_at-requires c =
    let r = c.requires in
    let some = r.lows.long.some in
    let full = r.lows.full in (record {
      window = (r.lows.long, r.lows.order);
      implies = cell_asks r.lows r.highs r.same r.ranged (c.args.m - 1) (omega arith) (omega arith)
          c.first_sums-lows.ensures c.first_sums-highs.ensures;
    })

pub loop-i-init : goal.loop-i-init
loop-i-init c =
    let r = c.requires in
    let m = c.args.m in
    let some = r.lows.long.some in
    let full = r.lows.full in
    let room = r.room in
    let cell =
    cell_is r.lows r.highs r.same r.ranged (m - 1) (omega arith) (omega arith)
    c.first_sums-lows.ensures
    c.first_sums-highs.ensures in (
      step (m - 1) m r.before
          (rw (to_z-of_z w32 c.cell_at.result (sfits_of c.cell_at.type_inv), c.cell_at.ensures) cell)
          (omega arith),
      c.first_sums-lows.ensures,
      c.first_sums-highs.ensures,
    )

pub cell_at-requires-in-loop-i : goal.cell_at-requires-in-loop-i
cell_at-requires-in-loop-i c =
    let r = c.requires in (record {
      window = (r.lows.long, r.lows.order);
      implies = cell_asks r.lows r.highs r.same r.ranged c.loop-i.i (omega arith) (omega arith)
          c.next_sums-lows.ensures c.next_sums-highs.ensures;
    })

pub loop-i-preserved : goal.loop-i-preserved
loop-i-preserved c =
    let r = c.requires in
    let i = c.loop-i.i in
    let bar : i + 1 - 1 ≡ i = omega arith in
    let room = r.room in
    let long = c.loop-i.invariant.0.long in
    let cell =
    cell_is r.lows r.highs r.same r.ranged i (omega arith) (omega arith)
    c.next_sums-lows.ensures
    c.next_sums-highs.ensures in (
      one_more c.loop-i.invariant.0
          (rw (
            to_z-of_z w32 c.cell_at-in-loop-i.result (sfits_of c.cell_at-in-loop-i.type_inv),
            c.cell_at-in-loop-i.ensures,
          ) cell)
          (omega arith),
      rw bar c.next_sums-lows.ensures,
      rw bar c.next_sums-highs.ensures,
    )
