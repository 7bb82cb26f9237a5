-- `basket` meets its contract: the answer is the table's, and where it has cells they are written and the work slice is
-- cleared. Assumes nothing.
use Prim.Native.Nat.{◌<◌}
use borrow.Author.Rules.{rules}
use lib.ListN.{length, get_or}
use Rattle.calls.specs.Answer.{count_of}
use Rattle.calls.proofs.Call.{some_cells, no_cells}
use Rattle.basket.specs.inner.Opened.{Opened}
use Rattle.basket.proofs.Answers.{has_opened, has_bars, basket_written, basket_empty}
use Rattle.basket.proofs.basket.Goals as goal
use Rattle.basket.proofs.basket.Goals.{Then-has_cells}

some : (c : Then-has_cells) → 0 < count_of c.answer_basket-due.result
some c = some_cells c.answer_basket-due.result c.has_cells.ensures c.if-has_cells.true

-- what is known where it has cells
known : (c : Then-has_cells) →
    let a = c.args in
    Opened a.series.now a.contracts.now a.weights.now (get_or a.contracts.now 0 0)
    (length a.out.now) (length a.work.now)
known c =
    let a = c.args in
    has_opened _ _ _ a.out.now a.work.now c.answer_basket-due.ensures (some c)

pub bounds-contracts-0 : goal.bounds-contracts-0
bounds-contracts-0 c =
    let shape = (known (goal.at.bounds-contracts-0 c).Then-has_cells).sized.shape in
    let five = shape.five in
    let least = shape.some in
    search rules

pub write_nets-requires : goal.write_nets-requires
write_nets-requires c =
    let a = c.args in (
      known (goal.at.write_nets-requires c).Then-has_cells,
      has_bars _ _ _ a.out.now a.work.now c.answer_basket-due.ensures
          (some (goal.at.write_nets-requires c).Then-has_cells),
    )

pub overflow_mul-bars : goal.overflow_mul-bars
overflow_mul-bars c =
    let room = (known (goal.at.overflow_mul-bars c).Then-has_cells).sized.work_long in
    search rules

pub clear-requires : goal.clear-requires
clear-requires c =
    let room = (known (goal.at.clear-requires c).Then-has_cells).sized.work_long in
    let long = c.write_nets.ensures.1.long in search rules

pub returns-then-has_cells : goal.returns-then-has_cells
returns-then-has_cells c =
    basket_written _ _ _ _ _ c.answer_basket-due.ensures (some (goal.at.returns-then-has_cells c).Then-has_cells)
    c.write_nets.ensures.0
    c.write_nets.ensures.1 c.clear.ensures

pub returns-else-has_cells : goal.returns-else-has_cells
returns-else-has_cells c =
    let answer = c.answer_basket-due in
    basket_empty _ _ _ _ _ answer.ensures (no_cells answer.result c.has_cells.ensures c.if-has_cells.false)
