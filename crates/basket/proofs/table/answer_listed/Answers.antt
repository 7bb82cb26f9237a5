-- `answer_listed` meets its contract: each refusal stands where its test fails. Assumes nothing.
use native.Mathlib.Omega.{arith}
use borrow.Author.Rules.{rules}
use Rattle.basket.proofs.Answers.{not_whole, no_output, no_work, weights_next, is_sized}
use Rattle.basket.proofs.table.answer_listed.Goals as goal

pub bounds-contracts-0 : goal.bounds-contracts-0
bounds-contracts-0 c = omega (arith, c.requires.some)

pub bounds-contracts-0-2 : goal.bounds-contracts-0-2
bounds-contracts-0-2 c = let some = c.requires.some in search rules

pub all_as_long-requires : goal.all_as_long-requires
all_as_long-requires c = let five = c.requires.five in search rules

pub makes_up-requires : goal.makes_up-requires
makes_up-requires c = c.requires.some

pub returns-then-bars-out : goal.returns-then-bars-out
returns-then-bars-out c =
    no_output _ _ _ _ _ c.all_as_long.ensures c.makes_up.ensures c.if-all_as_long-makes_up.true
    c.if-bars-out.true

pub returns-then-bars-work : goal.returns-then-bars-work
returns-then-bars-work c =
    no_work _ _ _ _ _ c.all_as_long.ensures c.makes_up.ensures c.if-all_as_long-makes_up.true
    c.if-bars-out.false
    c.if-bars-work.true

pub answer_contracts-requires : goal.answer_contracts-requires
answer_contracts-requires c =
    is_sized _ _ _ _ _ c.all_as_long.ensures c.makes_up.ensures c.if-all_as_long-makes_up.true
    c.if-bars-out.false c.if-bars-work.false c.requires

pub returns-then-all_light : goal.returns-then-all_light
returns-then-all_light c =
    weights_next _ _ _ _ _ c.all_as_long.ensures c.makes_up.ensures c.if-all_as_long-makes_up.true
    c.if-bars-out.false c.if-bars-work.false c.all_light.ensures
    (rw c.if-all_light.true c.answer_contracts.ensures)

pub returns-then-all_as_long-makes_up : goal.returns-then-all_as_long-makes_up
returns-then-all_as_long-makes_up c =
    weights_next _ _ _ _ _ c.all_as_long.ensures c.makes_up.ensures c.if-all_as_long-makes_up.true
    c.if-bars-out.false c.if-bars-work.false c.all_light.ensures (rw c.if-all_light.false)

pub returns : goal.returns
returns c = not_whole _ _ _ _ _ c.all_as_long.ensures c.makes_up.ensures c.if-all_as_long-makes_up.false
