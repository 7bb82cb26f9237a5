-- `answer_contracts` meets its contract: each turn takes one contract, and the first refusal ends it. Assumes nothing.
use Rattle.std.proofs.Common.{◌≡◌, Err, sym, ◌∙◌}
use native.Mathlib.Omega.{arith}
use borrow.Author.Rules.{rules}
use Rattle.basket.proofs.Answers.{part_inside, none_answered, one_answered, one_refused, all_answered}
use Rattle.basket.proofs.table.answer_contracts.Goals as goal

pub loop-k-init : goal.loop-k-init
loop-k-init c = (omega arith, none_answered _ _ _)

pub answer_contract-requires : goal.answer_contract-requires
answer_contract-requires c = let inside = part_inside c.loop-k.k c.requires c.loop-k-test.true in
    omega arith

pub returns-in_err-answer_contract : goal.returns-in_err-answer_contract
returns-in_err-answer_contract c =
    let given : c.answer_contract.result ≡ Err c.in_err-answer_contract.field-0.0 = c.in_err-answer_contract.was in
    let stop : c.from_residual.result ≡ Err c.in_err-answer_contract.field-0.0 = search rules in
    stop ∙ sym given
    ∙ one_refused c.loop-k.invariant.1 (c.answer_contract.ensures _) given c.loop-k-test.true

pub loop-k-preserved : goal.loop-k-preserved
loop-k-preserved c = (
  omega arith,
  one_answered c.loop-k.invariant.1 (c.answer_contract.ensures _) c.in_ok-answer_contract.was c.loop-k-test.true,
)

pub overflow_mul-result : goal.overflow_mul-result
overflow_mul-result c = let room = c.requires.out_long in search rules

pub returns : goal.returns
returns c = all_answered c.loop-k.invariant.1 c.loop-k-test.false
