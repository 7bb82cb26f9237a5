-- `answer_contract` meets its contract: the contract's numbers and its part of the series. Assumes nothing.
use mathlib.Core.Path.{◌∙◌}
use Rattle.basket.proofs.Answers.{own_of}
use Rattle.basket.proofs.table.answer_contract.Goals as goal

pub returns : goal.returns
returns c = λ weights. c.own_answer.ensures ∙ own_of c.args.bars _ _ weights c.args.k c.requires.1
