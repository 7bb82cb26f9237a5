-- `answer_basket` meets its contract: what is no table is refused first. Assumes nothing.
use borrow.Author.Rules.{rules}
use Rattle.basket.proofs.Answers.{not_counted, not_five, not_listed, all_listed, is_listed}
use Rattle.basket.proofs.table.answer_basket.Goals as goal

pub all_listed-requires : goal.all_listed-requires
all_listed-requires c = let five = c.if-contracts-count.true in search rules

pub answer_listed-requires : goal.answer_listed-requires
answer_listed-requires c = is_listed c.if-count.true c.if-contracts-count.true

pub returns-then-all_listed : goal.returns-then-all_listed
returns-then-all_listed c =
    all_listed _ _ _ _ _ c.if-count.true c.if-contracts-count.true c.all_listed.ensures
    c.if-all_listed.true
    c.answer_listed.ensures

pub returns-else-all_listed : goal.returns-else-all_listed
returns-else-all_listed c =
    not_listed _ _ _ _ _ c.if-count.true c.if-contracts-count.true c.all_listed.ensures c.if-all_listed.false

pub returns-else-contracts-count : goal.returns-else-contracts-count
returns-else-contracts-count c = not_five _ _ _ _ _ c.if-count.true c.if-contracts-count.false

pub returns-else-count : goal.returns-else-count
returns-else-count c = not_counted _ _ _ _ _ c.if-count.false
