-- `tegbalowu_basket` meets its contract: it is the library's `basket`, in numbers.
-- Assumes nothing.
use borrow.Author.Rules.{rules}
use Rattle.calls.proofs.InNumbers.{told}
use Rattle.capi.proofs.tegbalowu_basket.Goals as goal

pub returns : goal.returns
returns c = search (rules, told)
