-- `tegbalowu_rolling_rank` meets its contract: it is the library's `rolling_rank`, in numbers. Assumes nothing.
use borrow.Author.Rules.{rules}
use Rattle.calls.proofs.InNumbers.{told}
use Rattle.capi.proofs.tegbalowu_rolling_rank.Goals as goal

pub returns : goal.returns
returns c = search (rules, told)
