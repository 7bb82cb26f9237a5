-- `tegbalowu_sma` meets its contract: it is the library's `sma`, in numbers. Assumes nothing.
use borrow.Author.Rules.{rules}
use Rattle.calls.proofs.InNumbers.{told}
use Rattle.capi.proofs.tegbalowu_sma.Goals as goal

pub returns : goal.returns
returns c = search (rules, told)
