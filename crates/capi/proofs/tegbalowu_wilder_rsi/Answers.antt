-- `tegbalowu_wilder_rsi` meets its contract: it is the library's `wilder_rsi`, in numbers. Assumes nothing.
use borrow.Author.Rules.{rules}
use Rattle.calls.proofs.InNumbers.{told}
use Rattle.capi.proofs.tegbalowu_wilder_rsi.Goals as goal

pub returns : goal.returns
returns c = search (rules, told)
