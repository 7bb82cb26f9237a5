-- `tegbalowu_holt_winters` meets its contract: it is the library's `holt_winters`, in numbers. Assumes nothing.
use borrow.Author.Rules.{rules}
use Rattle.calls.proofs.InNumbers.{told}
use Rattle.capi.proofs.tegbalowu_holt_winters.Goals as goal

pub returns : goal.returns
returns c = search (rules, told)
