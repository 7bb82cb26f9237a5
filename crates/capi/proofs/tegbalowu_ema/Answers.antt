-- `tegbalowu_ema` meets its contract: it is the library's `ema`, in numbers. Assumes nothing.
use borrow.Author.Rules.{rules}
use Rattle.calls.proofs.InNumbers.{told}
use Rattle.capi.proofs.tegbalowu_ema.Goals as goal

pub returns : goal.returns
returns c = search (rules, told)
