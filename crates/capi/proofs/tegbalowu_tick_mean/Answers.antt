-- `tegbalowu_tick_mean` meets its contract: it is the library's `tick_mean`, in numbers. Assumes nothing.
use borrow.Author.Rules.{rules}
use Rattle.calls.proofs.InNumbers.{told}
use Rattle.capi.proofs.tegbalowu_tick_mean.Goals as goal

pub returns : goal.returns
returns c = search (rules, told)
