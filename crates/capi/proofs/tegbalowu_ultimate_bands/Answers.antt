-- `tegbalowu_ultimate_bands` meets its contract: it is the library's `ultimate_bands`, in numbers. Assumes nothing.
use borrow.Author.Rules.{rules}
use Rattle.calls.proofs.InNumbers.{told}
use Rattle.capi.proofs.tegbalowu_ultimate_bands.Goals as goal

pub returns : goal.returns
returns c = search (rules, told)
