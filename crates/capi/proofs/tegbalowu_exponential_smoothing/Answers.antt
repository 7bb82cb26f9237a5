-- `tegbalowu_exponential_smoothing` meets its contract: it is the library's `exponential_smoothing`, in numbers.
-- Assumes nothing.
use borrow.Author.Rules.{rules}
use Rattle.calls.proofs.InNumbers.{told}
use Rattle.capi.proofs.tegbalowu_exponential_smoothing.Goals as goal

pub returns : goal.returns
returns c = search (rules, told)
