-- `tegbalowu_double_sma_ranges` meets its contract: it is the library's `double_sma_ranges`, in numbers. Assumes
-- nothing.
use borrow.Author.Rules.{rules}
use Rattle.calls.proofs.InNumbers.{told}
use Rattle.capi.proofs.tegbalowu_double_sma_ranges.Goals as goal

pub returns : goal.returns
returns c = search (rules, told)
