-- `tegbalowu_true_range` meets its contract: it is the library's `true_range`, in numbers. Assumes nothing.
use Rattle.calls.proofs.InNumbers.{told}
use Rattle.capi.proofs.tegbalowu_true_range.Goals as goal

pub returns : goal.returns
returns c = told (rw c.supplied_close-first.ensures at c.true_range.ensures) c.numbers.ensures
