-- `tegbalowu_rsi_reverse_positions` meets its contract: it is the library's `rsi_reverse_positions`, in numbers.
-- Assumes nothing.
use borrow.Author.Rules.{rules}
use Rattle.calls.proofs.InNumbers.{told}
use Rattle.capi.proofs.tegbalowu_rsi_reverse_positions.Goals as goal

pub returns : goal.returns
returns c = search (rules, told)
