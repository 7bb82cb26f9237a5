-- `tegbalowu_sheet_text` meets its contract: it is the library's `sheet_text`, in numbers. Assumes nothing.
use borrow.Author.Rules.{rules}
use Rattle.calls.proofs.InNumbers.{told}
use Rattle.capi.proofs.tegbalowu_sheet_text.Goals as goal

pub returns : goal.returns
returns c = search (rules, told)
