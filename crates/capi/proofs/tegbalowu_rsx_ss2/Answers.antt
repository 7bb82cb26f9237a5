-- `tegbalowu_rsx_ss2` meets its contract: it is the library's `rsx_ss2`, in numbers. Assumes nothing.
use borrow.Author.Rules.{rules}
use Rattle.calls.proofs.InNumbers.{told}
use Rattle.capi.proofs.tegbalowu_rsx_ss2.Goals as goal

pub returns : goal.returns
returns c = search (rules, told)
