-- `tegbalowu_jurik_volty` meets its contract: it is the library's `jurik_volty`, in numbers. Assumes nothing.
use borrow.Author.Rules.{rules}
use Rattle.calls.proofs.InNumbers.{told}
use Rattle.capi.proofs.tegbalowu_jurik_volty.Goals as goal

pub returns : goal.returns
returns c = search (rules, told)
