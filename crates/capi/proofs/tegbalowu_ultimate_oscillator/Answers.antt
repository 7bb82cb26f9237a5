-- `tegbalowu_ultimate_oscillator` meets its contract: it is the library's own function, in numbers. Assumes nothing.
use Rattle.calls.proofs.InNumbers.{told}
use Rattle.capi.proofs.tegbalowu_ultimate_oscillator.Goals as goal

pub returns : goal.returns
returns c =
    told (rw c.supplied_close-first.ensures at c.ultimate_oscillator-answer.ensures)
    c.numbers.ensures
