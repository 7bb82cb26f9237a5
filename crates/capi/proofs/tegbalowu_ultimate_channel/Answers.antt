-- `tegbalowu_ultimate_channel` meets its contract: it is the library's `ultimate_channel`, in numbers. Assumes nothing.
use Rattle.calls.proofs.InNumbers.{told}
use Rattle.capi.proofs.tegbalowu_ultimate_channel.Goals as goal

pub returns : goal.returns
returns c =
    let first = c.supplied_close-first.ensures in
    told (rw first at c.ultimate_channel.ensures) c.numbers.ensures
