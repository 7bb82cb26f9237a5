-- `finish` meets its contract: after a failed read or write nothing is printed. Assumes nothing.
use Rattle.sheet_requests.proofs.closing.finish.Goals as goal

pub returns-in-Done : goal.returns-in-Done
returns-in-Done c = rw c.in-Done.is c.print_end.ensures
