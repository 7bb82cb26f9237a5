-- `end_of` meets its contract: only a run that read and wrote all can have another status than 1. Assumes nothing.
use Rattle.sheet_requests.proofs.status.end_of.Goals as goal

pub returns-in-Done : goal.returns-in-Done
returns-in-Done c = rw c.in-Done.is c.end_of_all.ensures
