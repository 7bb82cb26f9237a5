-- `after` meets its contract: a refused request counts, and an answered one does not. Assumes nothing.
use Rattle.sheet_requests.proofs.Counts.after.Goals as goal

pub returns-in-Err : goal.returns-in-Err
returns-in-Err c = rw c.in-Err.is c.one_more.ensures
