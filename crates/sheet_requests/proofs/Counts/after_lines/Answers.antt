-- `after_lines` meets its contract: so many lines more. Assumes nothing.
use Rattle.sheet_requests.proofs.Counts.after_lines.Goals as goal

pub returns : goal.returns
returns c = rw c.many_more.ensures
