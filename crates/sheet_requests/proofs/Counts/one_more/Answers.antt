-- `one_more` meets its contract: the count of the desk is advanced, and no other. Assumes nothing.
use native.Mathlib.Omega.{arith}
use Rattle.sheet_requests.proofs.Desks.{desk_between}
use Rattle.sheet_requests.proofs.Counts.one_more.Goals as goal

pub overflow_sub-at : goal.overflow_sub-at
overflow_sub-at c = omega (arith, desk_between c.args.desk c.requires)

pub offset_bounds-refused-at : goal.offset_bounds-refused-at
offset_bounds-refused-at c = omega (arith, desk_between c.args.desk c.requires)

pub bounds-refused-at : goal.bounds-refused-at
bounds-refused-at c = omega (arith, desk_between c.args.desk c.requires)

pub offset_bounds-refused-at-2 : goal.offset_bounds-refused-at-2
offset_bounds-refused-at-2 c = omega (arith, desk_between c.args.desk c.requires)

pub bounds-refused-at-2 : goal.bounds-refused-at-2
bounds-refused-at-2 c = omega (arith, desk_between c.args.desk c.requires)

pub returns : goal.returns
returns c = rw c.many_more.ensures
