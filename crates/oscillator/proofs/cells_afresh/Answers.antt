-- `cells_afresh` meets its contract: the second call writes on from where the first one stopped. Assumes nothing.
use native.Mathlib.Omega.{arith}
use borrow.Author.Rules.{rules}
use Rattle.cells.proofs.Written.{stands, then_written, ends}
use Rattle.oscillator.proofs.cells_afresh.Goals as goal

pub write_side_by_side-requires-clause-begun : goal.write_side_by_side-requires-clause-begun
write_side_by_side-requires-clause-begun c =
    let pre = c.requires in
    let reached = c.write_side_by_side-few.ensures in
    record {
      windows = pre.windows;
      past_lead = omega (arith, pre.past_lead, reached.on);
      inside = reached.inside;
      room = search rules;
      cells = stands reached.cells;
    }

pub returns : goal.returns
returns c =
    let reached = c.write_side_by_side-few.ensures in
    let last = c.write_side_by_side.ensures in
    ends (then_written reached.cells last.cells last.on) (omega arith)
