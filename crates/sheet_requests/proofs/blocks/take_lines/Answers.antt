-- `take_lines` meets its contract: the stage says what the next
-- line is, and where it is stopped nothing more is read. Assumes nothing.
use native.Mathlib.Omega.{arith}
use Rattle.sheet_requests.proofs.Lines.{outcome_stopped}
use Rattle.sheet_requests.proofs.blocks.take_lines.Goals as goal

pub take_header-requires : goal.take_header-requires
take_header-requires c =
    let enough = rw c.in-Waiting.is at c.requires.0 in
    (c.in-Waiting.is, omega arith, c.requires.1, c.requires.3)

pub returns-in-Waiting : goal.returns-in-Waiting
returns-in-Waiting c = c.take_header.ensures _

pub returns-in-Stopped : goal.returns-in-Stopped
returns-in-Stopped c =
    let told = c.in-Stopped.is in
    let enough = rw told at c.requires.0 in
    let room = rw told at c.requires.1.room in
    record {
      same = λ more. rw (told, outcome_stopped, outcome_stopped);
      fits = rw told tt;
      within = omega arith;
      room = rw told (omega (arith, c.requires.1.within));
      forth = omega arith;
    }
