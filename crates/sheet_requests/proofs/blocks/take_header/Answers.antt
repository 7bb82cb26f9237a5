-- `take_header` meets its contract: the line is a request, which has no price yet, or it is broken. Assumes nothing.
use mathlib.Core.Path.{sym, ◌∙◌}
use Prim.Native.Nat.{◌+◌}
use mathlib.Core.List.{List}
use native.Mathlib.Omega.{arith}
use lib.Ieee.{Float}
use Rattle.sheet_lines.specs.Header.{header_bytes}
use Rattle.sheet_lines.proofs.Bars.{header_small}
use Rattle.sheet_requests.specs.Sheet.{begun}
use Rattle.sheet_requests.proofs.Lines.{bytes_at, line_at}
use Rattle.sheet_requests.proofs.Strict.{header_reader}
use Rattle.sheet_requests.proofs.Steps.{Comes, stops}
use Rattle.sheet_requests.proofs.blocks.take_header.Goals as goal
use Rattle.sheet_requests.proofs.blocks.take_header.Goals.{After-read_header}

-- what the line is read as
read : (c : After-read_header) (series : List Float) →
    let a = c.args in
    let p = a.place in
    Comes a.block.now p series (begun p.sheet.counts c.read_header.result) (p.at + header_bytes)
read c series more =
    let p = c.args.place in
    rw (c.requires.0, c.read_header.ensures, bytes_at p.at header_bytes c.args.block.now)
    (line_at (header_reader p.sheet.counts) c.args.block.now more p.at c.requires.1)

pub returns-in-Err : goal.returns-in-Err
returns-in-Err c series =
    let room = rw c.requires.0 at c.requires.2.room in
    stops (c.args.place.at + header_bytes) c.args.place.sheet.counts c.in-Err.reason c.stop.ensures
    (λ more. read (goal.at.returns-in-Err c).After-read_header series more ∙ rw c.in-Err.is) (omega arith)

pub returns-in-Ok : goal.returns-in-Ok
returns-in-Ok c series =
    let small = header_small _ _ (sym c.read_header.ensures ∙ c.in-Ok.is) in
    let room = rw c.requires.0 at c.requires.2.room in
    record {
      same = λ more.
          rw (read (goal.at.returns-in-Ok c).After-read_header series more, c.in-Ok.is, c.after_lines.ensures);
      fits = (omega arith, small);
      within = omega arith;
      room = omega arith;
      forth = omega arith;
    }
