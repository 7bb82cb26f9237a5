-- `take_prices` meets its contract: the lines are prices, or one of them is broken. Assumes nothing.
use native.Mathlib.Omega.{arith}
use Rattle.sheet_requests.proofs.Steps.{stops}
use Rattle.sheet_requests.proofs.blocks.take_prices.Goals as goal

pub returns-in-Some : goal.returns-in-Some
returns-in-Some c =
    let room = rw c.requires.0 at c.requires.2.room in
    let ran = c.read_prices-run.ensures in
    stops c.read_prices-run.result.at c.after_lines-counts.result c.in-Some.reason c.stop.ensures
    (λ more. rw (c.requires.0, ran.same _ more, c.in-Some.is, c.after_lines-counts.ensures)) (omega arith)
