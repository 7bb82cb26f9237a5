-- `average_start` meets its contract: by the searches for a value and for one that differs. Assumes nothing.
use lib.ListN.{length}
use mathlib.Core.Bool.{true, false}
use Rattle.cells.specs.Line.{line}
use Rattle.jurik.specs.inner.Passes.{valid_by}
use Rattle.jurik.proofs.TwoPasses.{others_differ, none_taken}
use Rattle.jurik.proofs.bar.average_start.Goals as goal

pub returns-in-Some : goal.returns-in-Some
returns-in-Some c =
    let a = c.args in
    let found = c.in-Some.ensures in
    let bars = length a.cells.now in
    let differ = others_differ (valid_by a.taken) bars (line a.cells.now) true found.1 c.other_taken.ensures
    c.if-other_taken.true in
    (found.0, found.1, differ)

pub returns-in_default : goal.returns-in_default
returns-in_default c =
    let a = c.args in
    let found = c.in-Some.ensures in
    others_differ (valid_by a.taken) (length a.cells.now) (line a.cells.now) false found.1 c.other_taken.ensures
    c.if-other_taken.false

pub returns-in_default-2 : goal.returns-in_default-2
returns-in_default-2 c =
    let a = c.args in
    none_taken (valid_by a.taken) (length a.cells.now) (line a.cells.now) c.in_default.ensures
