-- `write_means_of_row` meets its contract: each call writes on from where the one before it stopped. Assumes nothing.
use native.Mathlib.Omega.{arith}
use Rattle.cells.proofs.Written.{ends}
use Rattle.window_means.proofs.Row.{row_goes_on, row_room}
use Rattle.window_means.proofs.write_means_of_row.Goals as goal

pub returns : goal.returns
returns c =
    let room = c.requires in
    let first = c.row_side_by_side-fewer.ensures in
    let then = c.row_side_by_side-few.ensures in
    let last = c.row_side_by_side.ensures in
    let on = row_goes_on (row_room room first) then last.means (omega arith) in
    ends (row_goes_on room first on (omega arith)) (omega arith)
