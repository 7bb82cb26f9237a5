-- `index_at` meets its contract: too few changes, none needed, or the sums of those that count. Assumes nothing.
use mathlib.Core.Path.{◌∙◌}
use native.Mathlib.Omega.{arith}
use borrow.Author.Rules.{rules}
use lib.Ieee.{of_bits, div}
use Rattle.cells.specs.Line.{line}
use Rattle.windows.specs.Window.{mean}
use Rattle.windows.proofs.Window.{count_is_float}
use Rattle.rules_rsi.proofs.Index.{changes_before_lem, index_is, too_few, none_needed}
use Rattle.rules_rsi.proofs.Rows.{either_gains, either_losses, sum_at}
use Rattle.rules_rsi.proofs.bar.index_at.Goals as goal

pub returns-then-count-n : goal.returns-then-count-n
returns-then-count-n c = unfold of_bits div in too_few _ _ _ (omega arith)

pub returns-then-count-eq0 : goal.returns-then-count-eq0
returns-then-count-eq0 c = unfold of_bits in none_needed _ _ _ (omega arith) (omega arith)

pub sum_at-up-requires : goal.sum_at-up-requires
sum_at-up-requires c = let a = c.args in search (rules, changes_before_lem a.n a.i)

pub sum_at-down-requires : goal.sum_at-down-requires
sum_at-down-requires c =
    let a = c.args in
    search (rules, changes_before_lem a.n a.i)

pub int_to_float-count : goal.int_to_float-count
int_to_float-count c =
    let a = c.args in
    count_is_float _ (omega (arith, changes_before_lem a.n a.i))

pub returns : goal.returns
returns c =
    let a = c.args in
    let rows = c.requires.changed in
    let count = c.changes_before-count.ensures in
    let g = mean a.n (line a.series.now) in
    let up = rw count at c.sum_at-up.ensures ∙ sum_at rows.up (either_gains g) a.n a.i (omega arith) in
    let down = rw count at c.sum_at-down.ensures
    ∙ sum_at rows.down (either_losses g) a.n a.i (omega arith) in
    c.index_by.ensures ∙ rw count (index_is a.n a.i g up down (omega arith))
