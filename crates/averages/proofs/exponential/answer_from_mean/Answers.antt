-- `answer_from_mean` meets its contract: the seed is the mean of the first bars, which are tested as the others are.
-- Assumes nothing.
use Rattle.std.proofs.Common.{◌-◌, ◌+◌, ◌≡◌, sym, refl, arith}
use lib.Ieee.{of_bits}
use Rattle.cells.specs.Line.{line}
use Rattle.values.proofs.Part.{part_fails}
use Rattle.windows.proofs.Window.{mean_of}
use Rattle.averages.proofs.Stages.{values_fail}
use Rattle.averages.proofs.exponential.answer_from_mean.Goals as goal

pub answer_smooth-requires : goal.answer_smooth-requires
answer_smooth-requires c =
    let n = c.args.n in
    let whole : n - 1 + 1 ≡ n = omega arith in
    (record { inside = omega arith; accept = rw whole c.in-Ok.ensures.accept }, c.requires.room)

pub returns-in_default : goal.returns-in_default
returns-in_default c =
    let s = c.args.series.now in
    values_fail s (sym (part_fails s c.in_default.ensures.accept c.requires.inside)) refl

pub returns : goal.returns
unfolding of_bits
returns c =
    let a = c.args in
    let seed = mean_of a.n (a.n - 1) (line a.series.now) c.in-Ok.ensures.sum (omega arith) in
    rw (← seed) c.answer_smooth.ensures
