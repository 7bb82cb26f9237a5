-- `answer_from_first` meets its contract: the first price is the seed, and it is tested as the others are. Assumes
-- nothing.
use Rattle.std.proofs.Common.{sym, refl, arith}
use Rattle.values.proofs.Part.{part_fails, told}
use Rattle.averages.proofs.Stages.{values_fail}
use Rattle.averages.proofs.exponential.answer_from_first.Goals as goal

pub returns-then-not-range_accepted : goal.returns-then-not-range_accepted
returns-then-not-range_accepted c =
    let s = c.args.series.now in
    values_fail s (sym (part_fails s (told c.if-not-range_accepted.true c.range_accepted.ensures) (omega arith))) refl
