-- `root_of_subnormal` meets its contract: the digits are moved up, and the exponent down. Assumes nothing.
use mathlib.Core.Path.{sym, ap, ◌∙◌}
use native.Mathlib.Omega.{arith}
use lib.Count.{count_leading_zeros}
use lib.Ieee.{binary64}
use Rattle.rounding_root.specs.Root.{nearest_root}
use Rattle.rounding_root.proofs.Shifts.{Moved, moved}
use Rattle.rounding_root.proofs.root_of_subnormal.Goals as goal
use Rattle.rounding_root.proofs.root_of_subnormal.Goals.{Start}

lifted : (c : Start) → Moved c.args.t (count_leading_zeros 64 c.args.t)
lifted c = moved c.args.t c.requires.0 c.requires.1

pub overflow_sub-zeros : goal.overflow_sub-zeros
overflow_sub-zeros c = omega (arith, lifted c)

pub overflow_add-p : goal.overflow_add-p
overflow_add-p c = omega (arith, (lifted c).digits)

pub guess-requires : goal.guess-requires
guess-requires c = omega (arith, (lifted c).digits)

pub root_of-requires : goal.root_of-requires
root_of-requires c =
    ((lifted (goal.at.root_of-requires c).Start).digits, omega (arith, lifted (goal.at.root_of-requires c).Start))

pub returns : goal.returns
returns c = c.root_of.ensures ∙ sym (ap (nearest_root binary64) (lifted (goal.at.returns c).Start).same)
