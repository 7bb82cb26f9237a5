-- `root_above_zero` meets its contract: the field of the exponent tells an infinity, a subnormal and a normal number
-- apart. Assumes nothing.
use mathlib.Core.Path.{sym, ◌∙◌, subst}
use native.Mathlib.Omega.{arith}
use lib.Dec.{T}
use lib.Ieee.{binary64, fits}
use Rattle.rounding_root.proofs.Patterns.{infinite, subnormal, normal}
use Rattle.rounding_root.proofs.root_above_zero.Goals as goal
use Rattle.rounding_root.proofs.root_above_zero.Goals.{Start}

-- what owning an f64 tells: the format holds it
held : (c : Start) → T (fits binary64 c.args.x)
held c = subst T (sym c.well_formed.0.1) tt

pub returns-then-field-eq2047 : goal.returns-then-field-eq2047
returns-then-field-eq2047 c =
    infinite _ (held (goal.at.returns-then-field-eq2047 c).Start) c.requires c.if-field-eq2047.true

pub root_of_subnormal-requires : goal.root_of_subnormal-requires
root_of_subnormal-requires c =
    ((subnormal _ (held (goal.at.root_of_subnormal-requires c).Start) c.requires c.if-field-eq0.true).0, omega arith)

pub returns-then-field-eq0 : goal.returns-then-field-eq0
returns-then-field-eq0 c =
    c.root_of_subnormal.ensures ∙ sym (subnormal _ (held (goal.at.returns-then-field-eq0 c).Start) c.requires
    c.if-field-eq0.true).1

pub returns : goal.returns
returns c =
    c.root_of.ensures ∙ sym (normal _ (held (goal.at.returns c).Start) c.requires c.if-field-eq0.false
    c.if-field-eq2047.false)
