-- `sign` meets its contract: a NaN is its own sign, and any other x is a number. Assumes nothing.
use Rattle.std.proofs.Common.{sym, ◌∙◌}
use Rattle.rounding.proofs.Signs.{sign_of_nan}
use Rattle.rounding.proofs.sign.Goals as goal

pub sign_of_number-requires : goal.sign_of_number-requires
sign_of_number-requires c = sym c.is_nan.ensures ∙ c.if-is_nan.false

pub returns-then-is_nan : goal.returns-then-is_nan
returns-then-is_nan c = sym (sign_of_nan _ (sym c.is_nan.ensures ∙ c.if-is_nan.true))

pub returns-else-is_nan : goal.returns-else-is_nan
returns-else-is_nan c = c.sign_of_number.ensures
