-- `Coefficients::of_period` meets its contract: period 0 has no numbers, and any other has its recorded pair.
-- Assumes nothing.
use Rattle.std.proofs.Common.{◌≡◌, suc, ◌-◌, ◌∙◌, ap, arith}
use lib.Ieee.{of_bits, neg, add, sub, mul, div}
use Rattle.smoother_table.specs.Coefficients.{a1_of, a1_table, b1_of, b1_table, of_pair, coefficients}
use Rattle.smoother_table.specs.Recorded.{a1_bits, b1_bits}
use Rattle.smoother_table.proofs.Coefficients.of_period.Goals as goal

pub returns-then-period-eq0 : goal.returns-then-period-eq0
returns-then-period-eq0 c =
    unfold coefficients of_pair a1_of b1_of of_bits add sub mul div neg in rw c.if-period-eq0.true

pub returns : goal.returns
unfolding coefficients a1_of b1_of a1_table b1_table a1_bits b1_bits
returns c =
    let place : suc (c.args.period - 1) ≡ c.args.period = omega arith in
    c.of_pair.ensures ∙ ap coefficients place
