-- `is_period` meets its contract: each test is a part of `is_period`. Assumes nothing.
use Rattle.std.proofs.Common.{◌≡◌, true, ◌∙◌, sym, ◌^◌, arith, le→leb}
use lib.Ieee.{of_bits, in_float, le}
use Rattle.cells.specs.Line.{plus_zero}
use Rattle.smoother_table.specs.Coefficients.{power}
use Rattle.smoother_table.specs.Period.{is_period}
use Rattle.smoother_table.proofs.Period.{Cut, cut}
use Rattle.smoother_table.proofs.is_period.Goals as goal
use Rattle.smoother_table.proofs.is_period.Goals.{Then-x-2, then-x, else-x}

-- a number from 0 to 512
within : (c : Then-x-2) → (le plus_zero c.args.x ≡ true) × (le c.args.x (power 9) ≡ true)
unfolding of_bits
within c =
    elim c.if-x.branch [
      | then-x w ↦ (w.if-x.true, sym w.value-is ∙ c.if-x-2.true)
      | else-x w ↦ let h = sym w.value-is ∙ c.if-x-2.true in cc
    ]

-- what is known of it
small : (c : Then-x-2) → Cut c.args.x
small c = cut _ (within c).0 (within c).1

pub truncating_f64_to_u64-requires : goal.truncating_f64_to_u64-requires
truncating_f64_to_u64-requires c = (record { lower_bound = (small c).above; upper_bound = (small c).below })

pub int_to_float-result : goal.int_to_float-result
unfolding in_float
int_to_float-result c =
    le→leb c.truncating_f64_to_u64.result (2 ^ 53)
    (omega (arith, c.truncating_f64_to_u64.ensures, (small (goal.at.int_to_float-result c).Then-x-2).small))

pub returns-then-x-2 : goal.returns-then-x-2
unfolding is_period of_bits
returns-then-x-2 c =
    let h = within (goal.at.returns-then-x-2 c).Then-x-2 in
    simp (h.0, h.1, c.truncating_f64_to_u64.ensures)

pub returns-else-x-2 : goal.returns-else-x-2
unfolding is_period of_bits
returns-else-x-2 c =
    elim c.if-x.branch [
      | then-x w ↦ let out = sym w.value-is ∙ c.if-x-2.false in simp (c.if-x-2.false, w.if-x.true, out)
      | else-x w ↦ simp (c.if-x-2.false, w.if-x.false)
    ]
