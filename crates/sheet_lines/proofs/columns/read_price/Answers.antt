-- `read_price` meets its contract: the column after the blanks
-- says on which side of zero the price lies. Assumes nothing.
use mathlib.Core.Path.{◌≡◌, sym, ◌∙◌}
use Prim.Native.Nat.{◌<◌, ◌≤◌, ◌-◌}
use native.Mathlib.Omega.{arith}
use borrow.Author.Tests.{eqb-true, eqb-false}
use lib.ListN.{length, take, drop, get_or}
use Rattle.sheet_lines.specs.Read.{read_price}
use Rattle.sheet_lines.proofs.Reading.{unpadded_short, rest_short, minus_first, plain_first, number_few}
use Rattle.sheet_lines.proofs.Signs.{few_is_float}
use Rattle.sheet_lines.proofs.columns.read_price.Goals as goal
use Rattle.sheet_lines.proofs.columns.read_price.Goals.{
  After-unpadded-columns,
  Then-columns-eq45,
  Joined-else-not-is_empty,
  else-not-is_empty-via-then-not-is_empty+else-columns-eq45,
  else-not-is_empty-via-else-not-is_empty,
}

short : (c : After-unpadded-columns) → length c.unpadded-columns.result.now ≤ 12
short c = rw c.unpadded-columns.ensures (omega (arith, unpadded_short c.args.columns.now))

-- some columns are left where the first is a minus
some : (c : Then-columns-eq45) → 0 < length c.unpadded-columns.result.now
some c =
    let full = eqb-false _ _ (sym c.is_empty.ensures ∙ c.if-not-is_empty.true) in
    omega (arith, full)

plain : (c : Joined-else-not-is_empty) →
    let columns = c.unpadded-columns.result.now in
    0 < length columns → get_or columns 0 0 ≡ 45 → ⊥
plain c h e =
    elim c.else-not-is_empty.branch [
      | else-not-is_empty-via-then-not-is_empty+else-columns-eq45 w ↦ w.if-columns-eq45.false e
      | else-not-is_empty-via-else-not-is_empty w ↦
          omega (
            arith,
            eqb-true (length c.unpadded-columns.result.now) 0
                (sym c.is_empty.ensures ∙ w.if-not-is_empty.false),
          )
    ]

pub number-requires : goal.number-requires
number-requires c =
    let few = rest_short c.unpadded-columns.result.now 12 (short (goal.at.number-requires c).After-unpadded-columns) in
    omega arith

pub returns-in_err-number : goal.returns-in_err-number
unfolding read_price
returns-in_err-number c =
    rw (
      c.from_residual.ensures,
      ← c.unpadded-columns.ensures,
      minus_first c.unpadded-columns.result.now (some (goal.at.returns-in_err-number c).Then-columns-eq45)
          c.if-columns-eq45.true,
      ← c.number.ensures,
      c.in_err-number.was,
    )

pub negative-requires : goal.negative-requires
negative-requires c =
    let columns = c.unpadded-columns.result.now in
    number_few (take (length columns - 1) (drop 1 columns)) _
    (rest_short columns 12 (short (goal.at.negative-requires c).After-unpadded-columns))
    (sym c.number.ensures ∙ c.in_ok-number.was)

pub returns-in_ok-number : goal.returns-in_ok-number
unfolding read_price
returns-in_ok-number c =
    rw (
      ← c.unpadded-columns.ensures,
      minus_first c.unpadded-columns.result.now (some (goal.at.returns-in_ok-number c).Then-columns-eq45)
          c.if-columns-eq45.true,
      ← c.number.ensures,
      c.in_ok-number.was,
      c.negative.ensures,
    )

pub number-requires-else-not-is_empty : goal.number-requires-else-not-is_empty
number-requires-else-not-is_empty c =
    let few = short (goal.at.number-requires-else-not-is_empty c).After-unpadded-columns in
    omega arith

pub returns-in_err-number-2 : goal.returns-in_err-number-2
unfolding read_price
returns-in_err-number-2 c =
    rw (
      c.from_residual-in_err-number-2.ensures,
      ← c.unpadded-columns.ensures,
      plain_first c.unpadded-columns.result.now (plain (goal.at.returns-in_err-number-2 c).Joined-else-not-is_empty),
      ← c.number-else-not-is_empty.ensures,
      c.in_err-number-2.was,
    )

pub int_to_float-result : goal.int_to_float-result
int_to_float-result c =
    few_is_float _
    (number_few c.unpadded-columns.result.now _ (short (goal.at.int_to_float-result c).After-unpadded-columns)
    (sym c.number-else-not-is_empty.ensures ∙ c.in_ok-number-2.was))

pub returns-in_ok-number-2 : goal.returns-in_ok-number-2
unfolding read_price
returns-in_ok-number-2 c =
    rw (
      ← c.unpadded-columns.ensures,
      plain_first c.unpadded-columns.result.now (plain (goal.at.returns-in_ok-number-2 c).Joined-else-not-is_empty),
      ← c.number-else-not-is_empty.ensures,
      c.in_ok-number-2.was,
    )
