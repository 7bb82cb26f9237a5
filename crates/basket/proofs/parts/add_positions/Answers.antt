-- `add_positions` meets its contract: the rule's number picks the stage, and a window of none adds nothing. Assumes
-- nothing.
use mathlib.Core.Path.{◌≡◌, refl}
use Prim.Native.Nat.{ℕ, ◌+◌, ◌-◌}
use native.Mathlib.Omega.{arith}
use Rattle.cells.proofs.Touched.{untouched, touched_more}
use Rattle.basket.specs.Basket.{Contract}
use Rattle.basket.specs.inner.Opened.{contract_of}
use Rattle.basket.proofs.Own.{double_ready, double_all, afresh_ready, afresh_all, flat_all}
use Rattle.basket.proofs.parts.add_positions.Goals as goal
use Rattle.basket.proofs.parts.add_positions.Goals.{Start}

-- the contract of these arguments
abbrev own : Start → Contract
own c =
    let a = c.args.contract.now in
    contract_of a.prices.now a.rule a.n a.m (a.row + 1) a.weight

-- and its row
row_is : (row : ℕ) → row + 1 - 1 ≡ row
row_is row = omega arith

pub add_double-requires : goal.add_double-requires
add_double-requires c =
    let r = c.requires.0 in
    let some = r.some in
    double_ready (own (goal.at.add_double-requires c).Start) c.if-contract-eq2.true r c.requires.1 (omega arith)

pub add_parts-requires : goal.add_parts-requires
add_parts-requires c =
    let r = c.requires.0 in
    let some = r.some in
    afresh_ready (own (goal.at.add_parts-requires c).Start) c.if-contract-eq2.false r c.requires.1 (omega arith)
    c.if-contract-gt0.true

pub returns-then-contract-eq2 : goal.returns-then-contract-eq2
returns-then-contract-eq2 c =
    record {
      cells = rw (row_is c.args.contract.now.row)
          (double_all (own (goal.at.returns-then-contract-eq2 c).Start) c.if-contract-eq2.true c.add_double.ensures.0);
      work = touched_more c.add_double.ensures.1 (omega arith);
      block = refl;
    }

pub returns-then-contract-gt0 : goal.returns-then-contract-gt0
returns-then-contract-gt0 c =
    record {
      cells = rw (row_is c.args.contract.now.row)
          (afresh_all (own (goal.at.returns-then-contract-gt0 c).Start) c.if-contract-eq2.false c.requires.0
          c.if-contract-gt0.true c.add_parts.ensures.cells);
      work = touched_more c.add_parts.ensures.work (omega arith);
      block = c.add_parts.ensures.block;
    }

pub returns-else-contract-gt0 : goal.returns-else-contract-gt0
returns-else-contract-gt0 c =
    record {
      cells = flat_all (own (goal.at.returns-else-contract-gt0 c).Start) c.if-contract-eq2.false c.requires.0
          (omega arith);
      work = untouched;
      block = refl;
    }
