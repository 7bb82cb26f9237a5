-- basket: contracts of equal length with weights, and their net position at every bar, by group and in all. Assumes
-- nothing.
use Rattle.std.specs.Prelude.{Bool, cond, ◌&&◌, List, [], ◌∷◌, ℕ, suc, ◌+◌, ◌*◌, ◌/◌, ◌%◌, leb, ltb, eqb, ℤ, pos, nat_abs, ◌+ℤ◌, ◌*ℤ◌, length, get_or, take, drop, Float, Ok}
use Rattle.values.specs.Accepted.{all}
use Rattle.cells.specs.Line.{Line, line}
use Rattle.cells.specs.Shown.{first_cells}
use Rattle.calls.specs.declared.Refusal.TheVariants.{
  LengthsDiffer,
  OutputTooShort,
  WorkTooShort,
  BrokenLine,
  WeightTooLarge,
}
use Rattle.calls.specs.Answer.{Answer, count_of, unless, and_then, first}
use Rattle.calls.specs.Call.{WorkCall}
use Rattle.rules.specs.ByNumber.{is_rule}
use Rattle.rules.specs.ByNumber.{answer_by_rule, line_by_rule}
use Rattle.rules.specs.Position.{whole_position}

-- the most contracts of a basket, its groups, and the largest weight either way; src/lib.rt has constants of these and
-- of the rows
abbrev pub most_contracts : ℕ
most_contracts = 32

abbrev pub groups : ℕ
groups = 32

abbrev pub largest_weight : ℕ
largest_weight = 1000

-- the rows of an output: one for each group, and one for the whole
abbrev pub rows : ℕ
rows = 33

-- ---- a contract

pub record Contract : Type 0 where
  pub prices : List Float
  pub rule : ℕ
  pub n : ℕ
  pub m : ℕ
  pub group : ℕ
  pub weight : ℤ

-- what a call of its rule alone answers, with an output and a work slice that are long enough
unfoldable pub own_answer : Contract → Answer
own_answer c = answer_by_rule c.rule c.n c.m c.prices (length c.prices) (8 * length c.prices)

-- the line of that call's cells
unfoldable pub own_line : Contract → Line
own_line c = line_by_rule c.rule c.n c.m (line c.prices)

-- its position at bar j, as a whole number; flat where that call has no cell
unfoldable pub position_of : Contract → ℕ → ℤ
position_of c j = cond (ltb j (count_of (own_answer c))) (whole_position (own_line c j)) (pos 0)

-- ---- nets

-- the sum of weight times position at bar j
unfoldable pub net : List Contract → ℕ → ℤ
net [] j = pos 0
net (c ∷ cs) j = c.weight *ℤ position_of c j +ℤ net cs j

-- the contracts of group g
unfoldable pub of_group : ℕ → List Contract → List Contract
of_group g [] = []
of_group g (c ∷ cs) = cond (eqb c.group g) (c ∷ of_group g cs) (of_group g cs)

-- the contracts of row r: those of group r + 1, and after the groups all
abbrev pub of_row : ℕ → List Contract → List Contract
of_row r cs = cond (eqb r groups) cs (of_group (suc r) cs)

-- the rows one after another, with a cell for each of l bars
unfoldable pub net_line : ℕ → List Contract → ℕ → ℤ
net_line l cs i = net (of_row (i / l) cs) (i % l)

-- ---- the slices of a call

-- Contract k of those with l bars each: the series stand one after another in `series`; `table` has five numbers for
-- each contract, its length, rule, n, m and group.
unfoldable pub contract_at : ℕ → List Float → List ℕ → List ℤ → ℕ → Contract
contract_at l series table weights k =
    record {
      prices = take l (drop (k * l) series);
      rule = get_or table (5 * k + 1) 0;
      n = get_or table (5 * k + 2) 0;
      m = get_or table (5 * k + 3) 0;
      group = get_or table (5 * k + 4) 0;
      weight = get_or weights k (pos 0);
    }

-- the lengths that the table says; the first of them is L
abbrev pub lengths : List ℕ → ℕ → List ℕ
lengths table count = first_cells count (λ k. get_or table (5 * k) 0)

-- one contract for each weight, in list order
abbrev pub contracts_of : ℕ → List Float → List ℕ → List ℤ → List Contract
contracts_of l series table weights = first_cells (length weights) (contract_at l series table weights)

-- ---- the answer

-- the first contract that is refused gives its refusal
unfoldable pub each_answered : List Contract → Answer → Answer
each_answered [] next = next
each_answered (c ∷ cs) next = and_then (own_answer c) (each_answered cs next)

-- a number from 1 to `most`
abbrev pub from_one : ℕ → ℕ → Bool
from_one most k = leb 1 k && leb k most

-- 10 for another count, group or rule; then the slices, the weights and the contracts
unfoldable pub basket_answer : List Float → List ℕ → List ℤ → ℕ → ℕ → Answer
basket_answer series table weights output work =
    let count = length weights in
    let l = first table in
    let cs = contracts_of l series table weights in
    unless (from_one most_contracts count && eqb (length table) (5 * count)) BrokenLine
    (unless (all (λ c. from_one groups c.group && is_rule c.rule) cs) BrokenLine
    (unless (all (λ k. eqb k l) (lengths table count) && eqb (count * l) (length series)) LengthsDiffer
    (unless (leb (rows * l) output) OutputTooShort
    (unless (leb (8 * l) work) WorkTooShort
    (unless (all (λ c. leb (nat_abs c.weight) largest_weight) cs) WeightTooLarge
    (each_answered cs (Ok (rows * l))))))))

-- what a call of `basket` promises
abbrev pub BasketCall : List Float → List ℕ → List ℤ → List ℤ → List Float → Answer → List ℤ → List Float → Type 0
BasketCall series table weights out₀ work₀ =
    let l = first table in
    WorkCall (basket_answer series table weights (length out₀) (length work₀))
    (net_line l (contracts_of l series table weights)) out₀ l work₀
