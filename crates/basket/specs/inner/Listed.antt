-- The tests of a basket's slices, contract by contract. Assumes nothing.
use Rattle.std.specs.Prelude.{◌≡◌, Bool, ◌&&◌, List, ℕ, ◌+◌, ◌*◌, ◌<◌, ◌≤◌, leb, eqb, ℤ, nat_abs, length, get_or, Float, Ok}
use Rattle.values.specs.Accepted.{all}
use Rattle.calls.specs.declared.Refusal.TheVariants.{LengthsDiffer, OutputTooShort, WorkTooShort, WeightTooLarge}
use Rattle.calls.specs.Answer.{Answer, unless, first}
use Rattle.rules.specs.ByNumber.{is_rule}
use Rattle.basket.specs.Basket.{
  most_contracts,
  groups,
  largest_weight,
  rows,
  contracts_of,
  lengths,
  each_answered,
  from_one,
}

-- contract k has a group and a rule
abbrev pub listed : List ℕ → ℕ → Bool
listed table k = from_one groups (get_or table (5 * k + 4) 0) && is_rule (get_or table (5 * k + 1) 0)

-- it has l bars
abbrev pub as_long : List ℕ → ℕ → ℕ → Bool
as_long table l k = eqb (get_or table (5 * k) 0) l

-- a weight that is not too large either way
abbrev pub light : ℤ → Bool
light w = leb (nat_abs w) largest_weight

-- five numbers for each of the contracts, of which there are some and not too many
pub record Listed (table : List ℕ) (weights : List ℤ) : Type 0 where
  pub some : 0 < length weights
  pub few : length weights ≤ most_contracts
  pub five : length table ≡ 5 * length weights

-- l bars of series for each of them, and room for the nets and the work
pub record Sized (series : List Float) (table : List ℕ) (weights : List ℤ) (l out work : ℕ) : Type 0 where
  pub shape : Listed table weights
  pub whole : length weights * l ≡ length series
  pub out_long : rows * l ≤ out
  pub work_long : 8 * l ≤ work

-- the answer once each contract has a group and a rule
unfoldable pub listed_answer : List Float → List ℕ → List ℤ → ℕ → ℕ → Answer
listed_answer series table weights output work =
    let count = length weights in
    let l = first table in
    let cs = contracts_of l series table weights in
    unless (all (λ k. eqb k l) (lengths table count) && eqb (count * l) (length series)) LengthsDiffer
    (unless (leb (rows * l) output) OutputTooShort
    (unless (leb (8 * l) work) WorkTooShort
    (unless (all (λ c. light c.weight) cs) WeightTooLarge
    (each_answered cs (Ok (rows * l))))))
