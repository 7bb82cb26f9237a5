-- What is known of a basket that is answered, and of each of its contracts. Assumes nothing.
use Rattle.std.specs.Prelude.{◌≡◌, List, ℕ, ◌-◌, ◌*◌, ◌<◌, ◌≤◌, ℤ, nat_abs, ◌*ℤ◌, length, Float, Ok}
use Rattle.cells.specs.inner.Touched.{Touched}
use Rattle.calls.specs.Answer.{count_of}
use Rattle.basket.specs.Basket.{Contract, groups, rows, largest_weight, own_answer, position_of, contract_at}
use Rattle.basket.specs.inner.Adding.{Light, RowsAdded}
use Rattle.basket.specs.inner.Listed.{Sized}
use Rattle.basket.specs.inner.Parts.{part_bars}

-- a contract of these
abbrev pub contract_of : List Float → ℕ → ℕ → ℕ → ℕ → ℤ → Contract
contract_of prices rule n m group weight =
    record { prices = prices; rule = rule; n = n; m = m; group = group; weight = weight }

-- a contract that may be added to nets
pub record Ready (c : Contract) : Type 0 where
  pub some : 0 < c.group
  pub row : c.group ≤ groups
  pub light : nat_abs c.weight ≤ largest_weight
  pub answered : own_answer c ≡ Ok (count_of (own_answer c))

-- slices in which it may be added
pub record Lent (l : ℕ) (out : List ℤ) (block work : ℕ) : Type 0 where
  pub room : rows * l ≤ length out
  pub small : Light l 0 out
  pub block_long : part_bars ≤ block
  pub work_long : 8 * l ≤ work

-- its weight times its position was added at every bar
pub record ContractAdded (l : ℕ) (c : Contract) (out₀ out₁ : List ℤ) (block₀ block₁ work₀ work₁ : List Float) : Type 0
  where
    pub cells : RowsAdded l (c.group - 1) 0 l (λ j. c.weight *ℤ position_of c j) out₀ out₁
    pub work : Touched (8 * l) work₀ work₁
    pub block : length block₁ ≡ length block₀

-- a basket with l bars, each of whose contracts is ready
pub record Opened (series : List Float) (table : List ℕ) (weights : List ℤ) (l out work : ℕ) : Type 0 where
  pub sized : Sized series table weights l out work
  pub each : (k : ℕ) → k < length weights → Ready (contract_at l series table weights k)
