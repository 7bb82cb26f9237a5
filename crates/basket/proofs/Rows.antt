-- What is known of an answered call of a basket: its cells, row by row, and each of its contracts. Assumes nothing.
use mathlib.Core.Path.{◌≡◌, sym, ◌∙◌}
use mathlib.Core.List.{List}
use Prim.Native.Nat.{ℕ, ◌+◌, ◌*◌, ◌/◌, ◌%◌, ◌<◌, ◌≤◌}
use native.Mathlib.Nat.{mul-add-div_right, div-eq_of_lt, mul-add-mod_self_right, mod-eq_of_lt, mul-le-mul_right}
use native.Mathlib.Omega.{arith}
use lib.IntN.{ℤ, pos}
use lib.ListN.{length, get_or, length-take, length-drop}
use lib.Ieee.{Float}
use Rattle.std.specs.Prelude.{Ok}
use Rattle.calls.specs.Answer.{count_of, first}
use Rattle.calls.proofs.Cells.{cell_at}
use Rattle.basket.specs.Basket.{
  groups,
  rows,
  own_answer,
  net,
  of_row,
  net_line,
  contract_at,
  contracts_of,
  BasketCall,
}
use Rattle.basket.specs.inner.Opened.{Opened}
use Rattle.basket.proofs.Answers.{first_is, part_inside, basket_opened, basket_count}

module _ (series : List Float) (table : List ℕ) (weights : List ℤ) {out₀ out₁ : List ℤ} {work₀ work₁ : List Float}
    {k : ℕ}
    (call : BasketCall series table weights out₀ work₀ (Ok k) out₁ work₁) where
  known : Opened series table weights (first table) (length out₀) (length work₀)
  known =
      rw (first_is series table weights)
      (basket_opened series table weights (length out₀) (length work₀) k (sym call.call.answer))

  count : k ≡ rows * first table
  count =
      rw (first_is series table weights)
      (basket_count series table weights (length out₀) (length work₀) k (sym call.call.answer))

  -- the cell of bar j in row r
  pub row_net : (r j : ℕ) → r < rows → j < first table
      → get_or out₁ (r * first table + j) (pos 0) ≡ net (of_row r (contracts_of (first table) series table weights)) j
  unfolding net_line
  row_net r j h u =
      let l = first table in
      let room = known.sized.out_long in
      let cells = count in
      let most = mul-le-mul_right l h in
      let row : (r * l + j) / l ≡ r = mul-add-div_right (omega arith) r j ∙ (rw (div-eq_of_lt u) (omega arith)) in
      let bar : (r * l + j) % l ≡ j = mul-add-mod_self_right r l j ∙ mod-eq_of_lt u in
      cell_at (pos 0) call.call (omega arith) (r * l + j) (omega arith) ∙ (rw (row, bar))

  -- there are contracts, and each has a group and as many bars as the others, and is answered
  pub some_contract : 0 < length weights
  some_contract = known.sized.shape.some

  module _ (i : ℕ) (h : i < length weights) where
    pub has_group : let c = contract_at (first table) series table weights i in (0 < c.group) × (c.group ≤ groups)
    has_group = let c = known.each i h in (c.some, c.row)

    pub has_bars : length (contract_at (first table) series table weights i).prices ≡ first table
    unfolding contract_at
    has_bars = let inside = part_inside i known.sized h in simp (length-take, length-drop) (omega arith)

    pub has_answer : let c = contract_at (first table) series table weights i in
        own_answer c ≡ Ok (count_of (own_answer c))
    has_answer = (known.each i h).answered
