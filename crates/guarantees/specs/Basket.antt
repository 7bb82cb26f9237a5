-- Baskets. In an answered call the groups add up to the whole, at every bar. Neither the order of the contracts nor
-- their groups move the whole. No cell needs a later bar. A contract's positions are the cells of its own call. Assumes
-- nothing.
use Rattle.std.specs.Prelude.{◌≡◌, ℤ, pos, ◌+ℤ◌, ◌*ℤ◌, length, get_or, Float, Ok}
use Rattle.std.proofs.Math.Path.{refl}
use Rattle.std.proofs.Common.{sym, ap, ◌∙◌, arith}
use Rattle.std.proofs.Math.Logic.{∥∥₁_elim}
use mathlib.Core.List.Perm
use mathlib.Core.List.{List, [], ◌∷◌, map, Perm}
use Prim.Native.Nat.{ℕ, zero, suc, ◌+◌, ◌*◌, ◌<◌, ◌≤◌}
use Rattle.std.proofs.Math.Nat.{ℕ_set}
use borrow.Author.Tests.{ne_eqb}
use Rattle.std.proofs.Math.Dec.{eqb}
use Rattle.std.proofs.Math.IntN.{ℤ_set}
use Rattle.std.specs.Float.{nan}
use Rattle.values.specs.Accepted.{accepted}
use Rattle.cells.specs.Line.{Line, line}
use Rattle.calls.specs.Answer.{Answer, count_of, first, answered}
use Rattle.calls.specs.Call.{Call}
use Rattle.calls.proofs.Cells.{cell_at}
use Rattle.rules_single.specs.Single.{SingleCall}
use Rattle.rules_double.specs.Double.{DoubleCall}
use Rattle.rules_middle.specs.Middle.{MidCall}
use Rattle.rules.specs.Position.{whole_position}
use Rattle.basket.specs.Basket.{
  Contract,
  groups,
  rows,
  own_answer,
  own_line,
  position_of,
  contract_at,
  contracts_of,
  BasketCall,
}
use Rattle.basket.proofs.Rows.{row_net, some_contract, has_group, has_bars, has_answer}
use Rattle.basket.proofs.Groups.{groups_net, groups_net_lem}
use Rattle.basket.proofs.Orders.{net_any_order, row_any_order, changed_net, same_bars}
use Rattle.basket.proofs.Causal.{Alike, same_position, alike_row}
use Rattle.basket.proofs.Positions.{afresh_own, double_own, position_below, position_after_lem}
use Rattle.guarantees.specs.NoLookAhead.{EqualBars}

-- a call of `basket` with these slices was answered, and `out` is its output at exit
pub record Answered (series : List Float) (table : List ℕ) (weights out : List ℤ) : Type 0 where
  pub count : ℕ
  pub out_before : List ℤ
  pub work_before : List Float
  pub work_after : List Float
  pub call : BasketCall series table weights out_before work_before (Ok count) out work_after

-- the cell of bar j in row r, with l bars in each row: row g - 1 is that of group g, and row 32 that of the whole
abbrev pub row_cell : ℕ → List ℤ → ℕ → ℕ → ℤ
row_cell l out r j = get_or out (r * l + j) (pos 0)

-- ---- the groups add up to the whole

-- the cells of bar j in the first k rows, added up
abbrev pub rows_total : ℕ → List ℤ → ℕ → ℕ → ℤ
rows_total l out zero j = pos 0
rows_total l out (suc k) j = rows_total l out k j +ℤ row_cell l out k j

module _ {series : List Float} {table : List ℕ} {weights out : List ℤ} (a : Answered series table weights out) where
  total : (k j : ℕ) → k ≤ groups → j < first table
      → rows_total (first table) out k j ≡ groups_net k (contracts_of (first table) series table weights) j
  unfolding groups_net
  total zero j h u = refl
  total (suc k) j h u =
      let before : eqb k groups ≡ _ = ne_eqb k groups (λ (e : k ≡ groups). omega arith) in
      rw (total k j (omega arith) u, row_net series table weights a.call k j (omega arith) u, before)

  pub groups_add_up : (j : ℕ) → j < first table
      → rows_total (first table) out groups j ≡ row_cell (first table) out groups j
  groups_add_up j u =
      total groups j (omega arith) u
      ∙ groups_net_lem (length weights) (contract_at (first table) series table weights) j
      (has_group series table weights a.call)
      ∙ sym (row_net series table weights a.call groups j (omega arith) u)

-- ---- however listed and grouped

-- a contract without its group
abbrev pub ungrouped : Contract → Contract
ungrouped c = record { prices = c.prices; rule = c.rule; n = c.n; m = c.m; group = 0; weight = c.weight }

ungrouped_part : (j : ℕ) (c : Contract)
    → (ungrouped c).weight *ℤ position_of (ungrouped c) j ≡ c.weight *ℤ position_of c j
unfolding position_of own_answer own_line
ungrouped_part j c = refl

module _ {series series' : List Float} {table table' : List ℕ} {weights weights' out out' : List ℤ}
    (a : Answered series table weights out) (a' : Answered series' table' weights' out') where
  -- the same contracts but for their groups, in any order: as many bars, and the same whole
  module _ (p : Perm (map ungrouped (contracts_of (first table) series table weights))
      (map ungrouped (contracts_of (first table') series' table' weights'))) where
    pub same_length : first table ≡ first table'
    same_length =
        ∥∥₁_elim p (ℕ_set _ _) (λ d.
        same_bars ungrouped (λ c. refl) (length weights) (length weights')
        (contract_at (first table) series table weights) (contract_at (first table') series' table' weights')
        (some_contract series' table' weights' a'.call) (has_bars series table weights a.call)
        (has_bars series' table' weights' a'.call) d)

    pub whole_in_any_order : (j : ℕ) → j < first table
        → row_cell (first table) out groups j ≡ row_cell (first table') out' groups j
    whole_in_any_order j u =
        let long = same_length in
        row_net series table weights a.call groups j (omega arith) u
        ∙ sym (changed_net ungrouped j (ungrouped_part j) (contracts_of (first table) series table weights))
        ∙ ∥∥₁_elim p (ℤ_set _ _) (net_any_order j)
        ∙ changed_net ungrouped j (ungrouped_part j) (contracts_of (first table') series' table' weights')
        ∙ sym (row_net series' table' weights' a'.call groups j (omega arith) (omega arith))

  -- with the same groups, the same cells in every row
  pub rows_in_any_order : Perm (contracts_of (first table) series table weights)
      (contracts_of (first table') series' table' weights') → (r j : ℕ) → r < rows → j < first table
      → row_cell (first table) out r j ≡ row_cell (first table') out' r j
  rows_in_any_order p r j h u =
      let long = same_length (Perm.map ungrouped p) in
      row_net series table weights a.call r j h u
      ∙ ∥∥₁_elim p (ℤ_set _ _) (row_any_order j r)
      ∙ sym (row_net series' table' weights' a'.call r j h (omega arith))

-- ---- no look-ahead

-- two contracts that differ at most in their bars after bar b
pub record EqualUpTo (b : ℕ) (c d : Contract) : Type 0 where
  pub rule : c.rule ≡ d.rule
  pub n : c.n ≡ d.n
  pub m : c.m ≡ d.m
  pub group : c.group ≡ d.group
  pub weight : c.weight ≡ d.weight
  pub bars : EqualBars c.prices d.prices b

alike : {c d : Contract} {b : ℕ} (j : ℕ) → EqualUpTo b c d → j ≤ b → own_answer c ≡ Ok (count_of (own_answer c))
    → own_answer d ≡ Ok (count_of (own_answer d)) → Alike j c d
alike {c} {d} {b} j e h p q =
    record {
      group = e.group;
      part =
          ap (λ (w : ℤ). w *ℤ position_of c j) e.weight
          ∙ ap (λ (x : ℤ). d.weight *ℤ x)
          (same_position c d b e.rule e.n e.m e.bars.left e.bars.right e.bars.same _ _ p q j h);
    }

-- Two answered calls with as many contracts, each equal up to bar b: equal cells up to it, in every row. The calls may
-- have different lengths.
module _ {series series' : List Float} {table table' : List ℕ} {weights weights' out out' : List ℤ} {b : ℕ}
    (a : Answered series table weights out) (a' : Answered series' table' weights' out')
    (many : length weights ≡ length weights')
    (equal : (i : ℕ) → i < length weights
    → EqualUpTo b (contract_at (first table) series table weights i)
    (contract_at (first table') series' table' weights' i))
  where
    inside : (b < first table) × (b < first table')
    inside =
        let some = some_contract series table weights a.call in
        let one = (equal 0 some).bars in
        let left = one.left in
        let right = one.right in
        let long = has_bars series table weights a.call 0 some in
        let long' = has_bars series' table' weights' a'.call 0 (omega arith) in
        (omega arith, omega arith)

    pub basket_no_look_ahead : (r j : ℕ) → r < rows → j ≤ b
        → row_cell (first table) out r j ≡ row_cell (first table') out' r j
    basket_no_look_ahead r j h u =
        let (left, right) = inside in
        row_net series table weights a.call r j h (omega arith)
        ∙ alike_row j r (length weights) (contract_at (first table) series table weights)
        (contract_at (first table') series' table' weights') (λ i v.
        alike j (equal i v) u (has_answer series table weights a.call i v)
        (has_answer series' table' weights' a'.call i (omega arith)))
        ∙ (rw many (sym (row_net series' table' weights' a'.call r j h (omega arith))))

-- ---- a contract's positions are the cells of its own call

-- at each bar below that call's count the whole number of its cell, and flat from the count on
pub record HasPositions (c : Contract) (count : ℕ) (out : List Float) : Type 0 where
  pub cells : (j : ℕ) → j < count → position_of c j ≡ whole_position (line out j)
  pub flat : (j : ℕ) → count ≤ j → position_of c j ≡ pos 0

module _ (c : Contract) {out₀ out₁ : List Float} {k : ℕ} where
  has_positions : {due : Answer} {f : Line} → Call due f out₀ (Ok k) out₁ → own_line c ≡ f
      → (own_answer c ≡ Ok k) × (k ≤ length out₀) → HasPositions c k out₁
  has_positions call is (e, h) =
      record {
        cells = λ j u.
            position_below c e j u ∙ ap (λ (f : Line). whole_position (f j)) is
            ∙ ap whole_position (sym (cell_at nan call h j u));
        flat = position_after_lem c e;
      }

  pub double_positions : c.rule ≡ 2 → DoubleCall c.prices c.n c.m out₀ (Ok k) out₁ → HasPositions c k out₁
  unfolding own_line
  double_positions e call = has_positions call (rw e) (double_own c (length out₀) k e (sym call.answer))

  afresh_positions : (work : ℕ) {f : Line}
      → Call (answered accepted c.prices (c.n ∷ []) (length out₀) (work ∷ [])) f out₀ (Ok k) out₁
      → own_line c ≡ f → (c.rule ≡ 2 → ⊥) → HasPositions c k out₁
  afresh_positions work call is other =
      has_positions call is (afresh_own c (length out₀) k work other (sym call.answer))

  module _ {work₀ work₁ : List Float} where
    pub single_positions : c.rule ≡ 1 → SingleCall c.prices c.n out₀ work₀ (Ok k) out₁ work₁
        → HasPositions c k out₁
    unfolding own_line
    single_positions e call =
        afresh_positions (length work₀) call.call (rw e) (λ (f : c.rule ≡ 2). omega arith)

    pub mid_positions : c.rule ≡ 3 → MidCall c.prices c.n out₀ work₀ (Ok k) out₁ work₁
        → HasPositions c k out₁
    unfolding own_line
    mid_positions e call = afresh_positions (length work₀) call.call (rw e) (λ (f : c.rule ≡ 2). omega arith)
