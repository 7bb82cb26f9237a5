-- Cells added to the rows of an output. Assumes nothing.
use Rattle.std.specs.Prelude.{◌≡◌, Bool, cond, ◌&&◌, ◌||◌, List, ℕ, ◌+◌, ◌*◌, ◌<◌, ◌≤◌, leb, ltb, eqb, ℤ, pos, nat_abs, ◌+ℤ◌, length, get_or, take}
use Rattle.cells.specs.inner.Touched.{Touched}
use Rattle.basket.specs.Basket.{groups, rows, largest_weight}

-- what a cell may hold before the last contract is added
abbrev pub largest_so_far : ℕ
largest_so_far = 31000

-- ---- one row

-- the cells a to a + k - 1 of the output, so many positions from place `from` on, and cells that are not too large
pub record RowRoom (a k from positions : ℕ) (weight : ℤ) (out : List ℤ) : Type 0 where
  pub inside : a + k ≤ length out
  pub there : from + k ≤ positions
  pub light : nat_abs weight ≤ largest_weight
  pub small : (j : ℕ) → j < k → nat_abs (get_or out (a + j) (pos 0)) ≤ largest_so_far

-- x j is added to the cell a + j for each j below k, and all other cells stay
pub record Added (a k : ℕ) (x : ℕ → ℤ) (old now : List ℤ) : Type 0 where
  pub inside : (j : ℕ) → j < k → get_or now (a + j) (pos 0) ≡ get_or old (a + j) (pos 0) +ℤ x j
  pub before : take a now ≡ take a old
  pub rest : Touched (a + k) old now

-- ---- a group's row and the last, of l bars each

-- the cell of bar j in row r
abbrev pub cell_at : ℕ → List ℤ → ℕ → ℕ → ℤ
cell_at l s r j = get_or s (r * l + j) (pos 0)

-- from bar b on no cell is too large for one more contract
pub record Light (l b : ℕ) (now : List ℤ) : Type 0 where
  pub cells : (r j : ℕ) → r < rows → b ≤ j → j < l → nat_abs (cell_at l now r j) ≤ largest_so_far

-- a bar from b to e - 1
abbrev pub between : ℕ → ℕ → ℕ → Bool
between b e j = leb b j && ltb j e

-- x j is added at the bars j from b to e - 1 in row q and in the last, and all other cells stay
pub record RowsAdded (l q b e : ℕ) (x : ℕ → ℤ) (old now : List ℤ) : Type 0 where
  pub cells : (r j : ℕ) → r < rows → j < l
      → cell_at l now r j ≡ cell_at l old r j +ℤ cond ((eqb r q || eqb r groups) && between b e j) (x j) (pos 0)
  pub rest : Touched (rows * l) old now

-- bars b to e - 1, whose positions are there from bar `begin` on
pub record BarsRoom (l q b e begin positions : ℕ) (weight : ℤ) (out : List ℤ) : Type 0 where
  pub row : q < groups
  pub order : b ≤ e
  pub inside : e ≤ l
  pub start : begin ≤ b
  pub there : e ≤ begin + positions
  pub light : nat_abs weight ≤ largest_weight
  pub room : rows * l ≤ length out
  pub small : Light l b out
