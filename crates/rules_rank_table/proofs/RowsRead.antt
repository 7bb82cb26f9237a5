-- The rows that are read, by their numbers in the slice. Assumes nothing.
use mathlib.Core.Path.{◌≡◌, refl, sym, ◌∙◌}
use mathlib.Core.List.{List, [], ◌∷◌}
use Prim.Native.Nat.{ℕ, zero, suc, ◌+◌, ◌*◌, ◌/◌, ◌<◌, min}
use native.Mathlib.Omega.{arith}
use lib.IntN.{ℤ}
use lib.ListN.{length, get_or}
use Rattle.rules_rank_table.specs.Table.{Row, first_rows, rows_read}
use Rattle.rules_rank_table.specs.Taken.{IsRead}
use Rattle.rules_rank_table.specs.inner.Stages.{row_at}

first_rows_long : (k : ℕ) (table : List ℤ) → length (first_rows k table) ≡ min k (length table / 3)
first_rows_long zero table = omega arith
first_rows_long (suc k) [] = omega arith
first_rows_long (suc k) (a ∷ []) = omega arith
first_rows_long (suc k) (a ∷ b ∷ []) = omega arith
first_rows_long (suc k) (a ∷ b ∷ p ∷ rest) = let l = first_rows_long k rest in omega arith

pub rows_long : (table : List ℤ) → length (rows_read table) ≡ min 16 (length table / 3)
unfolding rows_read
rows_long = first_rows_long 16

-- a row's numbers, three later
later : (a b p : ℤ) (rest : List ℤ) (r : ℕ) → row_at (a ∷ b ∷ p ∷ rest) (suc r) ≡ row_at rest r
later a b p rest r =
    let three : 3 * suc r ≡ suc (suc (suc (3 * r))) = omega arith in
    let four : suc (suc (suc (3 * r))) + 1 ≡ suc (suc (suc (3 * r + 1))) = omega arith in
    let five : suc (suc (suc (3 * r))) + 2 ≡ suc (suc (suc (3 * r + 2))) = omega arith in
    rw (three, four, five)

first_row_at : (k : ℕ) (table : List ℤ) (r : ℕ) (d : Row) → r < length (first_rows k table)
    → get_or (first_rows k table) r d ≡ row_at table r
first_row_at zero table r d h = let none : r < 0 = h in absurd (omega arith)
first_row_at (suc k) [] r d h = let none : r < 0 = h in absurd (omega arith)
first_row_at (suc k) (a ∷ []) r d h = let none : r < 0 = h in absurd (omega arith)
first_row_at (suc k) (a ∷ b ∷ []) r d h = let none : r < 0 = h in absurd (omega arith)
first_row_at (suc k) (a ∷ b ∷ p ∷ rest) zero d h = refl
first_row_at (suc k) (a ∷ b ∷ p ∷ rest) (suc r) d h =
    first_row_at k rest r d (let l : suc r < suc (length (first_rows k rest)) = h in omega arith)
    ∙ sym (later a b p rest r)

-- the numbers of row r
pub row_is : (table : List ℤ) (r : ℕ) (d : Row) → IsRead table r → get_or (rows_read table) r d ≡ row_at table r
unfolding rows_read
row_is table r d h = first_row_at 16 table r d (let l = first_rows_long 16 table in omega arith)
