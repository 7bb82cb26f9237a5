-- `rows_read` meets its contract: the chunks of three are the rows. Assumes nothing.
use mathlib.Core.Path.{◌≡◌, refl, ap}
use mathlib.Core.List.{List, [], ◌∷◌, map}
use Prim.Native.Nat.{ℕ, zero, suc, ◌/◌, min}
use native.Mathlib.Omega.{arith}
use borrow.Author.Rules.{rules}
use lib.IntN.{ℤ}
use lib.ListN.{length, take}
use Rattle.std.specs.Simd.{first_chunks}
use Rattle.rules_rank_table.specs.Table.{Row, first_rows, rows_read}
use Rattle.rules_rank_table.specs.inner.Stages.{row_of}
use Rattle.rules_rank_table.proofs.table.rows_read.Goals as goal

first_chunked : (k : ℕ) (table : List ℤ) (c m : ℕ) → c ≡ length table / 3 → m ≡ min c k
    → map row_of (take m (first_chunks 3 c table)) ≡ first_rows k table
first_chunked zero table c m e f = let none : m ≡ 0 = omega arith in rw none
first_chunked (suc k) [] c m e f = let none : m ≡ 0 = omega arith in rw none
first_chunked (suc k) (a ∷ []) c m e f = let none : m ≡ 0 = omega arith in rw none
first_chunked (suc k) (a ∷ b ∷ []) c m e f = let none : m ≡ 0 = omega arith in rw none
first_chunked (suc k) (a ∷ b ∷ p ∷ rest) c m e f =
    let more : c ≡ suc (length rest / 3) = omega arith in
    let first : m ≡ suc (min (length rest / 3) k) = omega arith in
    rw (more, first)
    (ap (λ (rows : List Row). record { from = a; to = b; position = p } ∷ rows)
    (first_chunked k rest (length rest / 3) (min (length rest / 3) k) refl refl))

pub returns : goal.returns
unfolding rows_read
returns c =
    let table = c.args.numbers.now in
    rw c.as_chunks.ensures.front (first_chunked 16 table (length table / 3) c.min.result refl (search rules))
