-- A desk's rank table: which whole hundredths of rank mean long, short and flat. Assumes nothing.
use Rattle.std.specs.Prelude.{Bool, cond, ◌&&◌, List, [], ◌∷◌, ℕ, zero, suc, leb, ℤ, pos, ◌-ℤ◌}
use Rattle.std.specs.Int.Signed.{le_z}
use Rattle.values.specs.Accepted.{all}
use Rattle.cells.specs.Search.{every_bar}
use Rattle.rules_held.specs.Held.{flat, long, short}
use Rattle.calls.specs.declared.Refusal.TheVariants.{CoveredTwice, NotCovered, PositionUnknown}
use Rattle.calls.specs.Answer.{Answer, unless}

-- from and to, both included, and the position of the ranks between them
pub record Row : Type 0 where
  pub from : ℤ
  pub to : ℤ
  pub position : ℤ

-- the first k rows of a table, three numbers each; the one or two numbers of an unfinished row are none
abbrev pub first_rows : ℕ → List ℤ → List Row
first_rows zero table = []
first_rows (suc k) [] = []
first_rows (suc k) (a ∷ []) = []
first_rows (suc k) (a ∷ b ∷ []) = []
first_rows (suc k) (a ∷ b ∷ p ∷ rest) = record { from = a; to = b; position = p } ∷ first_rows k rest

-- the rows that are read
unfoldable pub rows_read : List ℤ → List Row
rows_read = first_rows 16

-- whether a row covers k; where its from exceeds its to it covers nothing
abbrev pub covers : ℤ → Row → Bool
covers k row = le_z row.from k && le_z k row.to

-- how many rows cover k
unfoldable pub cover_count : ℤ → List Row → ℕ
cover_count k [] = 0
cover_count k (row ∷ rows) = let others = cover_count k rows in cond (covers k row) (suc others) others

-- whether each whole number from -100 to 100 passes
abbrev pub every_rank : (ℤ → Bool) → Bool
every_rank test = every_bar (λ j. test (pos j -ℤ pos 100)) 201

-- -1, 0 or 1
abbrev pub is_position : ℤ → Bool
is_position p = le_z short p && le_z p long

-- Refusal 12 where a number from -100 to 100 is covered twice, 13 where one is not covered, 14 for a position other
-- than -1, 0 and 1, also of a row that covers nothing; then what is next.
unfoldable pub table_checked : List Row → Answer → Answer
table_checked rows next =
    unless (every_rank (λ k. leb (cover_count k rows) 1)) CoveredTwice
    (unless (every_rank (λ k. leb 1 (cover_count k rows))) NotCovered
    (unless (all (λ row. is_position row.position) rows) PositionUnknown
    next))

-- the position of the first row that covers k, and flat where none does
unfoldable pub position_for : ℤ → List Row → ℤ
position_for k [] = flat
position_for k (row ∷ rows) = cond (covers k row) row.position (position_for k rows)
