-- A rank table in plain words, by the numbers of the slice: which row covers a number, that just one does, and which
-- tables are taken. Assumes nothing.
use Rattle.std.specs.Prelude.{◌≡◌, ◌⊎◌, List, ℕ, ◌+◌, ◌*◌, ◌/◌, ◌<◌, min, ℤ, pos, neg_ℤ, length, get_or, ◌≤ℤ◌}
use Rattle.rules_held.specs.Held.{flat, long, short}

-- row r is one of those that are read: of the first 16, and finished
abbrev pub IsRead : List ℤ → ℕ → Type 0
IsRead table r = r < min 16 (length table / 3)

abbrev pub from_at : List ℤ → ℕ → ℤ
from_at table r = get_or table (3 * r) (pos 0)

abbrev pub to_at : List ℤ → ℕ → ℤ
to_at table r = get_or table (3 * r + 1) (pos 0)

abbrev pub position_at : List ℤ → ℕ → ℤ
position_at table r = get_or table (3 * r + 2) (pos 0)

-- row r is read and covers k
pub record Covers (table : List ℤ) (k : ℤ) (r : ℕ) : Type 0 where
  pub read : IsRead table r
  pub least : from_at table r ≤ℤ k
  pub most : k ≤ℤ to_at table r

-- just one row covers k
pub record CoveredOnce (table : List ℤ) (k : ℤ) : Type 0 where
  pub row : ℕ
  pub covers : Covers table k row
  pub only : (r : ℕ) → Covers table k r → r ≡ row

-- every number from -100 to 100 is covered by just one row, and every position that is read is -1, 0 or 1
pub record Complete (table : List ℤ) : Type 0 where
  pub once : (k : ℤ) → neg_ℤ (pos 100) ≤ℤ k → k ≤ℤ pos 100 → CoveredOnce table k
  pub known : (r : ℕ) → IsRead table r
      → (position_at table r ≡ long) ⊎ ((position_at table r ≡ short) ⊎ (position_at table r ≡ flat))
