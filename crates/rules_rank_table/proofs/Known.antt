-- Positions of a table whose positions are -1, 0 and 1, and as f64. Assumes nothing.
use mathlib.Core.Path.{◌≡◌, refl}
use mathlib.Core.Logic.{◌⊎◌, inl, inr}
use mathlib.Core.Bool.{Bool, true, false, cond}
use mathlib.Core.List.{List, [], ◌∷◌}
use Prim.Native.Nat.{ℕ, zero, suc}
use native.Mathlib.Omega.{arith}
use borrow.Author.Tests.{leb-true}
use lib.Dec.{T}
use lib.IntN.{ℤ, pos, negsuc}
use lib.Ieee.{binary64, round, of_int, whole, in_signed, to_signed, is_nan}
use Rattle.values.specs.Accepted.{all}
use Rattle.values.proofs.All.{and_parts}
use Rattle.rules_held.specs.Held.{flat, long, short}
use Rattle.rules_rank.specs.Rank.{whole_rank}
use Rattle.rules_rank_table.specs.Table.{Row, covers, is_position, position_for}
use Rattle.rules_rank_table.specs.RankTable.{rank_number, table_position}
use Rattle.rules_rank_table.specs.inner.Stages.{Known}

-- long, short or flat
abbrev pub OneOfThree : ℤ → Type 0
OneOfThree z = (z ≡ long) ⊎ ((z ≡ short) ⊎ (z ≡ flat))

pub one_of_three : (z : ℤ) → is_position z ≡ true → OneOfThree z
one_of_three (pos zero) e = inr (inr refl)
one_of_three (pos (suc zero)) e = inl refl
one_of_three (pos (suc (suc k))) e = let h = leb-true (suc (suc k)) 1 e in absurd (omega arith)
one_of_three (negsuc zero) e = inr (inl refl)
one_of_three (negsuc (suc k)) e =
    let h = leb-true (suc k) 0 (and_parts _ true e).0 in absurd (omega arith)

pub is_position_lem : {z : ℤ} → OneOfThree z → is_position z ≡ true
is_position_lem (inl e) = rw e
is_position_lem (inr (inl e)) = rw e
is_position_lem (inr (inr e)) = rw e

-- ---- the positions that a table gives

pub either : (t : Bool) (y z : ℤ) → is_position y ≡ true → is_position z ≡ true → is_position (cond t y z) ≡ true
either true y z p q = p
either false y z p q = q

position_for_known : (k : ℤ) (rows : List Row) → all (λ row. is_position row.position) rows ≡ true
    → is_position (position_for k rows) ≡ true
unfolding position_for
position_for_known k [] e = refl
position_for_known k (row ∷ rows) e =
    let (p, q) = and_parts (is_position row.position) _ e in
    either (covers k row) _ _ p (position_for_known k rows q)

pub position_known : {rows : List Row} (c m : ℕ) → Known rows → is_position (table_position rows c m) ≡ true
unfolding table_position
position_known {rows} c m h =
    either (is_nan (whole_rank c m)) _ _ refl (position_for_known (rank_number c m) rows h.each)

-- ---- as f64 and back

pub there_and_back : {z : ℤ} → OneOfThree z
    → T (in_signed binary64 31 (of_int binary64 z)) × (to_signed 31 (of_int binary64 z) ≡ z)
unfolding in_signed whole of_int round to_signed
there_and_back (inl e) = rw e (tt, refl)
there_and_back (inr (inl e)) = rw e (tt, refl)
there_and_back (inr (inr e)) = rw e (tt, refl)
