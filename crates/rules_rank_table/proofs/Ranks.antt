-- A rank as a whole number: from -100 to 100, the same once -0.0 is made +0.0, and an i32 then. Both signs of the whole
-- numbers from 0 to 100 are computed. Assumes nothing.
use mathlib.Core.Path.{◌≡◌, refl, sym, ap, ◌∙◌}
use mathlib.Core.Bool.{Bool, true, false, cond}
use mathlib.Core.List.{List}
use Prim.Native.Nat.{ℕ, zero, suc, ◌<◌, ◌≤◌}
use native.Mathlib.Nat.{not-suc-le-zero, le_of_suc-le-suc}
use native.Mathlib.Omega.{arith}
use borrow.Author.Tests.{le-leb}
use lib.Dec.{T}
use lib.IntN.{ℤ, pos, neg_ℤ}
use lib.ListN.{get_or}
use lib.Signed.{◌≤ℤ◌, le_z_yes}
use lib.Ieee.{Float, binary64, round, add, whole, in_signed, to_signed, is_nan}
use Rattle.cells.specs.Line.{plus_zero}
use Rattle.cells.specs.Shown.{first_cells}
use Rattle.rules_rank.specs.Rank.{whole_rank}
use Rattle.rules_rank.proofs.Bounds.{Hundredths, whole_rank_within}
use Rattle.rules_rank_table.specs.Table.{Row, position_for}
use Rattle.rules_rank_table.specs.RankTable.{rank_number, table_position}
use Rattle.rules_rank_table.specs.inner.Stages.{Looked}

-- ---- the whole numbers from 0 to 100, of either sign

first_cell : {A : Type 0} (n : ℕ) (f : ℕ → A) (i : ℕ) (d : A) → i < n → get_or (first_cells n f) i d ≡ f i
first_cell zero f i d h = absurd (not-suc-le-zero h)
first_cell (suc n) f zero d h = refl
first_cell (suc n) f (suc i) d h = first_cell n (λ j. f (suc j)) i d (le_of_suc-le-suc h)

-- with +0.0 added: whether it is an i32, and which; which whole number it is itself, and whether it is NaN
abbrev Facts : Type 0
Facts = Bool × ℤ × ℤ × Bool

abbrev facts : Float → Facts
facts x = let y = add binary64 x plus_zero in (in_signed binary64 31 y, to_signed 31 y, to_signed 31 x, is_nan x)

abbrev signed : Bool → ℕ → ℤ
signed s k = cond s (neg_ℤ (pos k)) (pos k)

computed : (s : Bool) → first_cells 101 (λ k. facts (round binary64 s k 1))
    ≡ first_cells 101 (λ k. (true, signed s k, signed s k, false))
unfolding round add in_signed whole to_signed is_nan
computed true = refl
computed false = refl

facts_of : {x : Float} (h : Hundredths x) → facts x
    ≡ (true, signed h.sign h.size, signed h.sign h.size, false)
facts_of h =
    let s = h.sign in
    let k = h.size in
    let few : k < 101 = let m = h.most in omega arith in
    let none : Facts = (true, pos 0, pos 0, true) in
    let found = first_cell {A = Facts} 101 (λ j. facts (round binary64 s j 1)) k none few in
    let wanted = first_cell {A = Facts} 101 (λ j. (true, signed s j, signed s j, false)) k none few in
    rw h.is (sym found ∙ ap (λ (l : List Facts). get_or l k none) (computed s) ∙ wanted)

signed_within : (s : Bool) (k : ℕ) → k ≤ 100 → (neg_ℤ (pos 100) ≤ℤ signed s k) × (signed s k ≤ℤ pos 100)
signed_within false k h = (le_z_yes tt, le_z_yes (rw (le-leb k 100 h) tt))
signed_within true zero h = (le_z_yes tt, le_z_yes tt)
signed_within true (suc k) h = (le_z_yes (rw (le-leb k 99 (omega arith)) tt), le_z_yes tt)

-- ---- the rank

module _ {c m : ℕ} (l : Looked c m) where
  hundredths : Hundredths (whole_rank c m)
  hundredths = let n = l.narrow in whole_rank_within l.some (omega arith) l.part

  pub castable : T (in_signed binary64 31 (add binary64 (whole_rank c m) plus_zero))
  castable = rw (ap (λ (f : Facts). f.0) (facts_of hundredths)) tt

  pub same_number : to_signed 31 (add binary64 (whole_rank c m) plus_zero) ≡ rank_number c m
  same_number =
      ap (λ (f : Facts). f.1) (facts_of hundredths)
      ∙ sym (ap (λ (f : Facts). f.2) (facts_of hundredths))

  -- it lies from -100 to 100
  pub rank_within : (neg_ℤ (pos 100) ≤ℤ rank_number c m) × (rank_number c m ≤ℤ pos 100)
  rank_within =
      rw (ap (λ (f : Facts). f.2) (facts_of hundredths))
      (signed_within hundredths.sign hundredths.size hundredths.most)

  -- it is looked up
  pub looked_up : (rows : List Row) → table_position rows c m ≡ position_for (rank_number c m) rows
  unfolding table_position
  looked_up rows = rw (ap (λ (f : Facts). f.3) (facts_of hundredths))
