-- What a cell means: of every series of whole ticks inside the ranges. Equal ends, and no look-ahead. Assumes nothing.
use mathlib.Core.Path.{◌≡◌, refl, sym, ◌∙◌}
use mathlib.Core.Bool.{Bool, true, false, not, cond}
use mathlib.Core.Logic.{◌⊎◌, inl, inr}
use Prim.Native.Nat.{ℕ, ◌+◌, ◌-◌, ◌^◌, ◌<◌, ◌≤◌}
use native.Mathlib.Omega.{arith}
use borrow.Author.Tests.{ltb-true, ltb-false}
use lib.Dec.{ltb}
use lib.IntN.{ℤ, pos, negsuc, ◌*ℤ◌}
use lib.Signed.{lt_z}
use lib.Ieee.{binary64, of_int, round}
use Rattle.rounding.specs.Leaves.{plus_one, minus_one}
use Rattle.rounding_laws.proofs.About.{zero_is}
use Rattle.cells.specs.Line.{Line, plus_zero, Same}
use Rattle.cells.proofs.Line.{before_bar, from_bar_lem}
use Rattle.cells.proofs.Carried.{from_same}
use Rattle.exact_ticks.proofs.Exact.{TickLine}
use Rattle.windows.specs.Window.{window_total}
use Rattle.rules_double.specs.Double.{double_line}
use Rattle.rules_double.proofs.Ticks.{double_exact}
use Rattle.rules_double_ranges.specs.Ranges.{ticks, joined, gives_long, picked, ranges_line}
use Rattle.rules_double_ranges.proofs.Between.{
  Between,
  joined_holds,
  joined_same,
  long_same,
  worst_then,
  then_best,
}

-- ---- the cell, by the two results

picked_long : (w b : Bool) → picked w b ≡ pos 1 → w ≡ true
picked_long true b e = refl
picked_long false true e = let z : ◌≡◌ {A = ℕ} 2 1 = cc in absurd (omega arith)
picked_long false false e = let z : ◌≡◌ {A = ℕ} 0 1 = cc in absurd (omega arith)

picked_short : (w b : Bool) → picked w b ≡ negsuc 0 → b ≡ false
picked_short true b e = let z : ◌≡◌ {A = ℕ} 0 1 = cc in absurd (omega arith)
picked_short false true e = let z : ◌≡◌ {A = ℕ} 0 1 = cc in absurd (omega arith)
picked_short false false e = refl

picked_open : (w b : Bool) → picked w b ≡ pos 2 → (w ≡ false) × (b ≡ true)
picked_open true b e = let z : ◌≡◌ {A = ℕ} 1 2 = cc in absurd (omega arith)
picked_open false true e = (refl, refl)
picked_open false false e = let z : ◌≡◌ {A = ℕ} 0 1 = cc in absurd (omega arith)

picked_each : (w b : Bool) → (picked w b ≡ pos 1) ⊎ ((picked w b ≡ negsuc 0) ⊎ (picked w b ≡ pos 2))
picked_each true b = inl refl
picked_each false true = inr (inr refl)
picked_each false false = inr (inl refl)

turned : {A : Type 0} (t : Bool) (x y : A) → cond t x y ≡ cond (not t) y x
turned true x y = refl
turned false x y = refl

contra : (t : Bool) → (t ≡ true → false ≡ true) → t ≡ false
contra true h = sym (h refl)
contra false h = refl

-- ---- the meaning

module _ {n m l : ℕ} (N : 0 < n) (L : n < m) (M : m ≤ 2 ^ 12) (i : ℕ) (B : m ≤ i + 1) (H : i < l) where
  -- the double rule's cell
  double_gives : {f : Line} {t : ℕ → ℤ} → TickLine l f t → double_line n m f i
      ≡ cond (gives_long n m t i) plus_one minus_one
  unfolding gives_long
  double_gives {t = t} w =
      double_exact w n m i N L M B H
      ∙ turned (lt_z (window_total n t i *ℤ pos m) (window_total m t i *ℤ pos n)) minus_one plus_one

  module _ (low high : Line) where
    abbrev worst : ℕ → ℤ
    worst = joined (i + 1 - n) (ticks high) (ticks low)

    abbrev best : ℕ → ℤ
    best = joined (i + 1 - n) (ticks low) (ticks high)

    cell_is : ranges_line n m low high i ≡ picked (gives_long n m worst i) (gives_long n m best i)
    unfolding ranges_line
    cell_is = from_bar_lem (m - 1) (pos 0) _ i (omega arith)

    -- a cell is one of three
    pub one_of_three : (ranges_line n m low high i ≡ pos 1)
        ⊎ ((ranges_line n m low high i ≡ negsuc 0) ⊎ (ranges_line n m low high i ≡ pos 2))
    one_of_three = rw cell_is (picked_each (gives_long n m worst i) (gives_long n m best i))

    module _ {f : Line} {t : ℕ → ℤ} (w : TickLine l f t) (r : Between (ticks low) (ticks high) t l) where
      -- +1: every series inside the ranges gives +1
      pub settled_long : ranges_line n m low high i ≡ pos 1 → double_line n m f i ≡ plus_one
      settled_long e =
          let a = picked_long _ (gives_long n m best i) (sym cell_is ∙ e) in
          double_gives w ∙ rw (worst_then n m i L B (ticks low) (ticks high) H r a)

      -- -1: every one gives -1
      pub settled_short : ranges_line n m low high i ≡ negsuc 0 → double_line n m f i ≡ minus_one
      settled_short e =
          let a = picked_short (gives_long n m worst i) _ (sym cell_is ∙ e) in
          let b = contra (gives_long n m t i) (λ h. sym a ∙ then_best n m i L B (ticks low) (ticks high) H r h) in
          double_gives w ∙ rw b

    -- 2: the worst series gives -1, and the best one +1
    module _ {f : Line} {t : ℕ → ℤ} (w : TickLine l f t) (e : ranges_line n m low high i ≡ pos 2) where
      both_ways : (gives_long n m worst i ≡ false) × (gives_long n m best i ≡ true)
      both_ways = picked_open (gives_long n m worst i) (gives_long n m best i) (sym cell_is ∙ e)

      pub open_worst : ((j : ℕ) → j ≤ i → t j ≡ worst j) → double_line n m f i ≡ minus_one
      open_worst same = double_gives w ∙ rw (long_same n m t worst i (omega arith) B same, both_ways.0)

      pub open_best : ((j : ℕ) → j ≤ i → t j ≡ best j) → double_line n m f i ≡ plus_one
      open_best same = double_gives w ∙ rw (long_same n m t best i (omega arith) B same, both_ways.1)

-- ---- equal ends

module _ {n m l : ℕ} (N : 0 < n) (L : n < m) (M : m ≤ 2 ^ 12) {f : Line} (w : TickLine l f (ticks f)) where
  joined_self : (k j : ℕ) → joined k (ticks f) (ticks f) j ≡ ticks f j
  joined_self k j = joined_holds k (ticks f) (ticks f) j (λ (z : ℤ). z ≡ ticks f j) refl refl

  picked_same : (t : Bool) → cond t plus_one minus_one ≡ of_int binary64 (picked t t)
  unfolding of_int round
  picked_same true = refl
  picked_same false = refl

  module _ (i : ℕ) where
    lead_same : i < m - 1 → double_line n m f i ≡ of_int binary64 (ranges_line n m f f i)
    unfolding double_line ranges_line
    lead_same h = rw (before_bar (m - 1) plus_zero _ i h, before_bar (m - 1) (pos 0) _ i h) (sym (zero_is binary64))

    later_same : m ≤ i + 1 → i < l → double_line n m f i ≡ of_int binary64 (ranges_line n m f f i)
    unfolding ranges_line
    later_same h H =
        let same =
        long_same n m (joined (i + 1 - n) (ticks f) (ticks f)) (ticks f) i (omega arith) h
        (λ j p. joined_self (i + 1 - n) j) in
        rw (from_bar_lem (m - 1) (pos 0) _ i (omega arith), same)
        (double_gives N L M i h H w ∙ picked_same (gives_long n m (ticks f) i))

    -- with low equal to high the line is the double rule's, bar by bar
    pub equal_ends : i < l → double_line n m f i ≡ of_int binary64 (ranges_line n m f f i)
    equal_ends H = go (ltb i (m - 1)) refl
      where
        go : (t : Bool) → ltb i (m - 1) ≡ t → double_line n m f i ≡ of_int binary64 (ranges_line n m f f i)
        go true e = lead_same (ltb-true i (m - 1) e)
        go false e = let h = ltb-false i (m - 1) e in later_same (omega arith) H

-- ---- no look-ahead

pub causal_double_ranges : (n m : ℕ) → 0 < n → n < m → (low low' high high' : Line) (b : ℕ) → Same low low' b
    → Same high high' b → ranges_line n m low high b ≡ ranges_line n m low' high' b
unfolding ranges_line
causal_double_ranges n m N L low low' high high' b p q =
    from_same (m - 1) (pos 0) _ _ b (λ h. rw (
      long_same n m (joined (b + 1 - n) (ticks high) (ticks low)) (joined (b + 1 - n) (ticks high') (ticks low')) b
          (omega arith) (omega arith)
          (λ j l. joined_same (b + 1 - n) (ticks high) (ticks high') (ticks low) (ticks low') j (rw (q j l))
          (rw (p j l))),
      long_same n m (joined (b + 1 - n) (ticks low) (ticks high)) (joined (b + 1 - n) (ticks low') (ticks high')) b
          (omega arith) (omega arith)
          (λ j l. joined_same (b + 1 - n) (ticks low) (ticks low') (ticks high) (ticks high') j (rw (p j l))
          (rw (q j l))),
    ))
