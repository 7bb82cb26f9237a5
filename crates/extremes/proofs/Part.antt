-- Two rows of a slice, the highest of bar i in cell i and the lowest in cell bars + i: a part of the bars written
-- anew, from either end. Assumes nothing.
use mathlib.Core.Path.{◌≡◌, refl, sym, ◌∙◌}
use mathlib.Core.Bool.{Bool, true, false}
use mathlib.Core.Logic.{◌⊎◌, inl, inr, ⊎_elim}
use mathlib.Core.List.{List}
use Prim.Native.Nat.{ℕ, ◌+◌, ◌-◌, ◌<◌, ◌≤◌}
use native.Mathlib.Nat.{eq-or-lt_of_le}
use native.Mathlib.Omega.{arith}
use borrow.Author.Tests.{ltb-true, ltb-false}
use lib.Dec.{ltb}
use lib.ListN.{length, set, length-set}
use lib.Seq.{get_or-set_same, get_or-set_other, ext_get_or}
use lib.Ieee.{Float, nan}
use Rattle.cells.specs.Line.{Line, line}
use Rattle.cells.specs.inner.Rows.{beside}
use Rattle.cells.proofs.RowWrites.{beside_first, beside_second}
use Rattle.cells.specs.Written.{written, Writing}
use Rattle.cells.proofs.Written.{length_written, getd_written, getd_untouched}
use Rattle.extremes.specs.declared.blocks.HighLow.{HighLow}
use Rattle.extremes.specs.inner.Part.{Replacing, range_at}

before_or_not : (i k : ℕ) → (i < k) ⊎ (k ≤ i)
before_or_not i k = go (ltb i k) refl
  where
    go : (t : Bool) → ltb i k ≡ t → (i < k) ⊎ (k ≤ i)
    go true e = inl (ltb-true i k e)
    go false e = inr (ltb-false i k e)

-- the rows with a range stored at bar i
abbrev pub stored : ℕ → List Float → ℕ → HighLow → List Float
stored bars cells i x = set (set cells i x.high) (bars + i) x.low

module _ {bars : ℕ} {Q : ℕ → HighLow → Type 0} {old : List Float} where
  -- the range of one bar is as Q asks already
  pub one_stands : {lo hi : ℕ} (i : ℕ) → Q i (range_at bars old i) → (lo ≡ i) × (i + 1 ≡ hi)
      → Replacing bars lo hi Q old old
  one_stands i q (d, e) = record {
    long = refl;
    inside = λ j h. let same : j ≡ i = omega arith in rw same q;
    below = λ j l. refl;
    above = λ j l. refl;
    after = λ j l. refl;
  }

  -- a part of the bars written, and then all of these and more
  pub replaced_again : {lo hi lo' hi' : ℕ} {R : ℕ → HighLow → Type 0} {mid now : List Float}
      → Replacing bars lo' hi' R old mid → Replacing bars lo hi Q mid now
      → (lo ≤ lo') × (hi' ≤ hi) → Replacing bars lo hi Q old now
  replaced_again v w h = record {
    long = w.long ∙ v.long;
    inside = w.inside;
    below = λ j l. w.below j l ∙ v.below j (omega arith);
    above = λ j l. w.above j l ∙ v.above j (omega arith);
    after = λ j l. w.after j l ∙ v.after j l;
  }

  -- a bar that the loop has not reached is still as R asks
  pub not_yet : {a e lo hi : ℕ} {R : ℕ → HighLow → Type 0} {now : List Float} (i : ℕ) → Replacing bars a e R old old
      → Replacing bars lo hi Q old now
      → (a ≤ i) × (i < e) × (hi ≤ i) × (i < bars) → R i (range_at bars now i)
  not_yet i v w h = rw (w.above i (omega arith)) (v.inside i (omega arith))

  -- one more bar, below the part or above it
  module _ {lo hi : ℕ} {now : List Float} (i : ℕ) (x : HighLow) (w : Replacing bars lo hi Q old now) (q : Q i x) where
    elsewhere : (j : ℕ) → (j ≡ i → ⊥) × (j < bars) × (i < bars) → range_at bars (stored bars now i x) j
        ≡ range_at bars now j
    elsewhere j (d, l, m) =
        rw (
          get_or-set_other (set now i x.high) (bars + i) j x.low nan (λ z. omega arith),
          get_or-set_other now i j x.high nan d,
          get_or-set_other (set now i x.high) (bars + i) (bars + j) x.low nan (λ z. d (omega arith)),
          get_or-set_other now i (bars + j) x.high nan (λ z. omega arith),
        )

    here : (j : ℕ) → (j ≡ i) × (i < bars) × (bars + bars ≤ length old) → Q j (range_at bars (stored bars now i x) j)
    here j (e, l, m) =
        let long = w.long in
        let long' = length-set now i x.high in
        rw (
          e,
          get_or-set_other (set now i x.high) (bars + i) i x.low nan (λ z. omega arith),
          get_or-set_same now i x.high nan (omega arith),
          get_or-set_same (set now i x.high) (bars + i) x.low nan (omega arith),
        )
        q

    long_still : length (stored bars now i x) ≡ length old
    long_still = length-set (set now i x.high) (bars + i) x.low ∙ length-set now i x.high ∙ w.long

    after_still : (j : ℕ) → (bars + bars ≤ j) × (i < bars) → line (stored bars now i x) j ≡ line old j
    after_still j (l, m) =
        get_or-set_other (set now i x.high) (bars + i) j x.low nan (λ z. omega arith)
        ∙ get_or-set_other now i j x.high nan (λ z. omega arith)
        ∙ w.after j l

    pub one_below : {lo' : ℕ} → (lo ≡ i + 1) × (i ≡ lo') × (i < hi) × (i < bars) × (hi ≤ bars)
        × (bars + bars ≤ length old)
        → Replacing bars lo' hi Q old (stored bars now i x)
    one_below {lo' = lo'} (d, e, h, l, m, r) = record {
      long = long_still;
      inside =
          λ j p. ⊎_elim (λ z. here j (omega arith))
          (λ z. rw (elsewhere j (λ y. omega arith, omega arith, l)) (w.inside j (omega arith)))
          (eq-or-lt_of_le {n = lo'} {m = j} p.0);
      below = λ j p. elsewhere j (λ y. omega arith, omega arith, l) ∙ w.below j (omega arith);
      above = λ j p. elsewhere j (λ y. omega arith, p.1, l) ∙ w.above j p;
      after = λ j p. after_still j (p, l);
    }

    pub one_above : {hi' : ℕ} → (hi ≡ i) × (i + 1 ≡ hi') × (lo ≤ i) × (i < bars) × (bars + bars ≤ length old)
        → Replacing bars lo hi' Q old (stored bars now i x)
    one_above (d, e, h, l, r) = record {
      long = long_still;
      inside =
          λ j p. ⊎_elim (λ z. here j (omega arith))
          (λ z. rw (elsewhere j (λ y. omega arith, omega arith, l)) (w.inside j (omega arith)))
          (eq-or-lt_of_le {n = j} {m = i} (omega arith));
      below = λ j p. elsewhere j (λ y. omega arith, omega arith, l) ∙ w.below j p;
      above = λ j p. elsewhere j (λ y. omega arith, p.1, l) ∙ w.above j (omega arith);
      after = λ j p. after_still j (p, l);
    }

-- both rows are written whole
pub rows_written : {bars : ℕ} {g f : Line} {old now : List Float}
    → Replacing bars 0 bars (λ i x. (x.high ≡ g i) × (x.low ≡ f i)) old now
    → bars + bars ≤ length old → Writing (bars + bars) (beside bars g f) old now
rows_written {bars} {g} {f} {old} {now} w h =
    record {
      is = ext_get_or nan now (written (bars + bars) (beside bars g f) old)
          (w.long ∙ sym (length_written (bars + bars) (beside bars g f) old)) cell;
      long = w.long;
    }
  where
    inside : (i : ℕ) → i < bars + bars → line now i ≡ beside bars g f i
    inside i l =
        ⊎_elim
        (λ m. (w.inside i (omega arith)).0 ∙ sym (beside_first bars g f i m))
        (λ m. let e : i ≡ bars + (i - bars) = omega arith in rw e
        ((w.inside (i - bars) (omega arith)).1 ∙ sym (beside_second bars g f (i - bars))))
        (before_or_not i bars)

    cell : (i : ℕ) → i < length now → line now i ≡ line (written (bars + bars) (beside bars g f) old) i
    cell i l =
        let long = w.long in
        ⊎_elim
        (λ m. inside i m ∙ sym (getd_written (bars + bars) (beside bars g f) old i nan m (omega arith)))
        (λ m. w.after i m ∙ sym (getd_untouched (bars + bars) (beside bars g f) old i nan m))
        (before_or_not i (bars + bars))
