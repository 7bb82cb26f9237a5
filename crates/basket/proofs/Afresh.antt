-- Parts of a series, and the positions that are made of them. Assumes nothing.
use mathlib.Core.Path.{◌≡◌, refl, sym, ap, ◌∙◌}
use mathlib.Core.Bool.{Bool, true, false, cond}
use mathlib.Core.List.{List}
use Prim.Native.Nat.{ℕ, ◌+◌, ◌-◌, ◌*◌, ◌<◌, ◌≤◌, min}
use native.Mathlib.Nat.{zero-add}
use native.Mathlib.Omega.{arith}
use borrow.Author.Tests.{leb-true, leb-false}
use lib.Dec.{leb, eqb}
use lib.IntN.{ℤ, ◌*ℤ◌}
use lib.ListN.{length, take, drop, length-take, length-drop}
use lib.Seq.{get_or-take, get_or-drop}
use lib.Ieee.{Float, nan}
use Rattle.values.specs.Accepted.{accepted, all}
use Rattle.values.proofs.All.{all_at, all_of}
use Rattle.cells.specs.Line.{Line, line, Causal}
use Rattle.cells.specs.Written.{Writing}
use Rattle.cells.proofs.Written.{read_back}
use Rattle.cells.specs.inner.Touched.{Touched}
use Rattle.cells.proofs.Touched.{untouched, touched_then, touched_more}
use Rattle.checks.specs.inner.Due.{Priced}
use Rattle.rules.specs.Position.{whole_position}
use Rattle.rules_single.specs.Single.{single_line}
use Rattle.rules_single.proofs.Single.{causal_single}
use Rattle.rules_middle.specs.Middle.{mid_line}
use Rattle.rules_middle.proofs.Middle.{causal_mid}
use Rattle.basket.specs.inner.Adding.{RowsAdded, BarsRoom}
use Rattle.basket.specs.inner.Parts.{part_bars, afresh_line, PartRoom, PartAdded}
use Rattle.basket.proofs.Adding.{no_rows, then_rows, rows_same, light_later}
use Rattle.basket.proofs.Later.{later, single_later, mid_later}

-- ---- the line of a part

causal_afresh : (rule n : ℕ) → 0 < n → Causal (afresh_line rule n)
causal_afresh rule n p f g b s = go (eqb rule 1)
  where
    go : (t : Bool) → cond t (single_line n f) (mid_line n f) b ≡ cond t (single_line n g) (mid_line n g) b
    go true = causal_single n f g b s
    go false = causal_mid n p f g b s

-- a cell two windows after the part begins, or of a part that begins with the series
afresh_later : (rule n : ℕ) → 0 < n → (a : ℕ) (f : Line) (i at : ℕ) → a ≡ at - (2 * n - 2) → at ≤ a + i
    → afresh_line rule n (later a f) i ≡ afresh_line rule n f (a + i)
afresh_later rule n p a f i at e h = go (leb at (2 * n - 2)) refl
  where
    rules : 2 * n - 2 ≤ i → (t : Bool) → cond t (single_line n (later a f)) (mid_line n (later a f)) i
        ≡ cond t (single_line n f) (mid_line n f) (a + i)
    rules l true = single_later n a f i p l
    rules l false = mid_later n a f i p l

    go : (t : Bool) → leb at (2 * n - 2) ≡ t → afresh_line rule n (later a f) i ≡ afresh_line rule n f (a + i)
    go true d =
        let early = leb-true at (2 * n - 2) d in
        let none : a ≡ 0 = omega arith in
        rw none
        (causal_afresh rule n p (later 0 f) f i (λ j l. ap f (zero-add j)) ∙ ap (afresh_line rule n f) (sym
        (zero-add i)))
    go false d = let late = leb-false at (2 * n - 2) d in rules (omega arith) (eqb rule 1)

-- the prices from bar a to bar e - 1
abbrev pub part_of : ℕ → ℕ → List Float → List Float
part_of a e s = take (e - a) (drop a s)

module _ (s : List Float) (a e : ℕ) (o : a ≤ e) (u : e ≤ length s) where
  pub part_long : length (part_of a e s) ≡ e - a
  part_long = simp (length-take, length-drop) (omega arith)

  part_at : (i : ℕ) → i < e - a → line (part_of a e s) i ≡ line s (a + i)
  part_at i h = get_or-take (e - a) (drop a s) i nan h ∙ get_or-drop a s i nan

  part_accepted : all accepted s ≡ true → all accepted (part_of a e s) ≡ true
  part_accepted h =
      all_of accepted (part_of a e s) (λ i l.
      let inside : i < e - a = rw part_long at l in
      rw (part_at i inside) (all_at accepted s (a + i) h (omega arith)))

  pub part_cell : (rule n : ℕ) → 0 < n → (at j : ℕ) → a ≡ at - (2 * n - 2) → at ≤ j → j < e
      → afresh_line rule n (line (part_of a e s)) (j - a) ≡ afresh_line rule n (line s) j
  part_cell rule n p at j b h k =
      let there : a + (j - a) ≡ j = omega arith in
      causal_afresh rule n p (line (part_of a e s)) (later a (line s)) (j - a) (λ i l. part_at i (omega arith))
      ∙ afresh_later rule n p a (line s) (j - a) at b (omega arith) ∙ ap (afresh_line rule n (line s)) there

-- ---- a part of a contract's bars

module _ {prices : List Float} {n : ℕ} {weight : ℤ} {q at : ℕ} {out : List ℤ} {block work : ℕ}
    (s : PartRoom prices n weight q at out block work) (h : at < length prices) {a e : ℕ} (b : a ≡ at - (2 * n - 2))
    (d : e ≡ min (length prices) (a + part_bars)) where
  -- it begins no later than the new bars, ends after the first of them, and is no longer than a block
  pub part_ends : (a ≤ at) × (at < e) × (e ≤ length prices) × (e ≤ a + part_bars)
  part_ends = let narrow = s.window.narrow in omega arith

  pub part_priced : Priced 2 n (part_of a e prices) block work
  part_priced =
      let (start, some, inside, few) = part_ends in
      let long = part_long prices a e (omega arith) inside in
      let room = s.block_long in
      let rows = s.work_long in
      record {
        window = s.window;
        short = let short = s.short in rw long (omega arith);
        out_long = rw long (omega arith);
        work_long = rw long (omega arith);
        values = part_accepted prices a e (omega arith) inside s.values;
      }

  pub part_room : {cells : ℕ} → block ≡ cells → BarsRoom (length prices) q at e a cells weight out
  part_room same =
      let (start, some, inside, few) = part_ends in
      let room = s.block_long in
      record {
        row = s.row;
        order = omega arith;
        inside = inside;
        start = start;
        there = omega arith;
        light = s.light;
        room = s.room;
        small = s.small;
      }

  -- the block has the positions of the part's bars
  pub part_added : (rule : ℕ) {now : List ℤ} {block₀ block₁ work₀ work₁ : List Float} → length block₀ ≡ block
      → Writing (length (part_of a e prices)) (afresh_line rule n (line (part_of a e prices))) block₀ block₁
      → Touched (2 * length (part_of a e prices)) work₀ work₁
      → RowsAdded (length prices) q at e (λ j. weight *ℤ whole_position (line block₁ (j - a))) out now
      → PartAdded prices rule n weight q at e out now block₀ block₁ work₀ work₁
  part_added rule {block₀ = block₀} {block₁} same w t cells =
      let (start, some, inside, few) = part_ends in
      let long = part_long prices a e (omega arith) inside in
      let room = s.block_long in
      record {
        cells = rows_same cells (λ j f g.
            ap (λ (x : Float). weight *ℤ whole_position x)
            (read_back (j - a) nan w (rw long (omega arith))
            ∙ part_cell prices a e (omega arith) inside rule n s.window.some at j b f g));
        work = touched_more t (rw long (omega arith));
        block = w.long;
      }

-- ---- all parts

module _ {prices : List Float} {rule n : ℕ} {weight : ℤ} {q : ℕ} {out : List ℤ} {block work : List Float} where
  pub no_part : PartAdded prices rule n weight q 0 0 out out block block work work
  no_part = record { cells = no_rows; work = untouched; block = refl }

  module _ {at : ℕ} {out₁ : List ℤ} {block₁ work₁ : List Float}
      (v : PartAdded prices rule n weight q 0 at out out₁ block block₁ work work₁) where
    pub then_part : {r : ℕ} {out₂ : List ℤ} {block₂ work₂ : List Float}
        → PartAdded prices rule n weight q at r out₁ out₂ block₁ block₂ work₁ work₂ → at ≤ r
        → PartAdded prices rule n weight q 0 r out out₂ block block₂ work work₂
    then_part w h =
        record {
          cells = then_rows v.cells w.cells (omega arith);
          work = touched_then v.work w.work;
          block = w.block ∙ v.block;
        }

    -- the next part has room
    pub more_room : PartRoom prices n weight q 0 out (length block) (length work)
        → PartRoom prices n weight q at out₁ (length block₁) (length work₁)
    more_room s =
        record {
          window = s.window;
          short = s.short;
          values = s.values;
          work_long = rw v.work.long s.work_long;
          block_long = rw v.block s.block_long;
          row = s.row;
          light = s.light;
          room = rw v.cells.rest.long s.room;
          small = light_later v.cells s.small (omega arith);
        }

    pub all_parts : {l : ℕ} → at ≡ l → PartAdded prices rule n weight q 0 l out out₁ block block₁ work work₁
    all_parts e = rw (← e) v
