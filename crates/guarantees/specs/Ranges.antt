-- What the cells of the two-average rule on ranges mean: of an answered call on lists of f64, for every series of whole
-- ticks inside the ranges, by the double rule's own line. What is said from bar m - 1 on holds there and at every later
-- bar below the count k. Assumes nothing.
use Rattle.std.specs.Prelude.{◌≡◌, refl, true, List, ◌⊎◌, ℕ, ◌+◌, ◌-◌, ◌^◌, ◌<◌, ◌≤◌, ℤ, pos, negsuc, length, get_or, Float, Ok}
use Rattle.std.proofs.Common.{sym, ◌∙◌, arith}
use Rattle.std.specs.Float.{binary64}
use Rattle.std.specs.Float.Ieee.{of_int, le, fits}
use Rattle.rounding.specs.Leaves.{plus_one, minus_one}
use Rattle.values.specs.Accepted.{tick, all}
use Rattle.calls.proofs.Cells.{cell_at}
use Rattle.checks.proofs.Two.{in_order_at}
use Rattle.cells.specs.Line.{line}
use Rattle.cells.proofs.Line.{before_bar}
use Rattle.exact_ticks.proofs.Exact.{TickLine}
use Rattle.rules_double.specs.Double.{double_line}
use Rattle.rules_double_ranges.specs.Ranges.{ticks, ranges_line, RangesCall}
use Rattle.rules_double_ranges.specs.inner.Stages.{RangesRoom}
use Rattle.rules_double_ranges.proofs.Bars.{order_whole}
use Rattle.rules_double_ranges.proofs.Between.{Between}
use Rattle.rules_double_ranges.proofs.Open.{ranges_opened, ranges_whole}
use Rattle.rules_double_ranges.proofs.Seam.{
  seam,
  seam_long,
  seam_holds,
  seam_all,
  ticks_joined,
  at_most_itself,
}
use Rattle.rules_double_ranges.proofs.Meaning.{
  settled_long,
  settled_short,
  open_worst,
  open_best,
  one_of_three,
  equal_ends,
}
use Rattle.guarantees.specs.Series.{WholeTicks}
use Rattle.guarantees.specs.OnTicks.{whole_ticks}

-- s is a series of whole ticks, as long as the ranges, and from low to high at every bar
pub record Inside (low high s : List Float) : Type 0 where
  pub whole : WholeTicks s
  pub long : length s ≡ length low
  pub from_low : (i : ℕ) → i < length low → le (line low i) (line s i) ≡ true
  pub to_high : (i : ℕ) → i < length low → le (line s i) (line high i) ≡ true

-- two series inside the ranges, one with each sign at bar i
pub record OneOfEach (n m : ℕ) (low high : List Float) (i : ℕ) : Type 0 where
  pub down : List Float
  pub up : List Float
  pub down_inside : Inside low high down
  pub up_inside : Inside low high up
  pub down_gives : double_line n m (line down) i ≡ minus_one
  pub up_gives : double_line n m (line up) i ≡ plus_one

-- ---- the statements

seam_whole : (k : ℕ) (f g : List Float) → length f ≡ length g → k ≤ length f → WholeTicks f → WholeTicks g
    → WholeTicks (seam k f g)
seam_whole k f g same room v w = record {
  floats = seam_all k f g same room (fits binary64) v.floats w.floats;
  ticks = seam_all k f g same room tick v.ticks w.ticks;
}

module _ (low high : List Float) (n m : ℕ) {k : ℕ} {out₀ out₁ : List ℤ} (v : all (fits binary64) low ≡ true)
    (w : all (fits binary64) high ≡ true) (c : RangesCall low high n m out₀ (Ok k) out₁) (i : ℕ) (h : i < k) where
  opened : RangesRoom n m low high (length out₀)
  opened = ranges_opened low high n m (length out₀) k (sym c.answer) (omega arith)

  inside : i < length low
  inside = let e = ranges_whole low high n m (length out₀) k (sym c.answer) (omega arith) in omega arith

  cell : get_or out₁ i (pos 0) ≡ ranges_line n m (line low) (line high) i
  cell =
      let e = ranges_whole low high n m (length out₀) k (sym c.answer) (omega arith) in
      cell_at (pos 0) c (omega (arith, opened.ranges.room)) i h

  narrow : m ≤ 2 ^ 12
  narrow = omega (arith, opened.long.narrow)

  lows : WholeTicks low
  lows = record { floats = v; ticks = opened.ranges.lows }

  highs : WholeTicks high
  highs = record { floats = w; ticks = opened.ranges.highs }

  -- 0 before bar m - 1.
  pub ranges_before : i < m - 1 → get_or out₁ i (pos 0) ≡ pos 0
  unfolding ranges_line
  ranges_before b = cell ∙ before_bar (m - 1) (pos 0) _ i b

  module _ (b : m ≤ i + 1) where
    -- From bar m - 1 on a cell is +1, -1 or 2.
    pub ranges_one_of_three : (get_or out₁ i (pos 0) ≡ pos 1)
        ⊎ ((get_or out₁ i (pos 0) ≡ negsuc 0) ⊎ (get_or out₁ i (pos 0) ≡ pos 2))
    ranges_one_of_three =
        rw cell (one_of_three opened.short.some opened.order narrow i b inside (line low) (line high))

    module _ {s : List Float} (r : Inside low high s) where
      series : TickLine (length low) (line s) (ticks (line s))
      series = rw r.long at (whole_ticks r.whole)

      between : Between (ticks (line low)) (ticks (line high)) (ticks (line s)) (length low)
      between = record {
        from_low = order_whole (whole_ticks lows) series refl r.from_low;
        to_high = order_whole series (whole_ticks highs) opened.ranges.same r.to_high;
      }

      -- +1: every series of whole ticks inside the ranges gives +1.
      pub ranges_all_long : get_or out₁ i (pos 0) ≡ pos 1 → double_line n m (line s) i ≡ plus_one
      ranges_all_long e =
          settled_long opened.short.some opened.order narrow i b inside (line low) (line high) series between
          (sym cell ∙ e)

      -- -1: every one gives -1.
      pub ranges_all_short : get_or out₁ i (pos 0) ≡ negsuc 0 → double_line n m (line s) i ≡ minus_one
      ranges_all_short e =
          settled_short opened.short.some opened.order narrow i b inside (line low) (line high) series between
          (sym cell ∙ e)

    -- 2: there is one with each sign.
    pub ranges_one_of_each : get_or out₁ i (pos 0) ≡ pos 2 → OneOfEach n m low high i
    ranges_one_of_each e =
        let j = i + 1 - n in
        let N = opened.short.some in
        let same = opened.ranges.same in
        let l = inside in
        let room : j ≤ length low = omega arith in
        let room' : j ≤ length high = omega arith in
        let order = in_order_at (line low) (line high) (length low) opened.ranges.order in
        let least = at_most_itself (whole_ticks lows) in
        let most = at_most_itself (whole_ticks highs) in
        let above : ℕ → Float → Type 0 = λ a x. le (line low a) x ≡ true in
        let below : ℕ → Float → Type 0 = λ a x. le x (line high a) ≡ true in
        let down : Inside low high (seam j high low) = record {
          whole = seam_whole j high low same room' highs lows;
          long = seam_long j high low same room';
          from_low = λ a p. seam_holds j high low same room' (above a) a (order a p) (least a p);
          to_high = λ a p. seam_holds j high low same room' (below a) a (most a (omega arith)) (order a p);
        } in
        let up : Inside low high (seam j low high) = record {
          whole = seam_whole j low high (sym same) room lows highs;
          long = seam_long j low high (sym same) room ∙ same;
          from_low = λ a p. seam_holds j low high (sym same) room (above a) a (least a p) (order a p);
          to_high = λ a p. seam_holds j low high (sym same) room (below a) a (order a p) (most a (omega arith));
        } in
        record {
          down = seam j high low;
          up = seam j low high;
          down_inside = down;
          up_inside = up;
          down_gives = open_worst N opened.order narrow i b inside (line low) (line high) (series down)
              (sym cell ∙ e) (λ a p. ticks_joined j high low same room' a);
          up_gives = open_best N opened.order narrow i b inside (line low) (line high) (series up) (sym cell ∙ e)
              (λ a p. ticks_joined j low high (sym same) room a);
        }

-- With low equal to high each cell is the double rule's, at every bar.
pub ranges_equal_ends : (s : List Float) (n m : ℕ) {k : ℕ} {out₀ out₁ : List ℤ} → all (fits binary64) s ≡ true
    → RangesCall s s n m out₀ (Ok k) out₁ → (i : ℕ) → i < k
    → double_line n m (line s) i ≡ of_int binary64 (get_or out₁ i (pos 0))
ranges_equal_ends s n m v c i h =
    let o = opened s s n m v v c i h in
    rw (cell s s n m v v c i h)
    (equal_ends o.short.some o.order (narrow s s n m v v c i h) (whole_ticks (lows s s n m v v c i h)) i
    (inside s s n m v v c i h))
