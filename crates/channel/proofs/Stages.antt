-- The stages of `ultimate_channel`, its outer lines from period 5 on, and what is known where its cells are due.
-- Assumes nothing.
use mathlib.Core.Path.{◌≡◌, sym}
use mathlib.Core.Bool.{true}
use mathlib.Core.List.{List, [], ◌∷◌}
use Prim.Native.Nat.{ℕ, ◌+◌, ◌-◌, ◌*◌, ◌/◌, ◌<◌, ◌≤◌, min}
use native.Mathlib.Omega.{arith}
use borrow.Author.Tests.{leb-true}
use lib.Dec.{leb, eqb}
use lib.ListN.{length, take}
use lib.Ieee.{Float, nan}
use Rattle.limits.specs.Limits.{longest_period}
use Rattle.values.specs.Accepted.{accepted}
use Rattle.values.proofs.All.{and_parts}
use Rattle.calls.specs.declared.Refusal.TheVariants.{SeriesTooShort}
use Rattle.calls.specs.Answer.{Answer, count_of, cleared_of, unless, checked, limited, unless_empty}
use Rattle.std.specs.Prelude.{Ok, Option}
use Rattle.calls.proofs.Call.{AllBars}
use Rattle.calls.proofs.Room.{asked, and_then_cells, unless_cells, or_parts, nonzero, same_count}
use Rattle.cells.specs.Line.{Line, line}
use Rattle.cells.specs.Recur.{carried}
use Rattle.cells.specs.Written.{Writing}
use Rattle.cells.proofs.Line.{before_bar}
use Rattle.cells.proofs.Parts.{through}
use Rattle.true_range.specs.TrueRange.{accepted_close, close_checked}
use Rattle.averages_wilder.specs.Wilder.{wilder}
use Rattle.averages_wilder.proofs.Causal.{causal_wilder}
use Rattle.smoother_table.specs.Coefficients.{coefficients}
use Rattle.smoother.proofs.WarmUp.{nan_throughout}
use Rattle.outer_lines.proofs.Lines.{nan_upper, nan_lower}
use Rattle.outer_lines.proofs.Calls.{three_band_passed, three_band_clearable}
use Rattle.channel.specs.Channel.{average_range, channel_width, channel_upper, channel_lower, channel_answer}
use Rattle.channel.specs.inner.ChannelRoom.{ChannelRoom}

-- ---- from period 5 on

module _ (n : ℕ) (first : Option Float) (high low close : Line) where
  -- the average begins at bar n - 1
  no_average : (i : ℕ) → i < n - 1 → average_range n first high low close i ≡ nan
  unfolding average_range wilder carried
  no_average i h = before_bar (n - 1) nan _ i h

  -- so the smoothed one never does
  pub no_width : 5 ≤ n → (i : ℕ) → channel_width n first high low close i ≡ nan
  unfolding channel_width
  no_width h = nan_throughout (coefficients (n / 2)) (average_range n first high low close)
      (λ i l. no_average i (omega arith))

  -- and the outer lines are NaN at every bar
  pub nan_outer : 5 ≤ n → (k : Float) (i : ℕ)
      → (channel_upper n k first high low close i ≡ nan) × (channel_lower n k first high low close i ≡ nan)
  nan_outer h k i = (nan_upper k _ _ i (no_width h i), nan_lower k _ _ i (no_width h i))

-- ---- the stages

-- the averages of a line that stands in a row
pub averaged : (n : ℕ) {k : ℕ} {f : Line} {old mid a b : List Float} → Writing k f old mid → k ≤ length old
    → Writing (length (take k mid)) (wilder n (n - 1) (line (take k mid))) a b → Writing k (wilder n (n - 1) f) a b
averaged n w h v = through w h (wilder n (n - 1)) (causal_wilder n (n - 1) (omega arith)) v

-- ---- the call

module _ (high low close : List Float) (n : ℕ) (k : Float) (first : Option Float) (a b c work : ℕ) where
  abbrev long : Answer
  long = unless (leb n (length high + 1)) SeriesTooShort (Ok (length high))

  abbrev asks : Answer
  asks = limited (k ∷ []) [] (n ∷ []) (unless_empty (length high) [] (n ∷ []) long)

  abbrev rest : Answer
  rest = close_checked first asks

  abbrev due : Answer
  due = channel_answer high low close n k first (a ∷ b ∷ c ∷ []) work

  pub channel_clearable : {r : Answer} → r ≡ due → cleared_of r (8 * length high) ≤ work
  unfolding channel_answer
  channel_clearable e = three_band_clearable a b c work rest high low close e

  -- it has a cell for each bar
  pub channel_bars : AllBars due (length high)
  unfolding channel_answer
  channel_bars j e h =
      let next =
      (and_then_cells (checked accepted (high ∷ low ∷ close ∷ []) (a ∷ b ∷ c ∷ []) (work ∷ [])) rest j e).1 in
      let parameters = (unless_cells (accepted_close first) _ asks j next).1 in
      let all = (asked (length high) (k ∷ []) [] (n ∷ []) long j parameters h).rest in
      sym (same_count _ _ (unless_cells (leb n (length high + 1)) _ _ j all).1)

  -- and where they are due, all is in order
  pub channel_ready : {r : Answer} → r ≡ due → 0 < count_of r
      → ChannelRoom n first high low close (min a (min b c)) × (8 * length high ≤ work)
  unfolding channel_answer
  channel_ready {r} e h =
      let p = three_band_passed a b c work rest high low close e h in
      let parameters = unless_cells (accepted_close first) _ asks (count_of r) p.1 in
      let q = asked (length high) (k ∷ []) [] (n ∷ []) long (count_of r) parameters.1 h in (
        record {
          some = nonzero n (or_parts (eqb n 0) _ q.some_periods).0;
          narrow = leb-true _ _ (and_parts (leb n longest_period) true q.short_periods).0;
          values = p.0.values;
          first_close = parameters.0;
          second = p.0.second;
          third = p.0.third;
          out_long = p.0.out_long;
        },
        p.0.work_long.0,
      )
