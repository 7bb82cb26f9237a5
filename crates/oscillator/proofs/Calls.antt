-- The call of `ultimate_oscillator`: what is known where its cells are due, and its cells from the two rows. Assumes
-- nothing.
use mathlib.Core.Path.{◌≡◌, sym}
use mathlib.Core.List.{List, [], ◌∷◌}
use Prim.Native.Nat.{ℕ, ◌+◌, ◌*◌, ◌<◌, ◌≤◌}
use native.Mathlib.Omega.{arith}
use lib.Dec.{T}
use lib.ListN.{length}
use lib.Ieee.{Float, binary64, fits}
use Rattle.values.specs.Accepted.{accepted}
use Rattle.calls.specs.Answer.{Answer, count_of, cleared_of, checked, windowed}
use Rattle.std.specs.Prelude.{Ok, Option}
use Rattle.calls.proofs.Call.{AllBars}
use Rattle.calls.proofs.Room.{asked, and_then_cells, unless_cells, same_count}
use Rattle.checks.proofs.Passed.{three_passed, three_clearable}
use Rattle.cells.specs.Line.{line, minus_zero}
use Rattle.cells.specs.Written.{Writing}
use Rattle.cells.proofs.Written.{writing_same}
use Rattle.cells.specs.inner.Rows.{beside}
use Rattle.window_means.specs.inner.Row.{row_at}
use Rattle.true_range.specs.TrueRange.{true_ranges, close_before, accepted_close, close_checked}
use Rattle.oscillator.specs.Oscillator.{pressures, weighed_shares, oscillator_line, oscillator_answer}
use Rattle.oscillator.specs.inner.Rows.{Ready}
use Rattle.oscillator.proofs.Oscillator.{shares_either, from_rows}
use Rattle.oscillator.proofs.Zeros.{Plain, FitClose, plain_values, plain_close, either_pressures, either_ranges}

module _ (high low close : List Float) (n m k : ℕ) (first : Option Float) (out work : ℕ) where
  abbrev due : Answer
  due = checked accepted (high ∷ low ∷ close ∷ []) (out ∷ []) (work ∷ [])

  abbrev asks : Answer
  asks = windowed (length high) (n ∷ m ∷ k ∷ []) (Ok (length high))

  abbrev rest : Answer
  rest = close_checked first asks

  pub oscillator_clearable : {r : Answer} → r ≡ oscillator_answer high low close n m k first out work
      → cleared_of r (8 * length high) ≤ work
  unfolding oscillator_answer
  oscillator_clearable e = three_clearable high low close out work rest e

  -- it has a cell for each bar
  pub oscillator_bars : AllBars (oscillator_answer high low close n m k first out work) (length high)
  unfolding oscillator_answer windowed
  oscillator_bars j e h =
      let next = (unless_cells (accepted_close first) _ asks j (and_then_cells due rest j e).1).1 in
      sym (same_count _ _ (asked (length high) [] (n ∷ m ∷ k ∷ []) [] (Ok (length high)) j next h).rest)

  -- and where they are due, all is in order
  pub oscillator_ready : {r : Answer} → r ≡ oscillator_answer high low close n m k first out work → 0 < count_of r
      → Ready high low close first n m k out work
  unfolding oscillator_answer windowed
  oscillator_ready {r} e h =
      let p = three_passed high low close out work rest e h in
      let windows = unless_cells (accepted_close first) _ asks (count_of r) p.1 in
      let a = asked (length high) [] (n ∷ m ∷ k ∷ []) [] (Ok (length high)) (count_of r) windows.1 h in
      record {
        lows = p.0.second;
        closes = p.0.third;
        values = p.0.values;
        first_close = windows.0;
        short_window = a.each.0;
        medium_window = a.each.1.0;
        long_window = a.each.1.1.0;
        out_long = p.0.out_long;
        work_long = p.0.work_long.0;
      }

-- ---- the cells

abbrev Fit : List Float → Type 0
Fit s = (i : ℕ) → T (fits binary64 (line s i))

pub oscillator_cells : (high low close : List Float) (first : Option Float) {n m k out room : ℕ}
    → Ready high low close first n m k out room
    → Fit high → Fit low → Fit close → FitClose first
    → {work rows old now : List Float}
    → Writing (length high + length high) (beside (length high) (pressures first (line low) (line close))
    (true_ranges (line high) (line low) (close_before first (line close)))) work rows
    → 2 * length high ≤ length work
    → Writing (length high) (weighed_shares minus_zero n m k (line rows) (row_at (length high) rows)) old now
    → Writing (length high) (oscillator_line n m k first (line high) (line low) (line close)) old now
unfolding oscillator_line
oscillator_cells high low close first {n} {m} {k} r x y z u rows h w =
    let hs = plain_values high x r.values.0 in
    let ls : (i : ℕ) → i < length high → Plain (line low i) =
    λ i l. plain_values low y r.values.1 i (rw r.lows l) in
    let cs : (i : ℕ) → i < length high → Plain (line close i) =
    λ i l. plain_values close z r.values.2 i (rw r.closes l) in
    let f = plain_close first u r.first_close in
    writing_same (from_rows n m k (length high) _ _ rows h w)
    (λ i l.
    shares_either _ _ i (λ j s. either_pressures first hs ls cs f j (omega arith))
    (λ j s. either_ranges first hs ls cs f j (omega arith)) n m k
    (r.short_window.some, r.medium_window.some, r.long_window.some))
