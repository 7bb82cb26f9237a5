-- What is known of a call of the rule on ranges that was answered with cells. Assumes nothing.
use mathlib.Core.Path.{◌≡◌, sym}
use mathlib.Core.List.{List, [], ◌∷◌}
use Prim.Native.Nat.{ℕ, ◌<◌}
use native.Mathlib.Omega.{arith}
use borrow.Author.Tests.{ltb-true}
use lib.Dec.{ltb}
use lib.ListN.{length}
use lib.Ieee.{Float}
use Rattle.calls.specs.Answer.{Answer, count_of, ranged, windowed}
use Rattle.std.specs.Prelude.{Ok, Err}
use Rattle.calls.proofs.Call.{AllBars}
use Rattle.calls.proofs.Room.{unless_cells, and_then_cells, same_count, asked}
use Rattle.checks.proofs.Two.{ranged_room}
use Rattle.rules_double_ranges.specs.Ranges.{ranges_answer}
use Rattle.rules_double_ranges.specs.inner.Stages.{RangesRoom}

module _ (low high : List Float) (n m out k : ℕ) (e : ranges_answer low high n m out ≡ Ok k) (h : 0 < k) where
  parts : RangesRoom n m low high out × (◌≡◌ {A = Answer} (Ok (length low)) (Ok k))
  unfolding ranges_answer windowed
  parts =
      let a = and_then_cells (ranged low high out) _ k e in
      let b = asked (length low) [] (n ∷ m ∷ []) [] _ k a.1 h in
      let c = unless_cells (ltb n m) _ _ k b.rest in (
        record {
          short = b.each.0;
          long = b.each.1.0;
          order = ltb-true n m c.0;
          ranges = ranged_room low high out _ a.0;
        },
        c.1,
      )

  -- it has windows in order, ranges in order and room for its cells
  pub ranges_opened : RangesRoom n m low high out
  ranges_opened = parts.0

  pub ranges_whole : k ≡ length low
  ranges_whole = sym (same_count _ _ parts.1)

-- it has a cell for each bar
pub ranges_bars : (low high : List Float) (n m out : ℕ) → AllBars (ranges_answer low high n m out) (length low)
ranges_bars low high n m out k e h = ranges_whole low high n m out k e h

-- where its cells are due, there is room
pub ranges_room : (low high : List Float) (n m out : ℕ) {r : Answer} → r ≡ ranges_answer low high n m out
    → 0 < count_of r → RangesRoom n m low high out
ranges_room low high n m out {r = Ok k} e h = ranges_opened low high n m out k (sym e) h
ranges_room low high n m out {r = Err q} e h = let none : 0 < 0 = h in absurd (omega arith)
