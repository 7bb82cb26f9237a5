-- The stages of `rsx_ss2`, as the loops find them, and what is known where its cells are due. Assumes nothing.
use mathlib.Core.Path.{◌≡◌, sym}
use mathlib.Core.Bool.{true}
use mathlib.Core.List.{List, [], ◌∷◌}
use Prim.Native.Nat.{ℕ, ◌-◌, ◌*◌, ◌<◌, ◌≤◌}
use borrow.Author.Tests.{leb-true}
use lib.Dec.{leb}
use lib.ListN.{length}
use lib.Ieee.{Float, nan, neg, lt}
use Rattle.limits.specs.Limits.{longest_period}
use Rattle.rounding.specs.Leaves.{plus_one}
use Rattle.values.specs.Accepted.{accepted}
use Rattle.values.proofs.All.{and_parts}
use Rattle.calls.specs.Answer.{Answer, count_of, cleared_of, checked, limited, unless_empty}
use Rattle.std.specs.Prelude.{Ok}
use Rattle.calls.proofs.Call.{AllBars}
use Rattle.calls.proofs.Room.{asked, and_then_cells, same_count}
use Rattle.checks.proofs.Passed.{one_passed, one_clearable}
use Rattle.cells.specs.Line.{Line, plus_zero}
use Rattle.cells.proofs.Line.{from_bar_lem}
use Rattle.cells.proofs.Carried.{carried_seed, carried_next}
use Rattle.windows.specs.Window.{over}
use Rattle.averages.specs.Blend.{blend}
use Rattle.averages.specs.ExponentialSmoothing.{exponential_line}
use Rattle.changes.specs.declared.Averages.{Averages}
use Rattle.changes.specs.Changes.{change, gains, losses, rsi}
use Rattle.rsx.specs.Rsx.{rsx_unsmoothed, rsx_answer}
use Rattle.rsx.specs.inner.Averaged.{Averaged, RsxRoom}

-- ---- the averages

-- at bar 0 there is no change
pub none_averaged : (alpha : Float) (f : Line) → Averaged alpha f 0 (record { gain = plus_zero; loss = plus_zero })
unfolding gains losses change neg lt
none_averaged alpha f =
    record {
      gain = rw (carried_seed nan (blend alpha) 0 (gains f 0) (gains f));
      loss = rw (carried_seed nan (blend alpha) 0 (losses f 0) (losses f));
    }

-- the next cell
pub next_of : (alpha : Float) (i : ℕ) (f : Line) {x y : Float} → x ≡ exponential_line alpha f (i - 1) → y ≡ f i → 0 < i
    → blend alpha x y ≡ exponential_line alpha f i
next_of alpha i f e g h = rw (carried_next nan (blend alpha) 0 (f 0) f i h, e, g)

-- the bar, written in another way
pub same_bar : {alpha : Float} {i j : ℕ} {f : Line} {r : Averages} → Averaged alpha f i r → i ≡ j → Averaged alpha f j r
same_bar a e = rw (← e) a

-- the cell of bar i
pub index_at : (n i : ℕ) (f : Line) (r : Averages) → Averaged (over n plus_one) f i r → 0 < i
    → rsi r.gain r.loss ≡ rsx_unsmoothed n f i
unfolding rsx_unsmoothed
index_at n i f r a h = rw (a.gain, a.loss, from_bar_lem 1 nan _ i h)

-- ---- the call

module _ (s : List Float) (n m out work : ℕ) where
  abbrev rest : Answer
  rest = limited [] (n ∷ []) (m ∷ []) (unless_empty (length s) (n ∷ []) (m ∷ []) (Ok (length s)))

  pub rsx_clearable : {r : Answer} → r ≡ rsx_answer s n m out work → cleared_of r (8 * length s) ≤ work
  unfolding rsx_answer
  rsx_clearable e = one_clearable s out work rest e

  -- it has a cell for each bar
  pub rsx_bars : AllBars (rsx_answer s n m out work) (length s)
  unfolding rsx_answer
  rsx_bars k e h =
      let next = (and_then_cells (checked accepted (s ∷ []) (out ∷ []) (work ∷ [])) rest k e).1 in
      sym (same_count _ _ (asked (length s) [] (n ∷ []) (m ∷ []) (Ok (length s)) k next h).rest)

  -- and where they are due, all is in order
  pub rsx_ready : {r : Answer} → r ≡ rsx_answer s n m out work → 0 < count_of r → RsxRoom n m s out work
  unfolding rsx_answer
  rsx_ready {r} e h =
      let p = one_passed s out work rest e h in
      let a = asked (length s) [] (n ∷ []) (m ∷ []) (Ok (length s)) (count_of r) p.1 h in
      record {
        window = a.each.0;
        period = leb-true _ _ (and_parts (leb m longest_period) true a.short_periods).0;
        bars = a.bars;
        out_long = p.0.out_long;
        work_long = p.0.work_long.0;
      }
