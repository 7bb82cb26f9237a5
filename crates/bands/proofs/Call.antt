-- What is known of a call of `ultimate_bands` where its cells are due. Assumes nothing.
use mathlib.Core.Path.{◌≡◌, sym}
use mathlib.Core.Bool.{true}
use mathlib.Core.List.{List, [], ◌∷◌}
use Prim.Native.Nat.{ℕ, ◌*◌, ◌<◌, ◌≤◌}
use native.Mathlib.Omega.{arith}
use borrow.Author.Tests.{leb-true}
use lib.Dec.{leb, ltb}
use lib.ListN.{length}
use lib.Ieee.{Float}
use Rattle.limits.specs.Limits.{longest_period}
use Rattle.values.specs.Accepted.{accepted}
use Rattle.values.proofs.All.{and_parts}
use Rattle.calls.specs.Answer.{Answer, count_of, cleared_of, empty_if, checked, limited, unless_empty}
use Rattle.std.specs.Prelude.{Ok}
use Rattle.calls.proofs.Call.{AllBars}
use Rattle.calls.proofs.Room.{asked, and_then_cells, empty_if_cells, same_count}
use Rattle.outer_lines.proofs.Calls.{one_band_passed, one_band_clearable}
use Rattle.bands.specs.Bands.{bands_answer}
use Rattle.bands.specs.inner.Stages.{BandsRoom}

module _ (s : List Float) (n : ℕ) (k : Float) (m middle upper lower work : ℕ) where
  abbrev whole : Answer
  whole = empty_if (ltb (length s) n) (Ok (length s))

  abbrev rest : Answer
  rest = limited (k ∷ []) [] (n ∷ m ∷ []) (unless_empty (length s) [] (n ∷ m ∷ []) whole)

  pub bands_clearable : {r : Answer} → r ≡ bands_answer s n k m middle upper lower work
      → cleared_of r (8 * length s) ≤ work
  unfolding bands_answer
  bands_clearable e = one_band_clearable middle upper lower work rest s e

  -- it has a cell for each bar
  pub bands_bars : AllBars (bands_answer s n k m middle upper lower work) (length s)
  unfolding bands_answer
  bands_bars j e h =
      let check = checked accepted (s ∷ []) (middle ∷ upper ∷ lower ∷ []) (work ∷ []) in
      let a = asked (length s) (k ∷ []) [] (n ∷ m ∷ []) whole j (and_then_cells check rest j e).1 h in
      sym (same_count _ _ (empty_if_cells (ltb (length s) n) (Ok (length s)) j a.rest h).1)

  -- and where they are due, all is in order
  pub bands_ready : {r : Answer} → r ≡ bands_answer s n k m middle upper lower work → 0 < count_of r
      → BandsRoom n m s middle upper lower × (8 * length s ≤ work)
  unfolding bands_answer
  bands_ready {r} e h =
      let p = one_band_passed middle upper lower work rest s e h in
      let a = asked (length s) (k ∷ []) [] (n ∷ m ∷ []) whole (count_of r) p.1 h in
      let short = and_parts (leb n longest_period) _ a.short_periods in
      let room = p.0.out_long in (
        record {
          period = leb-true _ _ short.0;
          smooth_period = leb-true _ _ (and_parts (leb m longest_period) true short.1).0;
          values = p.0.values;
          middle_long = omega arith;
          upper_long = omega arith;
          lower_long = omega arith;
        },
        p.0.work_long.0,
      )
