-- Document 01's starred cases, as one table: each function's own contract, of a call with slices just long enough,
-- gives this answer and these cells. Assumes nothing.
use Rattle.std.specs.Prelude.{◌≡◌, refl, false, List, [], ◌∷◌, map, ℕ, zero, suc, ◌*◌, ℤ, pos, negsuc, length, Float, Ok}
use Rattle.std.proofs.Common.{ap, ◌∙◌, arith}
use Rattle.std.specs.Float.{nan, fin, binary64}
use Rattle.std.specs.Float.Ieee.{add, sub, mul, div, of_int, to_signed, whole, lt, eq, le, to_bits, neg, round}
use Rattle.rounding.specs.Whole.{total}
use Rattle.rounding.specs.Leaves.{sign_of, magnitude_of, round_to_whole}
use Rattle.calls.specs.Answer.{Answer, slices, checked, windowed, answered, answered_with}
use Rattle.values.specs.Accepted.{accepted, tick, finite}
use Rattle.calls.specs.Call.{Call, WorkCall}
use Rattle.cells.specs.Line.{from_bar}
use Rattle.cells.specs.Written.{written}
use Rattle.cells.specs.Recur.{recur, carried}
use Rattle.windows.specs.Window.{sum_from, window_sum, mean, running_sum}
use Rattle.averages.specs.Sma.{SmaCall, sma_line}
use Rattle.averages.specs.Ema.{EmaCall}
use Rattle.averages_ticks.specs.TickMean.{TickMeanCall, to_tick, tick_mean_line}
use Rattle.rules_single.specs.Single.{SingleCall, single_line}
use Rattle.rules_double.specs.Double.{DoubleCall, running_mean, double_line, double_answer}
use Rattle.cells.specs.Shown.{first_cells, num}
use Rattle.rules_bands.specs.BollReverse.{BollReverseCall, band_signals, turned_bands}
use Rattle.rules_mms.specs.Mms.{MmsCall, mms_answer, mms_line}
use Rattle.rules_rank.specs.Rank.{RankCall, rank_line, below_now, whole_rank}
use Rattle.rules_rank.specs.RollingRank.{RollingRankCall, rolling_rank_answer, rolling_rank_line}
use Rattle.deviations.specs.Deviation.{deviation}
use Rattle.extremes.specs.Extreme.{extreme, pick_from}
use Rattle.ranks.specs.Counted.{count_from}
use Rattle.rounding.specs.Literals.{ten_to_minus}
use Rattle.rounding_root.specs.Root.{nearest_root, root, root_below, sqrt_of}
use Rattle.rules_held.specs.Held.{hold, moved}
use Rattle.holt_winters.specs.HoltWinters.{HoltWintersCall, weights, fit_line, fit_within, next_fit}
use Rattle.holt_winters.specs.HoltWinters.{holt_winters_line, holt_winters_answer}

-- a cell of an output: an f64 or a whole number
pub data Cell : Type 0 where
  number : Float → Cell
  integer : ℤ → Cell

-- a function with its parameters
pub data Function : Type 0 where
  sma ema tick_mean one_average rank rolling_rank : ℕ → Function
  double mms : ℕ → ℕ → Function
  boll_reverse : ℕ → Float → Function
  holt_winters : ℕ → Float → Float → Float → Function

-- a function, its series, and the cells that it is to write, one for each bar
pub record Case : Type 0 where
  pub function : Function
  pub series : List ℕ
  pub cells : List Cell

abbrev pub minus_one : Float
minus_one = of_int binary64 (negsuc 0)

abbrev pub three_halves : Float
three_halves = fin false 3 (negsuc 0)

abbrev pub one_half : Float
one_half = fin false 1 (negsuc 0)

abbrev star : Function → List ℕ → List Cell → Case
star f s c = record { function = f; series = s; cells = c }

-- a whole number as an f64 cell
abbrev float : ℕ → Cell
float k = number (num k)

-- in document 01's order
abbrev pub table : List Case
table =
    star (sma 2) (1 ∷ 2 ∷ 4 ∷ []) (number nan ∷ number three_halves ∷ float 3 ∷ [])
    ∷ star (double 1 2) (10 ∷ 12 ∷ 12 ∷ 11 ∷ []) (float 0 ∷ float 1 ∷ float 1 ∷ number minus_one ∷ [])
    ∷ star (one_average 2) (1 ∷ 3 ∷ 5 ∷ []) (float 0 ∷ float 0 ∷ float 1 ∷ [])
    ∷ star (rank 2) (1 ∷ 2 ∷ 3 ∷ []) (float 0 ∷ float 0 ∷ float 1 ∷ [])
    ∷ star (rank 1) (5 ∷ []) (number nan ∷ [])
    ∷ star (rolling_rank 2) (3 ∷ 1 ∷ 2 ∷ []) (integer (pos 0) ∷ integer (pos 1) ∷ integer (pos 2) ∷ [])
    ∷ star (mms 1 2) (1 ∷ 3 ∷ 2 ∷ []) (float 0 ∷ float 1 ∷ number minus_one ∷ [])
    ∷ star (boll_reverse 2 one_half) (4 ∷ 4 ∷ 8 ∷ []) (integer (pos 0) ∷ integer (pos 0) ∷ integer (negsuc 0) ∷ [])
    ∷ star (ema 3) (2 ∷ 4 ∷ 6 ∷ 10 ∷ []) (number nan ∷ number nan ∷ float 4 ∷ float 7 ∷ [])
    ∷ star (holt_winters 1 one_half (num 0) (num 0)) (4 ∷ 6 ∷ []) (float 4 ∷ float 5 ∷ [])
    ∷ star (tick_mean 2) (2 ∷ 3 ∷ []) (integer (pos 0) ∷ integer (pos 2) ∷ [])
    ∷ []

-- ---- what a case says of the function's own contract

module _ {A : Type 0} (cell : A → Cell) where
  -- the call is answered with a cell for each bar, and these are the whole output
  pub record Leaves (s : List Float) (cells : List Cell) (r : Answer) (out₁ : List A) : Type 0 where
    pub answer : r ≡ Ok (length s)
    pub output : map cell out₁ ≡ cells

  -- of every call of this contract whose output is just long enough
  abbrev pub Plain : (List A → Answer → List A → Type 0) → List Float → List Cell → Type 0
  Plain Contract s cells =
      (out₀ out₁ : List A) (r : Answer) → length out₀ ≡ length s → Contract out₀ r out₁ → Leaves s cells r out₁

  -- and whose work slice is
  abbrev pub Working : (List A → List Float → Answer → List A → List Float → Type 0) → List Float → List Cell → Type 0
  Working Contract s cells =
      (out₀ out₁ : List A) (work₀ work₁ : List Float) (r : Answer) → length out₀ ≡ length s
      → length work₀ ≡ 8 * length s
      → Contract out₀ work₀ r out₁ work₁ → Leaves s cells r out₁

abbrev pub Gives : Function → List Float → List Cell → Type 0
Gives (sma n) s = Plain number (SmaCall s n) s
Gives (ema n) s = Plain number (EmaCall s n) s
Gives (tick_mean n) s = Plain integer (TickMeanCall s n) s
Gives (one_average n) s = Working number (SingleCall s n) s
Gives (double n m) s = Plain number (DoubleCall s n m) s
Gives (rank n) s = Working number (RankCall s n) s
Gives (rolling_rank w) s = Working (λ k. integer (pos k)) (RollingRankCall s w) s
Gives (mms n w) s = Working number (MmsCall s n w) s
Gives (boll_reverse n k) s = Working integer (BollReverseCall s n k) s
Gives (holt_winters m a b c) s = Working number (HoltWintersCall s m a b c) s

infixr 5 ◌also◌
-- each case of a table holds
pub data Every (P : Case → Type 0) : List Case → Type 0 where
  done : Every P []
  ◌also◌ : {c : Case} {rest : List Case} → P c → Every P rest → Every P (c ∷ rest)

abbrev pub Holds : Case → Type 0
Holds c = Gives c.function (map num c.series) c.cells

-- ---- the theorem

-- as many cells as a list has, written to it, are the list
all_written : {A : Type 0} (k : ℕ) (f : ℕ → A) (old : List A) → length old ≡ k → written k f old ≡ first_cells k f
all_written zero f [] e = refl
all_written zero f (x ∷ old) e = absurd (omega arith)
all_written (suc k) f [] e = absurd (omega arith)
all_written (suc k) f (x ∷ old) e =
    ap (λ (t : List _). f 0 ∷ t) (all_written k (λ i. f (suc i)) old (omega arith))

module _ {A : Type 0} (cell : A → Cell) (f : ℕ → A) (s : List Float) (cells : List Cell) where
  leaves : {due r : Answer} {out₀ out₁ : List A} → due ≡ Ok (length s)
      → map cell (first_cells (length s) f) ≡ cells → length out₀ ≡ length s
      → Call due f out₀ r out₁ → Leaves cell s cells r out₁
  leaves {out₀ = out₀} d e long c =
      let a = c.answer ∙ d in
      record { answer = a; output = rw (c.cells, a, all_written (length s) f out₀ long) e }

  plain : (due : List Float → ℕ → Answer) → due s (length s) ≡ Ok (length s)
      → map cell (first_cells (length s) f) ≡ cells
      → Plain cell (λ out₀. Call (due s (length out₀)) f out₀) s cells
  plain due d e out₀ out₁ r long c = leaves (rw long d) e long c

  working : (due : List Float → ℕ → ℕ → Answer) → due s (length s) (8 * length s) ≡ Ok (length s)
      → map cell (first_cells (length s) f) ≡ cells
      → Working cell (λ out₀ work₀. WorkCall (due s (length out₀) (length work₀)) f out₀ (length s) work₀) s cells
  working due d e out₀ out₁ work₀ work₁ r long wide c = leaves (rw (long, wide) d) e long c.call

pub starred : Every Holds table
unfolding sma_line carried total to_tick tick_mean_line single_line running_mean double_line double_answer mean
    window_sum sum_from running_sum recur from_bar slices checked windowed answered accepted tick sign_of add sub mul
    div of_int to_signed whole lt eq le to_bits rank_line whole_rank below_now count_from round_to_whole round
    rolling_rank_line rolling_rank_answer ten_to_minus magnitude_of neg mms_line extreme pick_from turned_bands
    band_signals answered_with hold moved deviation sqrt_of nearest_root root root_below finite holt_winters_line
    holt_winters_answer fit_line fit_within next_fit
starred =
    plain number _ _ _ (λ s o. answered accepted s (2 ∷ []) o []) refl refl
    also plain number _ _ _ (λ s o. double_answer s 1 2 o) refl refl
    also working number _ _ _ (λ s o w. answered accepted s (2 ∷ []) o (w ∷ [])) refl refl
    also working number _ _ _ (λ s o w. answered accepted s (2 ∷ []) o (w ∷ [])) refl refl
    also working number _ _ _ (λ s o w. answered accepted s (1 ∷ []) o (w ∷ [])) refl refl
    also working (λ k. integer (pos k)) _ _ _ (λ s o w. rolling_rank_answer s 2 o w) refl refl
    also working number _ _ _ (λ s o w. mms_answer s 1 2 o w) refl refl
    also working integer _ _ _ (λ s o w. answered_with accepted s (one_half ∷ []) (2 ∷ []) o (w ∷ [])) refl refl
    also plain number _ _ _ (λ s o. answered accepted s (3 ∷ []) o []) refl refl
    also working number _ _ _ (λ s o w. holt_winters_answer s 1 (weights one_half (num 0) (num 0)) o w) refl refl
    also plain integer _ _ _ (λ s o. answered tick s (2 ∷ []) o []) refl refl
    also done
