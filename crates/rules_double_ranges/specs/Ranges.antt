-- double_sma_ranges, our own: the two-average rule on prices that are known only within a range, a low and a high for
-- each bar. What it answers and writes, on whole numbers. Assumes nothing.
use Rattle.std.specs.Prelude.{Bool, true, false, not, cond, List, [], ◌∷◌, ℕ, ◌+◌, ◌-◌, leb, ltb, ℤ, pos, negsuc, ◌*ℤ◌, length, Float, Ok}
use Rattle.std.specs.Int.Signed.{lt_z}
use Rattle.std.specs.Float.Ieee.{to_signed}
use Rattle.calls.specs.declared.Refusal.TheVariants.{WindowsOutOfOrder}
use Rattle.calls.specs.Answer.{Answer, ranged, and_then, unless, windowed}
use Rattle.calls.specs.Call.{Call}
use Rattle.cells.specs.Line.{Line, from_bar, line}
use Rattle.windows.specs.Window.{window_total}

-- a line of whole ticks as whole numbers: `to_signed 63` is Rust's `as i64`
abbrev pub ticks : Line → ℕ → ℤ
ticks f i = to_signed 63 (f i)

-- f before bar k, and g from it on
unfoldable pub joined : {A : Type 0} → ℕ → (ℕ → A) → (ℕ → A) → ℕ → A
joined k f g i = cond (leb k i) (g i) (f i)

-- the double rule gives +1: m times the last n prices' sum is at least n times the last m prices' sum
unfoldable pub gives_long : ℕ → ℕ → (ℕ → ℤ) → ℕ → Bool
gives_long n m t i = not (lt_z (window_total n t i *ℤ pos m) (window_total m t i *ℤ pos n))

-- the cell: the series that is worst for +1 gives it; only the best one does; not even that one
abbrev pub picked : Bool → Bool → ℤ
picked true best = pos 1
picked false true = pos 2
picked false false = negsuc 0

-- From bar m - 1 on. At bar i the worst series for +1 has the lows in the last n bars and the highs before them, and
-- the best one has it the other way round.
unfoldable pub ranges_line : ℕ → ℕ → Line → Line → ℕ → ℤ
ranges_line n m low high =
    from_bar (m - 1) (pos 0)
    (λ i. picked (gives_long n m (joined (i + 1 - n) (ticks high) (ticks low)) i)
    (gives_long n m (joined (i + 1 - n) (ticks low) (ticks high)) i))

-- refusals 1 to 5 and 11 of the ranges, 7 of the windows, and after the empty answer refusal 9 where n is not below m
unfoldable pub ranges_answer : List Float → List Float → ℕ → ℕ → ℕ → Answer
ranges_answer low high n m output =
    and_then (ranged low high output)
    (windowed (length low) (n ∷ m ∷ [])
    (unless (ltb n m) WindowsOutOfOrder (Ok (length low))))

-- what a call of `double_sma_ranges` promises
abbrev pub RangesCall : List Float → List Float → ℕ → ℕ → List ℤ → Answer → List ℤ → Type 0
RangesCall low high n m out₀ =
    Call (ranges_answer low high n m (length out₀)) (ranges_line n m (line low) (line high)) out₀
