-- tick_mean, our own: what it answers and writes, on whole numbers. Assumes nothing.
use Rattle.std.specs.Prelude.{List, [], ◌∷◌, ℕ, suc, ◌+◌, ◌-◌, ℤ, pos, negsuc, neg_ℤ, Float, length}
use Rattle.std.specs.Float.Ieee.{to_signed}
use Rattle.std.specs.Float.Ieee.Nearest.{closest}
use Rattle.rounding.specs.Whole.{total}
use Rattle.cells.specs.Line.{Line, from_bar, line}
use Rattle.calls.specs.Answer.{answered, Answer}
use Rattle.calls.specs.Call.{Call}
use Rattle.values.specs.Accepted.{tick}

-- z / n to a whole tick, a half to the even one: its size is rounded by `closest`, as in every operation of IEEE 754
unfoldable pub to_tick : ℤ → ℕ → ℤ
to_tick (pos a) n = pos (closest a n)
to_tick (negsuc a) n = neg_ℤ (pos (closest (suc a) n))

-- ---- tick_mean, our own: on whole numbers

-- the whole ticks f a + .. + f (a + k - 1): `to_signed 63` is Rust's `as i64`
abbrev pub tick_sum : Line → ℕ → ℕ → ℤ
tick_sum f = total (λ j. to_signed 63 (f j))

-- the window's sum over n, and 0 before bar n - 1
unfoldable pub tick_mean_line : ℕ → Line → ℕ → ℤ
tick_mean_line n f = from_bar (n - 1) (pos 0) (λ i. to_tick (tick_sum f (i + 1 - n) n) n)

-- what a call of `tick_mean` promises
abbrev pub TickMeanCall : List Float → ℕ → List ℤ → Answer → List ℤ → Type 0
TickMeanCall s n out₀ = Call (answered tick s (n ∷ []) (length out₀) []) (tick_mean_line n (line s)) out₀
