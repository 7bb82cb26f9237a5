-- Running sums of whole ticks are those summed afresh. Assumes nothing.
use mathlib.Core.Path.{◌≡◌}
use mathlib.Core.Bool.{true}
use mathlib.Core.List.{List}
use Prim.Native.Nat.{ℕ, ◌+◌, ◌-◌, ◌<◌, ◌≤◌}
use native.Mathlib.Omega.{arith}
use lib.Dec.{T}
use lib.IntN.{ℤ}
use lib.ListN.{length}
use lib.Ieee.{Float, binary64, add, sub, fits}
use Rattle.limits.specs.Limits.{Window}
use Rattle.rounding.specs.Whole.{total}
use Rattle.rounding_laws.proofs.Integers.{total_slides}
use Rattle.values.specs.Accepted.{tick, all}
use Rattle.cells.specs.Line.{Line, line}
use Rattle.windows.specs.Window.{window_sum}
use Rattle.exact_ticks.proofs.Exact.{TickLine, window_size, sum_whole, difference_slides}
use Rattle.exact_ticks.proofs.TickMeans.{tick_line}

-- bar i comes in, and bar i - n goes out
slides : {l : ℕ} {f : Line} {t : ℕ → ℤ} → TickLine l f t → (n : ℕ) → Window n → (i : ℕ) → n ≤ i → i < l
    → add binary64 (window_sum n f (i - 1)) (sub binary64 (f i) (f (i - n))) ≡ window_sum n f i
unfolding window_sum
slides {t = t} w n o i h q =
    let a = i - n in
    let some = o.some in
    let narrow = o.narrow in
    let last : i - 1 + 1 - n ≡ a = omega arith in
    let next : i + 1 - n ≡ a + 1 = omega arith in
    let bar : a + n ≡ i = omega arith in
    rw (
      last,
      next,
      sum_whole w a n some (omega arith) (omega arith),
      sum_whole w (a + 1) n some (omega arith) (omega arith),
      w.is i (omega arith),
      w.is a (omega arith),
      total_slides t a n,
      bar,
    )
    (difference_slides.exact (total t a n) (t i) (t a) (omega (arith, window_size w a n (omega arith)))
    (omega (arith, w.small i (omega arith))) (omega (arith, w.small a (omega arith))))

pub slid_sum : (s : List Float) (n i : ℕ) → ((j : ℕ) → T (fits binary64 (line s j))) → all tick s ≡ true → Window n
    → (n ≤ i) × (i < length s) → {x : Float} → x ≡ window_sum n (line s) (i - 1)
    → add binary64 x (sub binary64 (line s i) (line s (i - n))) ≡ window_sum n (line s) i
slid_sum s n i floats ticks o (h, q) e = rw e (slides (tick_line s (λ j l. floats j) ticks) n o i h q)
