-- Exact on whole ticks. A series here is a list of f64, each a whole number from -16,777,216 to 16,777,216
-- (`WholeTicks`). Every sum and product named below is one of whole numbers, never rounded; what is said from a bar
-- on holds there and at every later bar below the count k of the call's answer. Windows are all that a call takes, from
-- 1 to `longest_window` bars. Assumes nothing.
use Rattle.std.specs.Prelude.{◌≡◌, cond, Bool, false, true, List, [], ◌∷◌, ℕ, ◌+◌, ◌-◌, ◌*◌, ◌^◌, ◌<◌, ◌≤◌, ℤ, pos, nat_abs, ◌+ℤ◌, ◌*ℤ◌, length, get_or, Float, T, Ok}
use Rattle.std.proofs.Common.{sym, ◌∙◌, true≢false, arith}
use Rattle.std.specs.Int.Signed.{lt_z}
use Rattle.std.specs.Float.{nan, binary64}
use Rattle.std.specs.Float.Ieee.{low, round, fits}
use Rattle.rounding.specs.Leaves.{plus_one, minus_one}
use Rattle.rounding.specs.Whole.{is_negative}
use Rattle.rounding.specs.Nearest.{NearestTo, Number, distance}
use Rattle.rounding_laws.proofs.About.{About, fine}
use Rattle.rounding_laws.proofs.Quotient.{quotient, Whole, quotient_is, quotient_nearest, quotient_zero}
use Rattle.cells.specs.Line.{plus_zero, line}
use Rattle.cells.proofs.Line.{from_bar_lem}
use Rattle.rules_double.proofs.Open.{double_opened, double_room, double_whole}
use Rattle.rules_double.specs.Double.{DoubleCall}
use Rattle.exact_ticks.proofs.Exact.{window_whole, TickLine}
use Rattle.averages.proofs.Ticks.{sma_exact}
use Rattle.averages_ticks.proofs.Nearest.{tick_nearest}
use Rattle.averages_ticks.specs.Nearest.{NearestWhole}
use Rattle.averages_ticks.specs.TickMean.{TickMeanCall, tick_mean_line}
use Rattle.windows.specs.Window.{window_total}
use Rattle.guarantees.specs.Series.{WholeTicks, price}
use Rattle.rules_double.proofs.Ticks.{double_exact}
use Rattle.rules_single.proofs.Ticks.{single_exact}
use Rattle.extremes.specs.Whole.{highest, lowest}
use Rattle.rules_middle.proofs.Ticks.{middle_exact}
use Rattle.averages.specs.Sma.{SmaCall}
use Rattle.calls.proofs.Cells.{bar, cell_at}
use Rattle.exact_ticks.proofs.TickMeans.{tick_line}
use Rattle.rules_middle.specs.Middle.{MidCall}
use Rattle.rules_single.specs.Single.{SingleCall}
use Rattle.values.proofs.All.{all_at}
use Rattle.values.specs.Accepted.{accepted, tick}

-- the sum of the last n prices at bar i: its window sum
abbrev pub window_sum_of : ℕ → List Float → ℕ → ℤ
window_sum_of n s = window_total n (price s)

-- the sum of the last n window sums at bar i
abbrev pub D : ℕ → List Float → ℕ → ℤ
D n s = window_total n (window_sum_of n s)

-- the highest and the lowest of the last n window sums at bar i
abbrev pub H : ℕ → List Float → ℕ → ℤ
H n s = highest n (window_sum_of n s)

abbrev pub W : ℕ → List Float → ℕ → ℤ
W n s = lowest n (window_sum_of n s)

-- -1 where a is less than b, else +1
abbrev pub side_of : ℤ → ℤ → Float
side_of a b = cond (lt_z a b) minus_one plus_one

-- x is z / n rounded once: the f64 nearest to it, ties to even, and +0.0 where z is 0
pub record IsMean (z : ℤ) (n : ℕ) (x : Float) : Type 0 where
  pub rounded : x ≡ round binary64 (is_negative z) (nat_abs z) n
  pub nearest : NearestTo binary64 z n x
  pub zero : z ≡ pos 0 → x ≡ plus_zero

-- x is a finite f64 at most 1/131,072 away from z / c
pub record IsNearMean (z : ℤ) (c : ℕ) (x : Float) : Type 0 where
  pub number : Number binary64 x
  pub near : distance binary64 x z c * 131072 ≤ c * 2 ^ low binary64

-- Such an x is a number within an error of that size.
pub near_mean : {x : Float} {z : ℤ} {c : ℕ} → About binary64 x z c (c * (2 ^ 34 + 2 ^ 26)) → IsNearMean z c x
near_mean {x} {z} {c} a =
    record { number = a.number; near = small (distance binary64 x z c) (fine binary64) a.close }
  where
    small : (d u : ℕ) → d * 2 ≤ c * (2 ^ 34 + 2 ^ 26) * u → d * 131072 ≤ c * (2 ^ 53 * u)
    small d u h = omega (arith, h)

zero_mean : (z : ℤ) (n : ℕ) → Whole binary64 z n → z ≡ pos 0 → quotient binary64 z n ≡ plus_zero
zero_mean z n w e = rw e (quotient_zero (rw e at w))

is_true : (t : Bool) → t ≡ true → T t
is_true true e = tt
is_true false e = absurd (true≢false (sym e))

-- such a series' prices, as whole numbers
pub whole_ticks : {s : List Float} → WholeTicks s → TickLine (length s) (line s) (price s)
whole_ticks {s} w = tick_line s (λ i h. is_true _ (all_at (fits binary64) s i w.floats h)) w.ticks

-- ---- the statements

module _ {s out₀ out₁ : List Float} (w : WholeTicks s) (n : ℕ) {k : ℕ} where
  -- sma: from bar n - 1 each cell is the mean of the last n prices.
  pub sma_on_ticks : SmaCall s n out₀ (Ok k) out₁ → (i : ℕ) → n ≤ i + 1 → i < k
      → IsMean (window_sum_of n s i) n (get_or out₁ i nan)
  sma_on_ticks c i b h =
      let r = bar nan accepted s (n ∷ []) [] c i h in
      let N = r.each.0.some in
      let M = r.each.0.narrow in
      let t = whole_ticks w in
      let v = window_whole t n N (omega arith) (i + 1 - n) (omega (arith, r.inside)) in
      rw (r.cell, sma_exact t n N (omega arith) i b r.inside)
      (record {
        rounded = quotient_is v;
        nearest = quotient_nearest v;
        zero = λ e. zero_mean (window_sum_of n s i) n v e;
      })

  -- Double: from bar m - 1 the cell is +1 exactly when m times the last n prices' sum is at least n times the last m
  -- prices' sum, else -1.
  pub double_on_ticks : (m : ℕ) → DoubleCall s n m out₀ (Ok k) out₁ → (i : ℕ) → m ≤ i + 1 → i < k
      → get_or out₁ i nan ≡ side_of (window_sum_of n s i *ℤ pos m) (window_sum_of m s i *ℤ pos n)
  double_on_ticks m c i b h =
      let e = sym c.answer in
      let o = double_opened s n m (length out₀) k e (omega arith) in
      let whole = double_whole s n m (length out₀) k e (omega arith) in
      let room = (double_room s n m (length out₀) k e).out_long in
      let M = o.long.narrow in
      rw (cell_at nan c (omega arith) i h)
      (double_exact (whole_ticks w) n m i o.short.some o.order (omega arith) b (omega arith))

  module _ {work₀ work₁ : List Float} where
    -- One average: from bar 2n - 2 the cell has the sign of n · n · price - D, where that difference and D are not 0.
    pub single_on_ticks : SingleCall s n out₀ work₀ (Ok k) out₁ work₁ → (i : ℕ) → 2 * n ≤ i + 2 → i < k
        → ¬ (D n s i ≡ pos 0) → ¬ (price s i *ℤ pos (n * n) ≡ D n s i) → get_or out₁ i nan
        ≡ side_of (price s i *ℤ pos (n * n)) (D n s i)
    single_on_ticks c i b h x y =
        let r = bar nan accepted s (n ∷ []) (length work₀ ∷ []) c.call i h in
        let M = r.each.0.narrow in
        r.cell ∙ single_exact (whole_ticks w) n i r.each.0.some (omega arith) b r.inside x y

    -- Middle, with H and W the highest and the lowest of the last n window sums and S the
    -- present one: from bar 2n - 2 the cell has the sign of 2 · S - (H + W), where that difference, H and W are not
    -- 0.
    pub mid_on_ticks : MidCall s n out₀ work₀ (Ok k) out₁ work₁ → (i : ℕ) → 2 * n ≤ i + 2 → i < k
        → ¬ (H n s i ≡ pos 0) → ¬ (W n s i ≡ pos 0) → ¬ (window_sum_of n s i *ℤ pos 2 ≡ H n s i +ℤ W n s i)
        → get_or out₁ i nan ≡ side_of (window_sum_of n s i *ℤ pos 2) (H n s i +ℤ W n s i)
    mid_on_ticks c i b h x y z =
        let r = bar nan accepted s (n ∷ []) (length work₀ ∷ []) c.call i h in
        let M = r.each.0.narrow in
        r.cell ∙ middle_exact (whole_ticks w) n r.each.0.some (omega arith) i b r.inside x y z

-- tick_mean, for every window: from bar n - 1 each cell is a whole number nearest to the mean of the last n prices;
-- where another is as near it is even, and where no other is, it is what a half away from zero gives.
pub tick_mean_on_ticks : (s : List Float) {out₀ out₁ : List ℤ} (n : ℕ) {k : ℕ} → TickMeanCall s n out₀ (Ok k) out₁
    → (i : ℕ) → n ≤ i + 1 → i < k → NearestWhole (window_sum_of n s i) n (get_or out₁ i (pos 0))
unfolding tick_mean_line
tick_mean_on_ticks s n c i b h =
    let r = bar (pos 0) tick s (n ∷ []) [] c i h in
    rw (r.cell, from_bar_lem (n - 1) (pos 0) _ i (omega arith)) (tick_nearest (window_sum_of n s i) n r.each.0.some)
