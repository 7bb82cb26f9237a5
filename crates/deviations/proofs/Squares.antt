-- Squares about a middle, of one bar and of bars side by side. Assumes nothing.
use mathlib.Core.Path.{◌≡◌, ◌∙◌}
use Rattle.std.proofs.Common.{List, length, map}
use Prim.Native.Nat.{ℕ, ◌+◌, ◌-◌, ◌≤◌}
use native.Mathlib.Nat.{zero-add}
use native.Mathlib.Omega.{arith}
use lib.Ieee.{Float, nan, binary64, add, sub}
use Rattle.std.proofs.lemmas.List.{get_or-map, length-map}
use Rattle.cells.specs.Line.{Line, line, plus_zero, minus_zero}
use Rattle.cells.specs.Written.{Writing}
use Rattle.cells.proofs.Written.{length_written, ends}
use Rattle.cells.proofs.Line.{from_bar_lem}
use Rattle.windows.specs.Window.{mean, over, window_sum}
use Rattle.windows.specs.inner.Sums.{Summing}
use Rattle.windows.specs.inner.Lanes.{LanesOf}
use Rattle.windows.proofs.Lanes.{SummingLanes, more_in_lanes}
use Rattle.deviations.specs.Deviation.{square, squares_about, variance}
use Rattle.deviations.specs.inner.Spread.{each_plus_square, About}

-- the squares of the distances of a line's cells from m
abbrev pub from_middle : Float → Line → Line
from_middle m f j = square (sub binary64 (f j) m)

-- the sum of n of them that starts at bar a, where the window that ends at bar i starts
pub squares_from : (n i : ℕ) (m : Float) (f : Line) {a k : ℕ} {x : Float} → Summing minus_zero (from_middle m f) a k x
    → (k ≡ n) × (a + n ≡ i + 1) → x ≡ squares_about minus_zero n m f i
squares_from n i m f {a} s (p, q) =
    let start : i + 1 - n ≡ a = omega arith in
    rw (s.is, p, start)

-- the variance is that about the mean
pub variance_about : (d n i : ℕ) (f : Line) {m x : Float} → m ≡ mean n f i → x ≡ squares_about minus_zero n m f i
    → n ≤ i + 1
    → over d x ≡ variance minus_zero d n f i
unfolding mean window_sum
variance_about d n i f p q h = rw (q, p, from_bar_lem (n - 1) plus_zero _ i (omega arith))

-- ---- bars side by side

-- one more square in each
pub plus_squares_in_lanes : {N : ℕ} {old now : List Float} {a k : ℕ} (m : List Float) (f : Line)
    → SummingLanes N (λ j. from_middle (line m j) f) a k old → now ≡ each_plus_square f (a + k) m old
    → SummingLanes N (λ j. from_middle (line m j) f) a (k + 1) now
plus_squares_in_lanes {old = old} {now} {a} {k} m f s e =
    let w : Writing (length old) (λ j. add binary64 (line old j) (from_middle (line m j) f (a + k + j))) old now =
    record { is = e; long = rw e (length_written (length old) _ old) } in
    more_in_lanes s (ends w s.long)

-- the squares of the windows that end at the bars from i on, the first of which starts at bar a
pub squares_of_lanes : {N : ℕ} {f : Line} {m r : List Float} {a k : ℕ} (n i : ℕ)
    → SummingLanes N (λ j. from_middle (line m j) f) a k r → (k ≡ n) × (a + n ≡ i + 1) → About N n f i m r
squares_of_lanes {f = f} {m} n i s (p, q) = record {
  long = s.long;
  lane = λ j l. squares_from n (i + j) (line m j) f (s.lane j l) (omega arith);
}

-- the variances at those bars, from the squares about the means
pub variances_of_lanes : {N : ℕ} {m r v : List Float} (d n i : ℕ) (f : Line) → LanesOf N (mean n f) i m
    → About N n f i m r → v ≡ map (over d) r → n ≤ i + 1 → LanesOf N (variance minus_zero d n f) i v
variances_of_lanes {r = r} d n i f p q e h =
    rw e
    (record {
      long = length-map r (over d) ∙ q.long;
      lane = λ j l.
          let long = q.long in
          get_or-map (over d) r j nan nan (omega arith)
          ∙ variance_about d n (i + j) f (p.lane j l) (q.lane j l) (omega arith);
    })

-- the same cells, counted from bar i on
pub counted_from : {N : ℕ} {f : Line} (i : ℕ) {r : List Float} → LanesOf N f i r → LanesOf N (λ j. f (i + j)) 0 r
counted_from i e = record { long = e.long; lane = λ j l. rw zero-add (e.lane j l) }
