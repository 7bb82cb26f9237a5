-- The ultimate oscillator: its cells as the loops find them, and no look-ahead. Assumes nothing.
use mathlib.Core.Path.{◌≡◌, ◌∙◌}
use mathlib.Core.List.{List}
use Prim.Native.Nat.{ℕ, ◌+◌, ◌-◌, ◌*◌, ◌<◌, ◌≤◌, max}
use native.Mathlib.Nat.{le_refl}
use native.Mathlib.Omega.{arith}
use lib.ListN.{length}
use lib.Ieee.{Float, nan}
use Rattle.cells.specs.Line.{Line, line, plus_zero, minus_zero, Same}
use Rattle.cells.proofs.Carried.{from_same}
use Rattle.cells.specs.Written.{Writing}
use Rattle.cells.proofs.Written.{read_back, ends, writing_same}
use Rattle.cells.specs.inner.Rows.{beside}
use Rattle.cells.proofs.RowWrites.{beside_first, beside_second}
use Rattle.window_means.specs.inner.Row.{row_at}
use Rattle.windows.specs.inner.Lanes.{LanesOf}
use Rattle.windows.proofs.Lanes.{lanes_written}
use Rattle.windows.specs.Window.{window_sum}
use Rattle.windows.proofs.Window.{sum_from_same}
use Rattle.windows.proofs.Zeros.{EitherZero, sums_from_either}
use Rattle.std.specs.Prelude.{Option}
use Rattle.true_range.specs.TrueRange.{true_ranges, close_before}
use Rattle.true_range.proofs.TrueRange.{Causal₃, causal_close, causal_ranges}
use Rattle.oscillator.specs.Oscillator.{pressure, pressures, ratio, weighed, share, weighed_shares, oscillator_line}
use Rattle.oscillator.specs.declared.periods.Periods.{Periods}
use Rattle.oscillator.specs.inner.Begun.{afresh}
use Rattle.oscillator.proofs.Cells.{cell_is}

-- ---- lines that agree

module _ (z : Float) (f f' g g' : Line) (b : ℕ) (p : Same f f' b) (q : Same g g' b) where
  share_same : (n : ℕ) → n ≤ b + 1 → share z n f g b ≡ share z n f' g' b
  unfolding share
  share_same n h = rw (
    sum_from_same z f f' (b + 1 - n) n (λ j m. p j (omega arith)),
    sum_from_same z g g' (b + 1 - n) n (λ j m. q j (omega arith)),
  )

  pub shares_same : (n m k : ℕ) → weighed_shares z n m k f g b ≡ weighed_shares z n m k f' g' b
  unfolding weighed_shares
  shares_same n m k =
      from_same (max n (max m k) - 1) nan _ _ b
      (λ l. rw (share_same n (omega arith), share_same m (omega arith), share_same k (omega arith)))

-- ---- sums from either zero

module _ (f g : Line) (i : ℕ) (p : (j : ℕ) → j ≤ i → EitherZero (f j)) (q : (j : ℕ) → j ≤ i → EitherZero (g j)) where
  share_either : (n : ℕ) → 0 < n → n ≤ i + 1 → share minus_zero n f g i ≡ share plus_zero n f g i
  unfolding share
  share_either n N h = rw (
    sums_from_either f (i + 1 - n) n N (p _ (omega arith)),
    sums_from_either g (i + 1 - n) n N (q _ (omega arith)),
  )

  pub shares_either : (n m k : ℕ) → (0 < n) × (0 < m) × (0 < k)
      → weighed_shares minus_zero n m k f g i ≡ weighed_shares plus_zero n m k f g i
  unfolding weighed_shares
  shares_either n m k (N, M, K) =
      from_same (max n (max m k) - 1) nan _ _ i
      (λ l. rw (share_either n N (omega arith), share_either m M (omega arith), share_either k K (omega arith)))

-- ---- the cells, as the loops find them

pub pressure_at : (low close : Line) (first : Option Float) (i : ℕ) {x : Float} {before : Option Float}
    → x ≡ pressure (low i) (close i) before → before ≡ close_before first close i → x ≡ pressures first low close i
unfolding pressures
pressure_at low close first i e h = rw (e, h)

-- the sums of the first k lanes over others, each a share
pub shares_of_lanes : {N k : ℕ} (n i : ℕ) (f g : Line) {x y now : List Float} → LanesOf N (window_sum n f) i x
    → LanesOf N (window_sum n g) i y → Writing k (λ j. ratio (line x j) (line y j)) x now → k ≡ N
    → LanesOf N (share minus_zero n f g) i now
unfolding share window_sum
shares_of_lanes n i f g p q w e = lanes_written (ends w e) p.long (λ j l. rw (p.lane j l, q.lane j l))

-- three shares of the first k lanes, weighed
pub cells_of_lanes : {N k : ℕ} (z : Float) (n m l i : ℕ) (f g : Line) {x y w now : List Float}
    → LanesOf N (share z n f g) i x → LanesOf N (share z m f g) i y → LanesOf N (share z l f g) i w
    → Writing k (λ j. weighed (line x j) (line y j) (line w j)) x now → (k ≡ N) × (max n (max m l) ≤ i + 1)
    → LanesOf N (weighed_shares z n m l f g) i now
cells_of_lanes z n m l i f g a b c v (e, h) =
    lanes_written (ends v e) a.long
    (λ j s. cell_is z n m l (i + j) f g (a.lane j s) (b.lane j s) (c.lane j s) (omega arith))

-- ---- from slices to lines

-- the rows are parts of slices that hold f and g
pub from_parts : (w : Periods) (b : ℕ) (f g : Line) (p q : List Float) {old now : List Float}
    → Writing (length p) (afresh w p q) old now → length p ≡ b
    → ((j : ℕ) → j < b → line p j ≡ f j) → ((j : ℕ) → j < b → line q j ≡ g j)
    → Writing b (weighed_shares minus_zero w.short w.medium w.long f g) old now
from_parts w b f g p q v e x y =
    writing_same (ends v e)
    (λ i l. shares_same minus_zero (line p) f (line q) g i (λ j h. x j (omega arith)) (λ j h. y j (omega arith))
    w.short w.medium w.long)

-- the rows hold pressures and ranges
pub from_rows : (n m k b : ℕ) (f g : Line) {work rows old now : List Float} → Writing (b + b) (beside b f g) work rows
    → 2 * b ≤ length work
    → Writing b (weighed_shares minus_zero n m k (line rows) (row_at b rows)) old now
    → Writing b (weighed_shares minus_zero n m k f g) old now
from_rows n m k b f g {rows = rows} r h w =
    writing_same w
    (λ i l. shares_same minus_zero (line rows) f (row_at b rows) g i
    (λ j s. read_back j nan r (omega arith) ∙ beside_first b f g j (omega arith))
    (λ j s. read_back (b + j) nan r (omega arith) ∙ beside_second b f g j) n m k)

-- ---- no look-ahead

pub causal_pressures : (first : Option Float) (l l' c c' : Line) (b : ℕ) → Same l l' b → Same c c' b
    → pressures first l c b ≡ pressures first l' c' b
unfolding pressures
causal_pressures first l l' c c' b y z = rw (y b (le_refl b), z b (le_refl b), causal_close first c c' b z)

pub causal_oscillator : (n m k : ℕ) (first : Option Float) → Causal₃ (oscillator_line n m k first)
unfolding oscillator_line
causal_oscillator n m k first h h' l l' c c' b x y z =
    shares_same plus_zero (pressures first l c) (pressures first l' c') (true_ranges h l (close_before first c))
    (true_ranges h' l' (close_before first c')) b
    (λ j s. causal_pressures first l l' c c' j (λ i r. y i (omega arith)) (λ i r. z i (omega arith)))
    (λ j s. causal_ranges (causal_close first) h h' l l' c c' j (λ i r. x i (omega arith)) (λ i r. y i (omega arith))
    (λ i r. z i (omega arith)))
    n m k
