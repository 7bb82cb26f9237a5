-- The outer lines have no look-ahead, are NaN where the width is, and are made in stages. Assumes nothing.
use mathlib.Core.Path.{◌≡◌, sym}
use mathlib.Core.List.{List}
use Prim.Native.Nat.{ℕ, ◌≤◌}
use native.Mathlib.Omega.{arith}
use lib.ListN.{length}
use lib.Ieee.{Float, nan, neg, sub}
use Rattle.cells.specs.Line.{Line, line, Causal}
use Rattle.cells.specs.Written.{Writing}
use Rattle.cells.proofs.Line.{causal_with}
use Rattle.cells.proofs.Written.{writing_same, then_written, read_back}
use Rattle.deviations.specs.Deviation.{upper_band, lower_band}
use Rattle.rounding.proofs.NotANumber.{nan_last, nan_factor}
use Rattle.outer_lines.specs.OuterLines.{upper_line, lower_line}

-- ---- no look-ahead

module _ {A : Type 0} (k : Float) {F G : (ℕ → A) → Line} (p : Causal F) (q : Causal G) where
  pub causal_upper : Causal (λ f. upper_line k (F f) (G f))
  unfolding upper_line
  causal_upper = causal_with (upper_band k) p q

  pub causal_lower : Causal (λ f. lower_line k (F f) (G f))
  unfolding lower_line
  causal_lower = causal_with (lower_band k) p q

-- ---- NaN

-- a width that is NaN makes both NaN
module _ (k : Float) (middle width : Line) (i : ℕ) (e : width i ≡ nan) where
  pub nan_upper : upper_line k middle width i ≡ nan
  unfolding upper_line
  nan_upper = rw (e, nan_factor, nan_last)

  pub nan_lower : lower_line k middle width i ≡ nan
  unfolding lower_line sub neg
  nan_lower = rw (e, nan_factor, nan_last)

-- ---- stages

-- The middle line m stands in `mid`, the widths w stand in `wide`; what is made of them is made of m and w.
module _ (k : Float) {bars : ℕ} {m w : Line} {a mid b wide : List Float} (p : Writing bars m a mid)
    (q : Writing bars w b wide) (h : (bars ≤ length a) × (bars ≤ length b)) where
  pub upper_of : {now : List Float} → Writing bars (upper_line k (line mid) (line wide)) wide now
      → Writing bars (upper_line k m w) b now
  unfolding upper_line
  upper_of v =
      then_written q
      (writing_same v (λ i l. rw (read_back i nan p (omega arith), read_back i nan q (omega arith))))
      (omega arith)

  pub lower_of : {old now : List Float} → Writing bars (lower_line k (line mid) (line wide)) old now
      → Writing bars (lower_line k m w) old now
  unfolding lower_line
  lower_of v = writing_same v (λ i l. rw (read_back i nan p (omega arith), read_back i nan q (omega arith)))

-- a line that is NaN throughout
pub filled_upper : (k : Float) (middle width : Line) → ((i : ℕ) → width i ≡ nan) → {bars : ℕ} {old now : List Float}
    → Writing bars (λ i. nan) old now → Writing bars (upper_line k middle width) old now
filled_upper k middle width e v = writing_same v (λ i l. sym (nan_upper k middle width i (e i)))

pub filled_lower : (k : Float) (middle width : Line) → ((i : ℕ) → width i ≡ nan) → {bars : ℕ} {old now : List Float}
    → Writing bars (λ i. nan) old now → Writing bars (lower_line k middle width) old now
filled_lower k middle width e v = writing_same v (λ i l. sym (nan_lower k middle width i (e i)))
