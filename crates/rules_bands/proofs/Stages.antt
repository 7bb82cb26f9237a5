-- Both Bollinger rules in one: a position from a middle and a variance, and the line of positions, which has no
-- look-ahead, is a recurrence, and begins flat. Assumes nothing.
use mathlib.Core.Path.{◌≡◌, refl, sym, ◌∙◌}
use mathlib.Core.Bool.{Bool, true, false}
use mathlib.Core.List.{List}
use Prim.Native.Nat.{ℕ, zero, suc, ◌+◌, ◌-◌, ◌*◌, ◌<◌, ◌≤◌}
use native.Mathlib.Omega.{arith}
use lib.IntN.{ℤ}
use lib.ListN.{length, get_or}
use lib.Ieee.{Float, nan, binary64}
use Rattle.rounding_root.specs.Root.{sqrt_of}
use Rattle.cells.specs.Line.{Line, minus_zero, Causal}
use Rattle.cells.specs.Recur.{recur}
use Rattle.cells.specs.Written.{Writing}
use Rattle.cells.specs.inner.Leads.{Led}
use Rattle.cells.specs.inner.Recurring.{Recurring}
use Rattle.cells.proofs.Leads.{lead_stands}
use Rattle.cells.proofs.Line.{from_bar_lem}
use Rattle.cells.proofs.Recur.{one_step}
use Rattle.cells.proofs.Written.{read_back}
use Rattle.windows.specs.Window.{mean}
use Rattle.deviations.specs.Deviation.{variance, deviation}
use Rattle.rules_held.specs.Held.{flat, silent, hold}
use Rattle.rules_held.proofs.Holding.{flat_stands}
use Rattle.rules_bands.specs.Boll.{outside_bands}
use Rattle.rules_bands.specs.BollReverse.{band_signals, turned_bands}
use Rattle.rules_bands.specs.inner.Stages.{
  divisor_of,
  position_after,
  position_step,
  band_positions,
  position_before,
}
use Rattle.rules_bands.proofs.Bands.{causal_outside, causal_turned}

-- ---- a position from a middle and a variance

-- the root of the variance is the deviation
deviation_of : (d n i : ℕ) (g : Line) {v : Float} → v ≡ variance minus_zero d n g i → n ≤ i + 1
    → sqrt_of binary64 v ≡ deviation minus_zero d n g i
unfolding deviation
deviation_of d n i g e h = rw (e, from_bar_lem (n - 1) nan _ i (omega arith))

-- so the middle and the variance of a bar make its step
pub step_at : (reverse : Bool) (n : ℕ) (k : Float) (g : Line) (i : ℕ) (z : ℤ) {m v : Float} → m ≡ mean n g i
    → v ≡ variance minus_zero (divisor_of reverse n) n g i → 2 * n ≤ i + 2
    → position_after reverse z (g i) m k (sqrt_of binary64 v) ≡ position_step reverse n k g i z
unfolding position_step band_signals outside_bands
step_at true n k g i z p q h =
    rw (p, deviation_of n n i g q (omega arith), from_bar_lem (2 * n - 2) silent _ i (omega arith))
step_at false n k g i z p q h =
    rw (p, deviation_of (n - 1) n i g q (omega arith), from_bar_lem (2 * n - 2) flat _ i (omega arith))

-- ---- the line of positions

-- no look-ahead
pub causal_positions : (reverse : Bool) (n : ℕ) (k : Float) → Causal (band_positions reverse n k)
unfolding band_positions
causal_positions true n k = causal_turned n k
causal_positions false n k = causal_outside n k

-- it is the recurrence of its steps from flat, by either rule
positions_recur : (reverse : Bool) (n : ℕ) (k : Float) (g : Line) (i : ℕ)
    → recur flat (position_step reverse n k g) (suc i) ≡ band_positions reverse n k g i
unfolding position_step band_positions turned_bands hold recur
positions_recur true n k g i = refl
positions_recur false n k g i = refl

module _ (reverse : Bool) (n : ℕ) (k : Float) (g : Line) where
  -- what stands before bar i is the position after i bars
  pub recurring_before : (i : ℕ) {out : List ℤ} → Writing i (band_positions reverse n k g) out out → i ≤ length out
      → Recurring flat (position_step reverse n k g) i (position_before i out)
  unfolding position_before recur
  recurring_before zero w h = record { is = refl }
  recurring_before (suc i) w h =
      record { is = read_back i flat w (omega arith) ∙ sym (positions_recur reverse n k g i) }

  -- one more bar
  pub recurring_on : (i j : ℕ) {z y : ℤ} → Recurring flat (position_step reverse n k g) (i + j) z
      → y ≡ position_step reverse n k g (i + j) z
      → Recurring flat (position_step reverse n k g) (i + (j + 1)) y × (y ≡ band_positions reverse n k g (i + j))
  recurring_on i j r e =
      let next = one_step r e in
      let on : i + (j + 1) ≡ i + j + 1 = omega arith in
      let one : i + j + 1 ≡ suc (i + j) = omega arith in
      (rw on next, next.is ∙ rw one (positions_recur reverse n k g (i + j)))

-- it begins with flat cells, which a lead of them writes
pub flat_lead : (reverse : Bool) (n : ℕ) (k : Float) (g : Line) {bars r : ℕ} {old now : List ℤ}
    → Led (2 * n - 2) bars flat r old now → Writing r (band_positions reverse n k g) now now
unfolding band_positions turned_bands band_signals outside_bands
flat_lead true n k g w = flat_stands _ w
flat_lead false n k g w = lead_stands _ w

-- ---- the position before a bar, as the code reads it

pub before_some : (i : ℕ) (out : List ℤ) → 0 < i → get_or out (i - 1) flat ≡ position_before i out
unfolding position_before
before_some zero out h = absurd (omega arith)
before_some (suc i) out h = let bar : suc i - 1 ≡ i = omega arith in rw bar

pub before_none : (i : ℕ) (out : List ℤ) → i ≤ 0 → flat ≡ position_before i out
unfolding position_before
before_none zero out h = refl
before_none (suc i) out h = absurd (omega arith)
