-- Both Bollinger rules: no look-ahead, what their cells are, and what opens a position. Assumes nothing.
use mathlib.Core.Path.{◌≡◌, refl}
use mathlib.Core.Bool.{Bool, true, false, cond}
use Prim.Native.Nat.{ℕ, suc, ◌-◌, ◌*◌}
use lib.Dec.{leb}
use lib.IntN.{ℤ, neg_ℤ}
use lib.Ieee.{Float, binary64, add, sub, mul, lt}
use lib.Ieee.Fits.{add-fits, sub-fits}
use Rattle.rounding.specs.Literals.{ten_to_minus}
use Rattle.rounding_order.proofs.WithZero.{lt_plus_zero, lt_less_zero}
use Rattle.cells.specs.Line.{Line, plus_zero, minus_zero, from_bar, Causal}
use Rattle.cells.proofs.Line.{causal_self, causal_then, causal_from}
use Rattle.windows.specs.Window.{mean}
use Rattle.windows.proofs.Window.{causal_mean}
use Rattle.deviations.specs.Deviation.{deviation, upper_band, lower_band}
use Rattle.deviations.proofs.Causal.{causal_deviation}
use Rattle.rules_held.specs.Held.{flat, long, short, Signal, silent}
use Rattle.rules_held.proofs.Holding.{
  Position,
  at_flat,
  at_long,
  at_short,
  either_position,
  held_position,
  causal_hold,
  never_adjoin,
}
use Rattle.rules_bands.specs.Boll.{beyond, outside_bands, boll_line}
use Rattle.rules_bands.specs.BollReverse.{opens_at, band_signals, turned_bands, boll_reverse_line}

-- ---- no look-ahead

pub causal_outside : (n : ℕ) (k : Float) → Causal (outside_bands n k)
unfolding outside_bands
causal_outside n k =
    causal_from (2 * n - 2) flat
    (λ f g b s l. rw (causal_self f g b s, causal_mean n f g b s, causal_deviation minus_zero (n - 1) n f g b s))

pub causal_signals : (n : ℕ) (k : Float) → Causal (band_signals n k)
unfolding band_signals
causal_signals n k =
    causal_from (2 * n - 2) silent
    (λ f g b s l. rw (causal_self f g b s, causal_mean n f g b s, causal_deviation minus_zero n n f g b s))

pub causal_turned : (n : ℕ) (k : Float) → Causal (turned_bands n k)
unfolding turned_bands
causal_turned n k = causal_hold (causal_signals n k)

pub causal_boll : (n : ℕ) (k : Float) → Causal (boll_line n k)
causal_boll n k = causal_then (causal_mean n) (causal_outside n k)

pub causal_boll_reverse : (n : ℕ) (k : Float) → Causal (boll_reverse_line n k)
causal_boll_reverse n k = causal_then (causal_mean n) (causal_turned n k)

-- ---- what the cells are: -1, 0 or +1

from_position : (b : ℕ) (f : ℕ → ℤ) → ((i : ℕ) → Position (f i)) → (i : ℕ) → Position (from_bar b flat f i)
unfolding from_bar
from_position b f p i = either_position (leb b i) (p i) at_flat

pub beyond_position : (margin average middle k width : Float) → Position (beyond margin average middle k width)
beyond_position margin average middle k width =
    either_position (lt (add binary64 (upper_band k middle width) margin) average) at_long
    (either_position (lt average (sub binary64 (lower_band k middle width) margin)) at_short at_flat)

pub boll_position : (n : ℕ) (k : Float) (f : Line) (i : ℕ) → Position (boll_line n k f i)
unfolding outside_bands
boll_position n k f i = from_position (2 * n - 2) _
    (λ j. beyond_position (ten_to_minus 10) (mean n f j) (mean n (mean n f) j) k
    (deviation minus_zero (n - 1) n (mean n f) j)) i

opens_position : (average middle k width : Float) → Position (opens_at average middle k width)
opens_position average middle k width =
    either_position (lt (upper_band k middle width) average) at_short
    (either_position (lt average (lower_band k middle width)) at_long at_flat)

from_opens : (b : ℕ) (f : ℕ → Signal) → ((i : ℕ) → Position (f i).opens) → (i : ℕ)
    → Position (from_bar b silent f i).opens
unfolding from_bar
from_opens b f p i = go (leb b i)
  where
    go : (t : Bool) → Position (cond t (f i) silent).opens
    go true = p i
    go false = at_flat

pub boll_reverse_position : (n : ℕ) (k : Float) (f : Line) (i : ℕ) → Position (boll_reverse_line n k f i)
unfolding turned_bands band_signals
boll_reverse_position n k f i =
    let g = mean n f in
    held_position (band_signals n k g)
    (from_opens (2 * n - 2) _ (λ j. opens_position (g j) (mean n g j) k (deviation minus_zero n n g j)))
    i

-- of two neighbouring cells never is one +1 and the other -1
pub boll_reverse_neighbours : (n : ℕ) (k : Float) (f : Line) (i : ℕ)
    → (boll_reverse_line n k f i ≡ long → boll_reverse_line n k f (suc i) ≡ short → ⊥)
    × (boll_reverse_line n k f i ≡ short → boll_reverse_line n k f (suc i) ≡ long → ⊥)
unfolding turned_bands
boll_reverse_neighbours n k f i = never_adjoin (band_signals n k (mean n f)) i

-- ---- beyond the bands, and what that opens

-- beyond the bands by any margin, to the other side
pub opens_other_side : (average middle k width : Float)
    → neg_ℤ (beyond plus_zero average middle k width) ≡ opens_at average middle k width
opens_other_side average middle k width =
    rw (
      lt_plus_zero (upper_band k middle width) average (add-fits binary64 middle (mul binary64 k width)),
      lt_less_zero (lower_band k middle width) average (sub-fits binary64 middle (mul binary64 k width)),
    )
    (turned (lt (upper_band k middle width) average) (lt average (lower_band k middle width)))
  where
    turned : (p q : Bool) → neg_ℤ (cond p long (cond q short flat)) ≡ cond p short (cond q long flat)
    turned true q = refl
    turned false true = refl
    turned false false = refl
