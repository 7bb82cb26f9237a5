-- Two guesses at the root of v decide the cell of a band whose half-width is k times that root: where they do not, the
-- root itself does. So the cell is right whatever the guesses are. Assumes nothing.
use mathlib.Core.Path.{◌≡◌}
use mathlib.Core.Bool.{true, false}
use lib.Dec.{T}
use lib.Ieee.{Float, binary64, mul, lt, fits}
use Rattle.cells.specs.Line.{plus_zero}
use Rattle.rounding_root.specs.Root.{sqrt_of}
use Rattle.rules_held.specs.Held.{flat}
use Rattle.rules_bands.specs.Boll.{beyond}
use Rattle.rules_bands.proofs.Narrow.{beyond_kept, beyond_flat}
use Rattle.rounding_order.proofs.Enclosed.{root_under, root_over}

-- v and t are f64s, and none of the margin e, k and t is below 0
pub record Guess (e k v t : Float) : Type 0 where
  pub margin : lt e plus_zero ≡ false
  pub factor : lt k plus_zero ≡ false
  pub held_v : T (fits binary64 v)
  pub held : T (fits binary64 t)
  pub from_zero : lt t plus_zero ≡ false

module _ (e s m k v t : Float) (g : Guess e k v t) where
  -- a guess that is too low, and flat
  pub by_low : lt (mul binary64 t t) v ≡ true → beyond e s m k t ≡ flat → beyond e s m k (sqrt_of binary64 v) ≡ flat
  by_low h i =
      beyond_flat e m k t (sqrt_of binary64 v) g.margin g.factor
      (root_over v t g.held_v g.held g.from_zero h)
      s i

  -- a guess that is too high, and not flat
  pub by_high : lt v plus_zero ≡ false → lt v (mul binary64 t t) ≡ true → (beyond e s m k t ≡ flat → ⊥)
      → beyond e s m k (sqrt_of binary64 v) ≡ beyond e s m k t
  by_high z h i =
      beyond_kept e m k (sqrt_of binary64 v) t g.margin g.factor
      (root_under v t g.held_v g.held z g.from_zero h)
      s i
