-- What the functions under the exponential averages ask of each other. Assumes nothing.
use mathlib.Core.Path.{◌≡◌, refl}
use Prim.Native.Nat.{ℕ, zero, suc, ◌+◌, ◌-◌, ◌<◌}
use native.Mathlib.Omega.{arith}
use lib.Ieee.{Float, nan}
use Rattle.cells.specs.Line.{Line}
use Rattle.cells.proofs.Line.{from_bar_lem}
use Rattle.cells.specs.Recur.{recur, carried}
use Rattle.averages.specs.Blend.{blend}
use Rattle.averages.specs.inner.Blending.{blend_from, Blending}

module _ {alpha : Float} {a : ℕ} {seed : Float} {f : Line} where
  pub seeded : Blending alpha a seed f (a + 1) seed
  unfolding carried recur
  seeded =
      let none : a + 1 - 1 - a ≡ 0 = omega arith in
      record { is = rw (from_bar_lem a nan _ (a + 1 - 1) (omega arith), none) }

  pub next_blended : {i : ℕ} {x y : Float} → Blending alpha a seed f i x → y ≡ blend alpha x (f i) → a < i
      → Blending alpha a seed f (i + 1) y
  unfolding carried recur
  next_blended {i} r e h =
      let now : i + 1 - 1 ≡ i = omega arith in
      let one : i - a ≡ suc (i - 1 - a) = omega arith in
      let bar : a + 1 + (i - 1 - a) ≡ i = omega arith in
      record {
        is = rw (
          e,
          r.is,
          now,
          from_bar_lem a nan _ i (omega arith),
          from_bar_lem a nan _ (i - 1) (omega arith),
          one,
          bar,
        );
      }

  -- the bar, written in another way
  pub at_bar : {i j : ℕ} {x : Float} → Blending alpha a seed f i x → i ≡ j → Blending alpha a seed f j x
  at_bar r e = rw (← e) r

  -- m bars more
  pub more_blended : {i : ℕ} {x y : Float} (m k : ℕ) → Blending alpha a seed f i x → y ≡ blend_from alpha x f i m
      → (a < i) × (i + m ≡ k)
      → Blending alpha a seed f k y
  unfolding recur
  more_blended {i} {x} m k r e (h, g) = rw e (at_bar (go m) g)
    where
      go : (m : ℕ) → Blending alpha a seed f (i + m) (blend_from alpha x f i m)
      go zero = at_bar r (omega arith)
      go (suc m) = at_bar (next_blended (go m) refl (omega arith)) (omega arith)
