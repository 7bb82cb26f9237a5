-- Both halves of a smoothed line that are written side by side, and the cell before either. Assumes nothing.
use mathlib.Core.Path.{◌≡◌, refl}
use mathlib.Core.List.{List}
use Prim.Native.Nat.{ℕ, zero, suc, ◌+◌, ◌<◌, ◌≤◌}
use native.Mathlib.Omega.{arith}
use lib.ListN.{length}
use lib.Ieee.{Float, nan}
use Rattle.cells.specs.Line.{Line}
use Rattle.cells.specs.Recur.{recur}
use Rattle.cells.specs.Written.{Writing}
use Rattle.cells.proofs.Written.{step}
use Rattle.averages.specs.Blend.{smooth_line}
use Rattle.averages.specs.inner.Blending.{blend_from, Blending}
use Rattle.averages.proofs.Blending.{more_blended}
use Rattle.averages.specs.inner.Smoothing.{stored, BlendedRest, BlendedBoth}
use Rattle.averages.proofs.Smoothed.{blended_cell}
use Rattle.averages.proofs.WrittenParts.{Parts, more_parts, joined}

module _ (alpha : Float) (first : ℕ) (seed : Float) (f : Line) where
  -- the first half is written up to bar `lo` and the second, from bar b on, up to bar `hi`
  pub record Sides (lo b hi : ℕ) (old now : List Float) (u v : Float) : Type 0 where
    pub parts : Parts (smooth_line alpha first seed f) nan lo b hi old now
    pub lower : Blending alpha first seed f lo u
    pub upper : Blending alpha first seed f hi v

module _ {alpha : Float} {first : ℕ} {seed : Float} {f : Line} where
  -- the cell of bar a + k, where the cells go on from bar a
  on_line : {a : ℕ} {x : Float} (k : ℕ) → Blending alpha first seed f a x → first < a
      → blend_from alpha x f a (k + 1) ≡ smooth_line alpha first seed f (a + k)
  on_line {a} k r h = blended_cell (a + k) (more_blended (k + 1) (a + k + 1) r refl (omega arith))

  -- m bars more of each
  pub sides_on : {lo b hi : ℕ} {old now next : List Float} {u v x y : Float} (m i j : ℕ)
      → Sides alpha first seed f lo b hi old now u v → BlendedBoth alpha f u v lo hi m now x y next
      → (first < lo) × (lo + m ≤ b) × (b ≤ hi) × (hi + m ≤ length old) × (lo + m ≡ i) × (hi + m ≡ j)
      → Sides alpha first seed f i b j old next x y
  sides_on {lo} {b} {hi} {u = u} {v} m i j s w (p, q, r, t, e, g) =
      record {
        parts = rw (w.cells, ← e, ← g) (more_parts (λ k. blend_from alpha u f lo (k + 1))
            (λ k. blend_from alpha v f hi (k + 1)) m s.parts
            (λ k l. (on_line k s.lower p, on_line k s.upper (omega arith))) (omega arith));
        lower = more_blended m i s.lower w.lower (omega arith);
        upper = more_blended m j s.upper w.upper (omega arith);
      }

  -- the first half has reached the second, and m bars follow
  pub sides_end : {lo b hi a m : ℕ} {old now next : List Float} {u v : Float} (i : ℕ)
      → Sides alpha first seed f lo b hi old now u v → BlendedRest alpha f v a m now next
      → (first < hi) × (lo ≡ b) × (b ≤ hi) × (hi ≡ a) × (a + m ≡ i) × (i ≤ length old)
      → Writing i (smooth_line alpha first seed f) old next
  unfolding recur
  sides_end {hi = hi} {m = m} {old} {now} {v = v} i s e (p, q, r, w, g, h) =
      rw (e.cells, ← g, ← w) (go m (omega arith))
    where
      go : (m : ℕ) → hi + m ≤ length old
          → Writing (hi + m) (smooth_line alpha first seed f) old (recur now (stored alpha f v hi) m)
      go zero l =
          let none : hi + 0 ≡ hi = omega arith in
          rw none (joined s.parts (omega arith))
      go (suc m) l = step (hi + m) (hi + suc m) (go m (omega arith)) (on_line m s.upper p) (omega arith)
