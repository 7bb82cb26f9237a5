-- The test of two parts of the prices side by side, each as far as it has come. Assumes nothing.
use mathlib.Core.Path.{◌≡◌, refl, sym, ◌∙◌}
use mathlib.Core.Bool.{Bool, ◌&&◌}
use Prim.Native.Nat.{ℕ, ◌+◌}
use lib.Ieee.{Float}
use Rattle.cells.specs.Line.{Line}
use Rattle.values.specs.inner.Part.{pass_from, Passing}
use Rattle.values.proofs.All.{and_true, and_assoc, and_turns}
use Rattle.values.proofs.Part.{none_passing, both_passing}

-- t tells whether k cells from index a on and m cells from index b on pass
pub record TwoParts (p : Float → Bool) (f : Line) (a k b m : ℕ) (t : Bool) : Type 0 where
  pub both : t ≡ pass_from p f a k && pass_from p f b m

module _ {p : Float → Bool} {f : Line} {a : ℕ} where
  -- the second part is not begun
  pub first_part : {k : ℕ} {t : Bool} (l b : ℕ) → Passing p f a k t → k ≡ l → TwoParts p f a l b 0 t
  first_part {k} {t} l b r e =
      record { both = r.is ∙ rw (← (none_passing {p = p} {f = f} {a = b}).is, e) (sym (and_true (pass_from p f a l))) }

  -- each goes on
  pub parts_on : {b c d i j k m : ℕ} {t u v : Bool} (l n : ℕ) → TwoParts p f a k b m t → Passing p f c i u
      → Passing p f d j v
      → (a + k ≡ c) × (k + i ≡ l) × (b + m ≡ d) × (m + j ≡ n)
      → TwoParts p f a l b n (t && u && v)
  parts_on {b} {k = k} {m = m} {u = u} {v = v} l n r q s (e, g, h, w) =
      let first = both_passing {p = p} {f = f} {a = a} l (record { is = refl }) q (e, g) in
      let second = both_passing {p = p} {f = f} {a = b} n (record { is = refl }) s (h, w) in
      let x = pass_from p f a k in
      let y = pass_from p f b m in
      record { both = rw (r.both, ← first.is, ← second.is) (sym (and_assoc (x && y) u v) ∙ and_turns x y u v) }

  -- the first has reached the second, and the rest follows
  pub parts_end : {b d j k m : ℕ} {t v : Bool} (l : ℕ) → TwoParts p f a k b m t → Passing p f d j v
      → (a + k ≡ b) × (b + m ≡ d) × (k + (m + j) ≡ l)
      → Passing p f a l (t && v)
  parts_end {b} {j = j} {k} {m} {v = v} l r s (e, h, g) =
      let second = both_passing {p = p} {f = f} {a = b} (m + j) (record { is = refl }) s (h, refl) in
      let whole = both_passing {p = p} {f = f} {a = a} l (record { is = refl }) second (e, g) in
      record { is = rw r.both (sym (and_assoc (pass_from p f a k) (pass_from p f b m) v) ∙ whole.is) }
