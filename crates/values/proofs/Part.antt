-- A test of some cells of a line: with one cell more, of two parts that meet, of a whole series. Assumes nothing.
use Rattle.std.proofs.Common.{◌≡◌, ℕ, zero, suc, ◌+◌, ◌<◌, ◌≤◌, Bool, true, false, true≢false, ◌&&◌, List, [], ◌∷◌, length, sym, refl, ap, ◌∙◌, add-one, arith}
use lib.Ieee.{Float}
use Rattle.cells.specs.Line.{Line, line}
use Rattle.values.specs.Accepted.{all}
use Rattle.values.specs.inner.Part.{pass_from, Passing}
use Rattle.values.proofs.All.{and_true, and_assoc, all_at}

parts_meet : (p : Float → Bool) (f : Line) (a k m : ℕ) → pass_from p f a k && pass_from p f (a + k) m
    ≡ pass_from p f a (k + m)
unfolding pass_from
parts_meet p f a k zero =
    let none : k + 0 ≡ k = omega arith in
    rw none (and_true (pass_from p f a k))
parts_meet p f a k (suc m) =
    let at : a + k + m ≡ a + (k + m) = omega arith in
    let more : k + suc m ≡ suc (k + m) = omega arith in
    rw (more, ← parts_meet p f a k m, at)
    (and_assoc (pass_from p f a k) (pass_from p f (a + k) m) (p (f (a + (k + m)))))

-- g begins at the second cell of f
later : (p : Float → Bool) (f g : Line) (a k : ℕ) → ((i : ℕ) → f (suc i) ≡ g i) → pass_from p f (suc a) k
    ≡ pass_from p g a k
unfolding pass_from
later p f g a zero h = refl
later p f g a (suc k) h =
    let at : suc a + k ≡ suc (a + k) = omega arith in
    rw (later p f g a k h, at, h (a + k))

whole : (p : Float → Bool) (s : List Float) → pass_from p (line s) 0 (length s) ≡ all p s
unfolding pass_from
whole p [] = refl
whole p (x ∷ s) =
    let first : suc (length s) ≡ 1 + length s = omega arith in
    ap (pass_from p (line (x ∷ s)) 0) first ∙ sym (parts_meet p (line (x ∷ s)) 0 1 (length s))
    ∙ rw (later p (line (x ∷ s)) (line s) 0 (length s) (λ i. refl), whole p s)

module _ {p : Float → Bool} {f : Line} {a : ℕ} where
  pub none_passing : Passing p f a 0 true
  unfolding pass_from
  none_passing = record { is = refl }

  -- the next cell
  pub one_passing : {k : ℕ} {t u : Bool} (i : ℕ) → Passing p f a k t → u ≡ p (f i) → a + k ≡ i
      → Passing p f a (k + 1) (t && u)
  unfolding pass_from
  one_passing i r e g = record { is = rw (add-one, r.is, e, g) }

  -- each of the cells
  pub each_passing : (k : ℕ) → ((i : ℕ) → i < k → p (f (a + i)) ≡ true) → Passing p f a k true
  unfolding pass_from
  each_passing k h = record { is = sym (go k h) }
    where
      go : (k : ℕ) → ((i : ℕ) → i < k → p (f (a + i)) ≡ true) → pass_from p f a k ≡ true
      go zero h = refl
      go (suc k) h = rw (go k (λ i l. h i (omega arith)), h k (omega arith))

  -- the part that follows
  pub both_passing : {b k m : ℕ} {t u : Bool} (l : ℕ) → Passing p f a k t → Passing p f b m u
      → (a + k ≡ b) × (k + m ≡ l)
      → Passing p f a l (t && u)
  both_passing {b} {k} {m} l r q (e, g) = record { is = rw (r.is, q.is, ← e, ← g) (parts_meet p f a k m) }

-- every cell of a series
pub all_passing : {p : Float → Bool} (s : List Float) {k : ℕ} {t : Bool} → Passing p (line s) 0 k t → k ≡ length s
    → t ≡ all p s
all_passing {p} s r e = r.is ∙ rw e (whole p s)

-- a test whose value is known
pub told : {p : Float → Bool} {f : Line} {a k : ℕ} {t u : Bool} → t ≡ u → Passing p f a k t → Passing p f a k u
told e h = record { is = sym e ∙ h.is }

-- where some of them do not pass, not all do
pub part_fails : {p : Float → Bool} (s : List Float) {k : ℕ} → Passing p (line s) 0 k false → k ≤ length s
    → all p s ≡ false
part_fails {p = p} s {k} h le = go (all p s) refl
  where
    go : (t : Bool) → all p s ≡ t → all p s ≡ false
    go false e = e
    go true e =
        let each : Passing p (line s) 0 k true = each_passing k
        (λ i l. let at : 0 + i ≡ i = omega arith in rw at (all_at p s i e (omega arith))) in
        absurd (true≢false (each.is ∙ sym h.is))
