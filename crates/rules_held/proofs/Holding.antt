-- Held positions have no look-ahead where their signals have none; long and short never stand at neighbouring bars.
-- Assumes nothing.
use mathlib.Core.Path.{◌≡◌, refl, sym, ◌∙◌}
use mathlib.Core.Bool.{Bool, true, false, cond}
use mathlib.Core.List.{List}
use Prim.Native.Nat.{ℕ, zero, suc, ◌+◌, ◌<◌, ◌≤◌}
use native.Mathlib.Omega.{arith}
use borrow.Author.Tests.{ltb-true, ltb-false}
use lib.IntN.{ℤ, pos, negsuc}
use lib.Signed.{lt_z}
use Rattle.cells.specs.Line.{from_bar, Causal}
use Rattle.cells.specs.Written.{Writing}
use Rattle.cells.specs.inner.Leads.{Led}
use Rattle.cells.proofs.Line.{before_bar}
use Rattle.cells.proofs.Written.{stands, writing_same}
use Rattle.cells.specs.Recur.{recur}
use Rattle.cells.specs.inner.Recurring.{Recurring}
use Rattle.cells.proofs.Recur.{recur_same}
use Rattle.rules_held.specs.Held.{flat, long, short, Signal, silent, moved, hold}

-- no look-ahead, where the signals have none
pub causal_hold : {A : Type 0} {S : (ℕ → A) → ℕ → Signal} → Causal S → Causal (λ f. hold (S f))
unfolding hold
causal_hold p f g b s = recur_same _ _ _ _ (suc b) refl (λ j x l. rw (p f g j (λ i m. s i (omega arith))))

-- ---- neighbours

-- a held position stays or closes
closes_long_lem : (t : Bool) → cond t flat long ≡ short → ⊥
closes_long_lem true e = let z : ◌≡◌ {A = ℕ} 0 1 = cc in omega arith
closes_long_lem false e = let z : ◌≡◌ {A = ℕ} 0 1 = cc in omega arith

closes_short_lem : (t : Bool) → cond t flat short ≡ long → ⊥
closes_short_lem true e = let z : ◌≡◌ {A = ℕ} 0 1 = cc in omega arith
closes_short_lem false e = let z : ◌≡◌ {A = ℕ} 0 1 = cc in omega arith

-- so +1 and -1 never adjoin
pub never_adjoin : (s : ℕ → Signal) (i : ℕ)
    → (hold s i ≡ long → hold s (suc i) ≡ short → ⊥) × (hold s i ≡ short → hold s (suc i) ≡ long → ⊥)
unfolding hold recur moved
never_adjoin s i = (
  λ p q. closes_long_lem (s (suc i)).closes_long (rw p at q),
  λ p q. closes_short_lem (s (suc i)).closes_short (rw p at q),
)

-- ---- before the first signal

silent_after : (b : ℕ) (f : ℕ → Signal) (k : ℕ) → k ≤ b
    → recur flat (λ j position. moved position (from_bar b silent f j)) k ≡ flat
unfolding recur moved
silent_after b f zero h = refl
silent_after b f (suc k) h = rw (silent_after b f k (omega arith), before_bar b silent f k (omega arith))

-- where nothing is said before bar b, the positions before it are flat
pub flat_before : (b : ℕ) (f : ℕ → Signal) (i : ℕ) → i < b → hold (from_bar b silent f) i ≡ flat
unfolding hold
flat_before b f i h = silent_after b f (suc i) h

-- so a lead of flat cells stands
pub flat_stands : {b bars r : ℕ} {old now : List ℤ} (f : ℕ → Signal) → Led b bars flat r old now
    → Writing r (hold (from_bar b silent f)) now now
flat_stands {b} f w = stands (writing_same w.lead (λ i l. sym (flat_before b f i (omega arith))))

-- ---- what a cell is

-- -1, 0 or +1
pub data Position : ℤ → Type 0 where
  at_flat : Position flat
  at_long : Position long
  at_short : Position short

pub either_position : {a b : ℤ} (t : Bool) → Position a → Position b → Position (cond t a b)
either_position true p q = p
either_position false p q = q

moved_position : {z : ℤ} (s : Signal) → Position z → Position s.opens → Position (moved z s)
unfolding moved
moved_position s at_flat o = o
moved_position s at_long o = either_position s.closes_long at_flat at_long
moved_position s at_short o = either_position s.closes_short at_flat at_short

held_after : (s : ℕ → Signal) → ((i : ℕ) → Position (s i).opens) → (k : ℕ)
    → Position (recur flat (λ j position. moved position (s j)) k)
unfolding recur
held_after s o zero = at_flat
held_after s o (suc k) = moved_position (s k) (held_after s o k) (o k)

-- where each bar opens one of them, each cell is one
pub held_position : (s : ℕ → Signal) → ((i : ℕ) → Position (s i).opens) → (i : ℕ) → Position (hold s i)
unfolding hold
held_position s o i = held_after s o (suc i)

-- ---- what a loop that holds a position keeps

-- the position at bar i, after i + 1 bars
pub held_at : (s : ℕ → Signal) (i : ℕ) {z : ℤ} → Recurring flat (λ j position. moved position (s j)) (i + 1) z → z
    ≡ hold s i
unfolding hold
held_at s i r = let one : i + 1 ≡ suc i = omega arith in r.is ∙ rw one

-- ---- one move, by the code's tests

module _ (z : ℤ) (s : Signal) where
  pub moved_long : lt_z (pos 0) z ≡ true → moved z s ≡ cond s.closes_long flat z
  unfolding moved
  moved_long e = go z e
    where
      go : (y : ℤ) → lt_z (pos 0) y ≡ true → moved y s ≡ cond s.closes_long flat y
      go (pos zero) e = let l = ltb-true 0 0 e in absurd (omega arith)
      go (pos (suc k)) e = refl
      go (negsuc k) e = let l : ◌≡◌ {A = ℕ} 0 1 = cc in absurd (omega arith)

  pub moved_short : lt_z z (pos 0) ≡ true → moved z s ≡ cond s.closes_short flat z
  unfolding moved
  moved_short e = go z e
    where
      go : (y : ℤ) → lt_z y (pos 0) ≡ true → moved y s ≡ cond s.closes_short flat y
      go (pos k) e = let l = ltb-true k 0 e in absurd (omega arith)
      go (negsuc k) e = refl

  pub moved_flat : lt_z (pos 0) z ≡ false → lt_z z (pos 0) ≡ false → moved z s ≡ s.opens
  unfolding moved
  moved_flat e h = go z e h
    where
      go : (y : ℤ) → lt_z (pos 0) y ≡ false → lt_z y (pos 0) ≡ false → moved y s ≡ s.opens
      go (pos zero) e h = refl
      go (pos (suc k)) e h = let l = ltb-false 0 (suc k) e in absurd (omega arith)
      go (negsuc k) e h = let l : ◌≡◌ {A = ℕ} 0 1 = cc in absurd (omega arith)

-- what a bar opens does not matter to a held position
pub moved_held : (z : ℤ) (s t : Signal) → (z ≡ flat → ⊥) → s.closes_long ≡ t.closes_long → s.closes_short
    ≡ t.closes_short
    → moved z s ≡ moved z t
unfolding moved
moved_held (pos zero) s t h p q = absurd (h refl)
moved_held (pos (suc k)) s t h p q = rw p
moved_held (negsuc k) s t h p q = rw q
