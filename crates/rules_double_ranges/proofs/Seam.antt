-- Two series joined at a bar, as a series. Assumes nothing.
use mathlib.Core.Path.{◌≡◌, refl, sym, ap, ◌∙◌}
use mathlib.Core.Bool.{Bool, true, false, cond}
use mathlib.Core.List.{List, ◌++◌}
use Prim.Native.Nat.{ℕ, ◌+◌, ◌-◌, ◌<◌, ◌≤◌}
use native.Mathlib.Omega.{arith}
use borrow.Author.Tests.{leb-true, leb-false}
use lib.Dec.{leb}
use lib.IntN.{ℤ}
use lib.ListN.{length, take, drop, length-append, length-drop, get_or-append}
use lib.Seq.{get_or-take, get_or-drop, get_or-append-add, length-take-le}
use lib.Ieee.{Float, nan, to_signed, le}
use Rattle.rounding_laws.proofs.Integers.{self_not_less}
use Rattle.rounding_order.proofs.Wholes.{le_whole}
use Rattle.values.specs.Accepted.{all}
use Rattle.values.proofs.All.{all_at, all_of}
use Rattle.cells.specs.Line.{Line, line}
use Rattle.exact_ticks.proofs.Exact.{TickLine}
use Rattle.rules_double_ranges.specs.Ranges.{ticks, joined}
use Rattle.rules_double_ranges.proofs.Between.{joined_from, joined_before, joined_holds}

-- the first k bars of f, and then those of g
abbrev pub seam : ℕ → List Float → List Float → List Float
seam k f g = take k f ++ drop k g

module _ (k : ℕ) (f g : List Float) (same : length f ≡ length g) (room : k ≤ length f) where
  pub seam_long : length (seam k f g) ≡ length g
  seam_long = rw (length-append, length-take-le k f room, length-drop) (omega arith)

  seam_before : (i : ℕ) → i < k → line (seam k f g) i ≡ line f i
  seam_before i h =
      get_or-append (take k f) (drop k g) nan i (rw (length-take-le k f room) h) ∙ get_or-take k f i nan h

  seam_from : (i : ℕ) → k ≤ i → line (seam k f g) i ≡ line g i
  seam_from i h =
      let bar : k + (i - k) ≡ i = omega arith in
      rw (length-take-le k f room, bar, get_or-drop k g (i - k) nan, bar) at
      (get_or-append-add (take k f) (drop k g) (i - k) nan)

  pub seam_line : (i : ℕ) → line (seam k f g) i ≡ joined k (line f) (line g) i
  seam_line i = go (leb k i) refl
    where
      go : (t : Bool) → leb k i ≡ t → line (seam k f g) i ≡ joined k (line f) (line g) i
      go true e = seam_from i (leb-true k i e) ∙ sym (joined_from k (line f) (line g) i (leb-true k i e))
      go false e = seam_before i (leb-false k i e) ∙ sym (joined_before k (line f) (line g) i (leb-false k i e))

  -- what holds of both series at a bar holds there of the seam
  pub seam_holds : (P : Float → Type 0) (i : ℕ) → P (line f i) → P (line g i) → P (line (seam k f g) i)
  seam_holds P i p q = rw (seam_line i) (joined_holds k (line f) (line g) i P p q)

  pub seam_all : (p : Float → Bool) → all p f ≡ true → all p g ≡ true → all p (seam k f g) ≡ true
  seam_all p a b =
      all_of p (seam k f g) (λ i h. let long = seam_long in seam_holds (λ (x : Float). p x ≡ true) i
      (all_at p f i a (omega arith)) (all_at p g i b (omega arith)))

  pub ticks_joined : (i : ℕ) → ticks (line (seam k f g)) i ≡ joined k (ticks (line f)) (ticks (line g)) i
  unfolding joined
  ticks_joined i = ap (to_signed 63) (seam_line i) ∙ go (leb k i)
    where
      go : (t : Bool) → to_signed 63 (cond t (line g i) (line f i))
          ≡ cond t (to_signed 63 (line g i)) (to_signed 63 (line f i))
      go true = refl
      go false = refl

-- a whole tick is at most itself
pub at_most_itself : {l : ℕ} {f : Line} {t : ℕ → ℤ} → TickLine l f t → (i : ℕ) → i < l → le (f i) (f i) ≡ true
at_most_itself {t = t} w i h =
    let s = w.small i h in
    rw (w.is i h, le_whole (t i) (t i) (omega arith) (omega arith), self_not_less (t i))
