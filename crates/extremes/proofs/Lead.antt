-- Two rows of a slice that begin with cells of one value: the first row written in the slice, the second in a part of
-- it that was lent. Assumes nothing.
use mathlib.Core.Path.{◌≡◌, sym, ap, ◌∙◌}
use mathlib.Core.List.{List, ◌++◌, append-nil}
use Prim.Native.Nat.{ℕ, ◌+◌, ◌-◌, ◌<◌, ◌≤◌}
use native.Mathlib.Omega.{arith}
use lib.ListN.{length, take, drop, length-take, length-drop, length-append, drop_of_length-le, get_or-append}
use lib.Seq.{take_all, get_or-take, get_or-drop, get_or-append-add}
use lib.Ieee.{Float, nan}
use Rattle.cells.specs.Line.{line}
use Rattle.cells.specs.Written.{written, Writing}
use Rattle.cells.proofs.Written.{length_written, getd_written, getd_untouched}
use Rattle.extremes.specs.declared.blocks.HighLow.{HighLow}
use Rattle.extremes.specs.inner.Part.{Replacing}

-- the slice after the part from `bars` on came back
abbrev pub lent : ℕ → List Float → List Float → List Float
lent bars mid part = take bars mid ++ (part ++ drop (length mid - bars) (drop bars mid))

module _ {bars k : ℕ} {z : Float} {old mid part : List Float} (v : Writing k (λ i. z) old mid)
    (w : Writing k (λ i. z) (take (length mid - bars) (drop bars mid)) part)
    (h : (k ≤ bars) × (bars + bars ≤ length old)) where
  lent_is : lent bars mid part ≡ take bars mid ++ written k (λ i. z) (drop bars mid)
  lent_is =
      let all : length (drop bars mid) ≤ length mid - bars = rw length-drop (omega arith) in
      let part_is : part ≡ written k (λ i. z) (drop bars mid) =
      w.is ∙ ap (written k (λ i. z)) (take_all (length mid - bars) (drop bars mid) all) in
      ap (λ s. take bars mid ++ (part ++ s)) (drop_of_length-le (drop bars mid) all)
      ∙ ap (λ s. take bars mid ++ s) (append-nil part ∙ part_is)

  first_long : length (take bars mid) ≡ bars
  first_long = let long = v.long in rw length-take (omega arith)

  still_long : length (lent bars mid part) ≡ length old
  still_long =
      let long = v.long in
      ap length lent_is ∙ length-append (take bars mid) (written k (λ i. z) (drop bars mid))
      ∙ (omega (arith, first_long, length_written k (λ i. z) (drop bars mid), length-drop bars mid))

  high_is : (i : ℕ) → i < bars → line (lent bars mid part) i ≡ line mid i
  high_is i l =
      ap (λ s. line s i) lent_is
      ∙ get_or-append (take bars mid) (written k (λ i. z) (drop bars mid)) nan i (omega (arith, first_long))
      ∙ get_or-take bars mid i nan l

  low_is : (i : ℕ) → line (lent bars mid part) (bars + i) ≡ line (written k (λ i. z) (drop bars mid)) i
  low_is i =
      ap (λ s. line s (bars + i)) lent_is
      ∙ ap (λ b. line (take bars mid ++ written k (λ i. z) (drop bars mid)) (b + i)) (sym first_long)
      ∙ get_or-append-add (take bars mid) (written k (λ i. z) (drop bars mid)) i nan

  high_still : (i : ℕ) → (k ≤ i) × (i < bars) → line (lent bars mid part) i ≡ line old i
  high_still i (p, q) = high_is i q ∙ ap (λ s. line s i) v.is ∙ getd_untouched k (λ j. z) old i nan p

  low_still : (i : ℕ) → k ≤ i → line (lent bars mid part) (bars + i) ≡ line old (bars + i)
  low_still i p =
      low_is i ∙ getd_untouched k (λ j. z) (drop bars mid) i nan p ∙ get_or-drop bars mid i nan
      ∙ ap (λ s. line s (bars + i)) v.is
      ∙ getd_untouched k (λ j. z) old (bars + i) nan (omega arith)

  high_lead : (i : ℕ) → i < k → line (lent bars mid part) i ≡ z
  high_lead i l =
      high_is i (omega arith) ∙ ap (λ s. line s i) v.is ∙ getd_written k (λ j. z) old i nan l (omega arith)

  low_lead : (i : ℕ) → i < k → line (lent bars mid part) (bars + i) ≡ z
  low_lead i l =
      let long = v.long in
      low_is i ∙ getd_written k (λ j. z) (drop bars mid) i nan l (rw length-drop (omega arith))

  pub both_begun : {Q : ℕ → HighLow → Type 0} → ((i : ℕ) → i < k → Q i (record { high = z; low = z }))
      → Replacing bars 0 k Q old (lent bars mid part)
  both_begun q = record {
    long = still_long;
    inside = λ i p. rw (high_lead i p.1, low_lead i p.1) (q i p.1);
    below = λ i l. absurd (omega arith);
    above = λ i p. rw (high_still i p, low_still i p.0);
    after = λ i l. let e : bars + (i - bars) ≡ i = omega arith in rw e at (low_still (i - bars) (omega arith));
  }
