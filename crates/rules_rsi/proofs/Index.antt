-- The rule against the relative strength index: no look-ahead, what its cells are, and an index from its sums. Assumes
-- nothing.
use mathlib.Core.Path.{◌≡◌, refl}
use mathlib.Core.Bool.{Bool, true, false}
use Prim.Native.Nat.{ℕ, suc, ◌+◌, ◌-◌, ◌<◌, ◌≤◌, min}
use native.Mathlib.Omega.{arith}
use borrow.Author.Tests.{le-leb, lt-leb, ltb-true, ltb-false}
use lib.Dec.{ltb}
use lib.Ieee.{Float, nan, lt, eq}
use Rattle.rounding.specs.Literals.{hundred}
use Rattle.cells.specs.Line.{Line, plus_zero, Causal}
use Rattle.cells.proofs.Line.{causal_self, causal_same, causal_then}
use Rattle.windows.specs.Window.{sum_from, mean}
use Rattle.windows.proofs.Window.{sum_from_same, causal_mean}
use Rattle.changes.specs.Changes.{gains, losses}
use Rattle.changes.proofs.Causal.{causal_gains, causal_losses}
use Rattle.rules_held.specs.Held.{long, short}
use Rattle.rules_held.proofs.Holding.{
  Position,
  at_flat,
  at_long,
  at_short,
  either_position,
  held_position,
  causal_hold,
  never_adjoin,
}
use Rattle.rules_rsi.specs.RsiReverse.{
  first_change,
  changes_before,
  sum_before,
  index_of,
  rsi_before,
  opens_at,
  turned,
  rsi_reverse_line,
}

-- ---- no look-ahead

-- how many changes there are, and where the first of them is
pub changes_before_lem : (n i : ℕ) → changes_before n i ≡ min (i - n) n
unfolding changes_before first_change
changes_before_lem n i = omega arith

pub first_change_lem : (n i : ℕ) → n ≤ i → first_change n i + changes_before n i ≡ i
unfolding changes_before first_change
first_change_lem n i h = omega arith

causal_sum : (n : ℕ) {F : Line → Line} → Causal F → Causal (λ f. sum_before n (F f))
unfolding sum_before sum_from
causal_sum n {F} p f g b s =
    go (ltb b n) refl
  where
    go : (t : Bool) → ltb b n ≡ t
        → sum_from plus_zero (F f) (first_change n b) (changes_before n b)
        ≡ sum_from plus_zero (F g) (first_change n b) (changes_before n b)
    go true e =
        let h = ltb-true b n e in
        let none : changes_before n b ≡ 0 = omega (arith, changes_before_lem n b) in
        rw none
    go false e =
        let h = ltb-false b n e in
        sum_from_same plus_zero (F f) (F g) (first_change n b) (changes_before n b)
        (λ j l. causal_same p f g b s j (omega (arith, first_change_lem n b h)))

pub causal_rsi_before : (n : ℕ) → Causal (rsi_before n)
unfolding rsi_before
causal_rsi_before n f g b s = rw (causal_sum n causal_gains f g b s, causal_sum n causal_losses f g b s)

pub causal_turned : (upper lower exit : Float) → Causal (turned upper lower exit)
unfolding turned
causal_turned upper lower exit = causal_hold (λ f g b s. rw (causal_self f g b s))

pub causal_rsi_reverse : (n : ℕ) (upper lower exit : Float) → Causal (rsi_reverse_line n upper lower exit)
unfolding rsi_reverse_line
causal_rsi_reverse n upper lower exit =
    causal_then (causal_then (causal_mean n) (causal_rsi_before n)) (causal_turned upper lower exit)

-- ---- what the cells are: -1, 0 or +1, and of two neighbours never is one +1 and the other -1

opens_position : (upper lower x : Float) → Position (opens_at upper lower x)
opens_position upper lower x =
    either_position (lt x lower) at_long (either_position (lt upper x) at_short at_flat)

module _ (n : ℕ) (upper lower exit : Float) (f : Line) (i : ℕ) where
  pub rsi_reverse_position : Position (rsi_reverse_line n upper lower exit f i)
  unfolding rsi_reverse_line turned
  rsi_reverse_position = held_position _ (λ j. opens_position upper lower (rsi_before n (mean n f) j)) i

  pub rsi_reverse_neighbours : (rsi_reverse_line n upper lower exit f i ≡ long
      → rsi_reverse_line n upper lower exit f (suc i) ≡ short → ⊥)
      × (rsi_reverse_line n upper lower exit f i ≡ short → rsi_reverse_line n upper lower exit f (suc i) ≡ long → ⊥)
  unfolding rsi_reverse_line turned
  rsi_reverse_neighbours = never_adjoin _ i

-- ---- an index, by its sums

module _ (n i : ℕ) (g : Line) where
  pub index_is : {up down : Float} → up ≡ sum_before n (gains g) i → down ≡ sum_before n (losses g) i
      → n - 1 ≤ changes_before n i
      → index_of (changes_before n i) up down ≡ rsi_before n g i
  unfolding rsi_before
  index_is p q h = rw (le-leb _ _ h, p, q)

  -- with too few changes there is none
  pub too_few : changes_before n i < n - 1 → nan ≡ rsi_before n g i
  unfolding rsi_before
  too_few h = rw (lt-leb _ _ h)

  -- where no change is needed and none is there, it is 100
  pub none_needed : changes_before n i ≡ 0 → n ≤ 1 → hundred ≡ rsi_before n g i
  unfolding rsi_before sum_before sum_from eq
  none_needed e h =
      let enough : n - 1 ≤ 0 = omega arith in
      rw (e, le-leb _ _ enough)
