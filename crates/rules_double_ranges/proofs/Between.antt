-- Every series inside the ranges lies between the worst and the best one: it gives +1 where the worst one does, and
-- only where the best one does. Assumes nothing.
use mathlib.Core.Path.{◌≡◌, sym, ap, ◌∙◌}
use mathlib.Core.Bool.{Bool, true, false, not, cond}
use Prim.Native.Nat.{ℕ, ◌+◌, ◌-◌, ◌<◌, ◌≤◌}
use native.Mathlib.Omega.{arith}
use borrow.Author.Tests.{le-leb, lt-leb, not-true}
use lib.Dec.{leb}
use lib.IntN.{ℤ, pos, ◌+ℤ◌, ◌*ℤ◌}
use lib.Signed.{lt_z}
use Rattle.rounding.specs.Whole.{total}
use Rattle.rounding_laws.proofs.Integers.{self_not_less, total_same}
use Rattle.rounding_laws.proofs.Products.{total_parts}
use Rattle.rules_double_ranges.specs.Ranges.{joined, gives_long}
use Rattle.rules_double_ranges.specs.inner.Stages.{Implies, NotAbove}
use Rattle.rules_double_ranges.proofs.Order.{total_not_above, short_share, share_grows}

-- ---- two lines joined

module _ {A : Type 0} (k : ℕ) (f g : ℕ → A) (i : ℕ) where
  pub joined_from : k ≤ i → joined k f g i ≡ g i
  unfolding joined
  joined_from h = simp (le-leb k i h)

  pub joined_before : i < k → joined k f g i ≡ f i
  unfolding joined
  joined_before h = simp (lt-leb k i h)

  -- what holds of both holds of them joined
  pub joined_holds : (P : A → Type 0) → P (f i) → P (g i) → P (joined k f g i)
  unfolding joined
  joined_holds P p q = go (leb k i)
    where
      go : (t : Bool) → P (cond t (g i) (f i))
      go true = q
      go false = p

pub joined_same : {A : Type 0} (k : ℕ) (f f' g g' : ℕ → A) (i : ℕ) → f i ≡ f' i → g i ≡ g' i → joined k f g i
    ≡ joined k f' g' i
unfolding joined
joined_same k f f' g g' i p q = rw (p, q)

-- ---- the rule

-- t lies from low to high at the first l bars
pub record Between (low high t : ℕ → ℤ) (l : ℕ) : Type 0 where
  pub from_low : NotAbove low t l
  pub to_high : NotAbove t high l

-- lines that agree up to bar i
pub long_same : (n m : ℕ) (t u : ℕ → ℤ) (i : ℕ) → n ≤ i + 1 → m ≤ i + 1 → ((j : ℕ) → j ≤ i → t j ≡ u j)
    → gives_long n m t i ≡ gives_long n m u i
unfolding gives_long
long_same n m t u i p q h =
    rw (
      total_same t u (i + 1 - n) n (λ j l. h (i + 1 - n + j) (omega arith)),
      total_same t u (i + 1 - m) m (λ j l. h (i + 1 - m + j) (omega arith)),
    )

module _ (n m i : ℕ) (L : n < m) (B : m ≤ i + 1) where
  abbrev short : (ℕ → ℤ) → ℤ
  short t = total t (i + 1 - n) n

  abbrev rest : (ℕ → ℤ) → ℤ
  rest t = total t (i + 1 - m) (m - n)

  gap : n + (m - n) ≡ m
  gap = omega arith

  long_sum : (t : ℕ → ℤ) → total t (i + 1 - m) m ≡ rest t +ℤ short t
  long_sum t =
      let whole : m - n + n ≡ m = omega arith in
      let bar : i + 1 - m + (m - n) ≡ i + 1 - n = omega arith in
      rw (whole, bar) at (total_parts t (i + 1 - m) (m - n) n)

  -- the rule, from the sum of the last n prices and that of the m - n before them
  pub long_parts : (t : ℕ → ℤ) → gives_long n m t i ≡ not (lt_z (short t *ℤ pos (m - n)) (rest t *ℤ pos n))
  unfolding gives_long
  long_parts t = rw (long_sum t) (ap not (rw gap at (short_share (short t) (rest t) n (m - n))))

  -- u is not below t in the short window and not above it before
  record More (t u : ℕ → ℤ) : Type 0 where
    late : (j : ℕ) → i + 1 - n ≤ j → j ≤ i → lt_z (u j) (t j) ≡ false
    early : (j : ℕ) → j < i + 1 - n → lt_z (t j) (u j) ≡ false

  -- then it gives +1 where t does
  long_more : {t u : ℕ → ℤ} → More t u → gives_long n m t i ≡ true → gives_long n m u i ≡ true
  long_more {t} {u} h e =
      let a = total_not_above t u (i + 1 - n) n (λ j l. h.late (i + 1 - n + j) (omega arith) (omega arith)) in
      let b = total_not_above u t (i + 1 - m) (m - n) (λ j l. h.early (i + 1 - m + j) (omega arith)) in
      long_parts u
      ∙ ap not (share_grows (short t) (short u) (rest t) (rest u) n (m - n) a b
      (not-true _ (sym (long_parts t) ∙ e)))

  -- ---- the worst and the best series

  module _ (low high : ℕ → ℤ) where
    -- the lows in the last n bars and the highs before them
    abbrev pub worst : ℕ → ℤ
    worst = joined (i + 1 - n) high low

    -- and the other way round
    abbrev pub best : ℕ → ℤ
    best = joined (i + 1 - n) low high

    module _ {l : ℕ} (H : i < l) {t : ℕ → ℤ} (r : Between low high t l) where
      above_worst : More worst t
      above_worst = record {
        late = λ j p q. rw (joined_from (i + 1 - n) high low j p) (r.from_low j (omega arith));
        early = λ j p. rw (joined_before (i + 1 - n) high low j p) (r.to_high j (omega arith));
      }

      below_best : More t best
      below_best = record {
        late = λ j p q. rw (joined_from (i + 1 - n) low high j p) (r.to_high j (omega arith));
        early = λ j p. rw (joined_before (i + 1 - n) low high j p) (r.from_low j (omega arith));
      }

      -- a series inside the ranges gives +1 where the worst one does, and only where the best one does
      pub worst_then : gives_long n m worst i ≡ true → gives_long n m t i ≡ true
      worst_then = long_more above_worst

      pub then_best : gives_long n m t i ≡ true → gives_long n m best i ≡ true
      then_best = long_more below_best

    -- where the worst series gives +1, the best one does
    pub worst_then_best : {l : ℕ} → i < l → NotAbove low high l
        → Implies (gives_long n m worst i) (gives_long n m best i)
    worst_then_best H h =
        let lows : Between low high low _ = record { from_low = λ j p. self_not_less (low j); to_high = h } in
        record { so = λ e. then_best H lows (worst_then H lows e) }
