-- The loop that looks whether every bar is far enough from a tie. Assumes nothing.
use mathlib.Core.Path.{◌≡◌, refl, ◌∙◌}
use mathlib.Core.Bool.{Bool, true, false, not, ◌&&◌}
use Prim.Native.Nat.{ℕ, ◌+◌, ◌<◌, ◌≤◌, max}
use native.Mathlib.Omega.{arith}
use lib.Dec.{T, ltb, ltb→lt, nltb→le}
use Rattle.values.proofs.All.{and_parts}
use Rattle.margins.specs.inner.Margin.{AllFar}

module _ {first : ℕ} {test : ℕ → Bool} where
  -- no bar was looked at yet
  pub none_looked_at : {i : ℕ} → i ≤ first → AllFar true first test i
  none_looked_at h = record { each = λ e j b l. absurd (omega arith); only = λ h. refl }

  -- one more bar
  pub one_more_far : {r t : Bool} {i : ℕ} → AllFar r first test i → first ≤ i → t ≡ test i
      → AllFar (r && t) first test (i + 1)
  one_more_far {r} {t} {i} w f e = record {
    each = λ both j b l.
        let (before, here) = and_parts r t both in
        go j b l before here (ltb j i) (ltb→lt j i) (nltb→le j i);
    only = λ h. rw (w.only (λ j b l. h j b (omega arith)), e ∙ h i f (omega arith));
  }
    where
      go : (j : ℕ) → first ≤ j → j < i + 1 → r ≡ true → t ≡ true → (u : Bool) → (T u → j < i)
          → (T (not u) → i ≤ j) → test j ≡ true
      go j b l before here true p q = w.each before j b (p tt)
      go j b l before here false p q = let k = q tt in let same : j ≡ i = omega arith in rw (same, ← e, here)

  -- all bars were looked at: those before k are those before l, or none is from `first` on
  pub all_looked_at : {r : Bool} {k l : ℕ} → AllFar r first test k → l ≤ k → k ≤ max first l → AllFar r first test l
  all_looked_at w h m = record {
    each = λ e i b p. w.each e i b (omega arith);
    only = λ all. w.only (λ i b p. all i b (omega arith));
  }
