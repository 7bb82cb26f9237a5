-- Recurrences: a value and what each step makes of it, as a running sum or a moving average that carries its last
-- cell. Assumes nothing.
use mathlib.Core.Path.{◌≡◌}
use Prim.Native.Nat.{ℕ, zero, suc, ◌+◌, ◌<◌}
use native.Mathlib.Numerals.{add-one}
use native.Mathlib.Omega.{arith}
use Rattle.cells.specs.Recur.{recur}
use Rattle.cells.specs.inner.Recurring.{Recurring}

module _ {A : Type 0} where
  module _ {a : A} {step : ℕ → A → A} where
    pub no_step : {x : A} → x ≡ a → Recurring a step 0 x
    unfolding recur
    no_step e = record { is = e }

    pub one_step : {k : ℕ} {x y : A} → Recurring a step k x → y ≡ step k x → Recurring a step (k + 1) y
    unfolding recur
    one_step p e = record { is = rw (e, p.is, add-one) }

  -- recurrences that agree in the start and in k steps
  pub recur_same : (a b : A) (s t : ℕ → A → A) (k : ℕ) → a ≡ b → ((j : ℕ) (x : A) → j < k → s j x ≡ t j x)
      → recur a s k ≡ recur b t k
  unfolding recur
  recur_same a b s t zero e h = e
  recur_same a b s t (suc k) e h = rw (recur_same a b s t k e (λ j x l. h j x (omega arith)), h k _ (omega arith))
