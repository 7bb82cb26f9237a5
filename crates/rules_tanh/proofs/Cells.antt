-- The tanh rule: no look-ahead, a cell from what the stages before it wrote, and cells from -1 to 1. Assumes nothing.
use mathlib.Core.Path.{◌≡◌, refl, sym}
use mathlib.Core.Bool.{Bool, true, false, cond, true≢false}
use Prim.Native.Nat.{ℕ, zero, suc, ◌+◌, ◌-◌, ◌*◌, ◌^◌, ◌<◌, ◌≤◌}
use native.Mathlib.Nat.{le_refl, zero-mul}
use native.Mathlib.Omega.{arith}
use lib.Dec.{lit≤, lit<, eqb-suc-zero}
use lib.IntN.{ℤ}
use lib.Ieee.{Float, nan, inf, fin, binary64, up, down, unlike, sub, div, lt, is_nan}
use Rattle.rounding.proofs.Signs.{round_plain}
use Rattle.rounding_laws.proofs.Bounds.{AtMost, sub_at_most}
use Rattle.rounding_order.proofs.Within.{FromMinusOneToOne, in_unit}
use Rattle.rounding_root.specs.Root.{sqrt_of}
use Rattle.cells.specs.Line.{Line, plus_zero, minus_zero, Causal}
use Rattle.cells.proofs.Line.{causal_self, causal_then, causal_from, from_bar_lem}
use Rattle.windows.specs.Window.{mean}
use Rattle.windows.proofs.Window.{causal_mean}
use Rattle.exact_ticks.proofs.Bounds.{from_bar_holds, Bounded, mean_bounded}
use Rattle.deviations.specs.Deviation.{variance, deviation}
use Rattle.deviations.proofs.Causal.{causal_deviation}
use Rattle.rules_tanh.specs.Tanh.{tanh_cell, score_of, tanh_of_means, tanh_line}
use Rattle.rules_tanh.proofs.Order.{cell_within}

-- ---- no look-ahead

pub causal_of_means : (n : ℕ) → Causal (tanh_of_means n)
unfolding tanh_of_means
causal_of_means n =
    causal_from (2 * n - 2) plus_zero
    (λ f g b s l. rw (causal_self f g b s, causal_mean n f g b s, causal_deviation minus_zero (n - 1) n f g b s))

pub causal_tanh : (n : ℕ) → Causal (tanh_line n)
causal_tanh n = causal_then (causal_mean n) (causal_of_means n)

-- ---- a cell from a middle and a variance

pub cell_at : (n i : ℕ) (g : Line) {m v : Float} → m ≡ mean n g i → v ≡ variance minus_zero (n - 1) n g i
    → 2 * n ≤ i + 2 → tanh_cell (score_of (g i) m (sqrt_of binary64 v)) ≡ tanh_of_means n g i
unfolding tanh_of_means deviation
cell_at n i g p q h =
    rw (p, q, from_bar_lem (2 * n - 2) plus_zero _ i (omega arith), from_bar_lem (n - 1) nan _ i (omega arith))

-- ---- cells from -1 to 1

-- a finite number over one that is above 0
quotient_number : (s : Bool) (m : ℕ) (e : ℤ) (w : Float) → lt plus_zero w ≡ true
    → is_nan (div binary64 (fin s m e) w) ≡ false
unfolding div lt is_nan
quotient_number s m e nan h = absurd (true≢false (sym h))
quotient_number s m e (inf t) h = refl
quotient_number s m e (fin true zero d) h = absurd (true≢false (sym h))
quotient_number s m e (fin false zero d) h = absurd (true≢false (sym (simp zero-mul at h)))
quotient_number s m e (fin t (suc n) d) h =
    rw (eqb-suc-zero n) (round_plain (unlike s t) (m * up e * down d) (suc n * up d * down e)).1

score_number : (average middle width : Float) → AtMost (2 ^ 30) average → AtMost (2 ^ 30) middle
    → is_nan (score_of average middle width) ≡ false
unfolding is_nan
score_number average middle width p q = go (lt plus_zero width) refl
  where
    go : (t : Bool) → lt plus_zero width ≡ t
        → is_nan (cond t (div binary64 (sub binary64 average middle) width) plus_zero) ≡ false
    go true h =
        let gap : AtMost (2 ^ 31) (sub binary64 average middle) = sub_at_most p q (omega arith) in
        rw gap.is (quotient_number gap.sign gap.digits gap.place width h)
    go false h = refl

-- every cell of the rule, for prices within 2 ^ 30
pub tanh_within : (n : ℕ) (f : Line) (i : ℕ) → Bounded (2 ^ 30) f i → (0 < n) × (n ≤ 2 ^ 12)
    → FromMinusOneToOne (tanh_line n f i)
unfolding tanh_of_means
tanh_within n f i bounded (N, M) =
    let means = mean_bounded n N M f i bounded in
    from_bar_holds FromMinusOneToOne (2 * n - 2) _ i
    (in_unit {s = false} record { count = 0; parts = 1; some = lit< tt; value = (refl, refl); size = lit≤ tt })
    (λ k. cell_within _ (score_number (mean n f i) (mean n (mean n f) i) _ (means i (le_refl i))
    (mean_bounded n N M (mean n f) i means i (le_refl i))))
