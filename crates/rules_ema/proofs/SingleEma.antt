-- The exponential rule: its cells, and where it does not look ahead. Assumes nothing.
use mathlib.Core.Path.{◌≡◌, sym, ap, ◌∙◌}
use mathlib.Core.Bool.{Bool, true}
use mathlib.Core.List.{List}
use Prim.Native.Nat.{ℕ, suc, ◌+◌, ◌-◌, ◌*◌, ◌<◌, ◌≤◌}
use native.Mathlib.Omega.{arith}
use borrow.Author.Tests.{lt-ltb}
use lib.ListN.{length, take}
use lib.Ieee.{Float, binary64, sub}
use Rattle.cells.specs.Line.{Line, line, plus_zero, Same, Causal}
use Rattle.cells.proofs.Line.{before_bar, from_bar_lem, causal_same, causal_from}
use Rattle.cells.specs.Written.{Writing}
use Rattle.cells.proofs.Written.{writing_same}
use Rattle.cells.proofs.Touched.{untouched, touched}
use Rattle.cells.proofs.Parts.{part_long, part_is}
use Rattle.cells.specs.Search.{first_bar, non_zero}
use Rattle.cells.proofs.Search.{first_bar_same, first_bar_met, first_bar_most}
use Rattle.cells.proofs.Carried.{carried_same, carried_seed, carried_next}
use Rattle.cells.specs.inner.Finished.{Finished}
use Rattle.cells.proofs.Finished.{one_finished, then_finished}
use Rattle.rounding.specs.Leaves.{sign_of}
use Rattle.windows.specs.Window.{mean}
use Rattle.windows.proofs.Window.{causal_mean}
use Rattle.averages.specs.Blend.{blend, ema_alpha}
use Rattle.rules_ema.proofs.Search.{usable_same}
use Rattle.rules_ema.specs.SingleEma.{first_usable, ema_of_means, single_ema_from, single_ema_line}
use Rattle.rules_ema.specs.inner.Bar.{PositionPut}

-- ---- the cells

module _ (start n : ℕ) (f : Line) where
  -- the average begins with the mean of the last n means
  pub first_average : {x : Float} → x ≡ mean n (mean n f) start → x ≡ ema_of_means start n f start
  unfolding ema_of_means
  first_average e = e ∙ sym (carried_seed _ _ start _ _)

  -- and goes on with each bar's mean
  pub next_average : (i : ℕ) {x m y : Float} → x ≡ ema_of_means start n f i → m ≡ mean n f (i + 1)
      → y ≡ blend (ema_alpha n) x m → start ≤ i
      → y ≡ ema_of_means start n f (i + 1)
  unfolding ema_of_means
  next_average i p q e h =
      let last : i + 1 - 1 ≡ i = omega arith in
      let next =
      carried_next plus_zero (blend (ema_alpha n)) start (mean n (mean n f) start) (mean n f) (i + 1) (omega arith) in
      e ∙ rw (p, q) (sym (rw last at next))

  -- the position of bar i
  pub position_at : (i : ℕ) {x p : Float} → x ≡ ema_of_means start n f i → p ≡ sign_of (sub binary64 (f i) x)
      → start ≤ i
      → p ≡ single_ema_from start n f i
  unfolding single_ema_from
  position_at i e g h = rw (g, e, from_bar_lem start plus_zero _ i h)

-- bars before it have none
pub lead_finished : (start n : ℕ) (f : Line) {l k : ℕ} {out₀ out₁ work₀ work₁ : List Float}
    → Finished (λ i. plus_zero) l k out₀ out₁ work₀ work₁ → k ≤ start
    → Finished (single_ema_from start n f) l k out₀ out₁ work₀ work₁
unfolding single_ema_from
lead_finished start n f p h = record {
  cells = writing_same p.cells (λ i l. sym (before_bar start plus_zero _ i (omega arith)));
  cleared = p.cleared;
}

-- the bar of a loop: its position is that of the average
pub position_finished : (start n : ℕ) {s : List Float} {i : ℕ} {x : Float} {out₀ out₁ out₂ work₀ work₁ work₂
    : List Float} → Finished (single_ema_from start n (line s)) (length s) i out₀ out₁ work₀ work₁
    → PositionPut s i x out₁ out₂ work₁ work₂ → sign_of (sub binary64 (line s i) x) ≡ single_ema_from start n (line s) i
    → (i < length s) × (i < length out₀) × (8 * length s ≤ length work₁)
    → Finished (single_ema_from start n (line s)) (length s) (i + 1) out₀ out₂ work₀ work₂
position_finished start n p q e h = rw q.position (one_finished p e q.cleared h)

-- ---- the stages

-- the mean of n cells of a line whose first l cells stand in the first part of a slice
pub seed_of : (n : ℕ) (g : Line) {l : ℕ} {old mid : List Float} → Writing l g old mid → l ≤ length old → (start : ℕ)
    {x : Float} → x ≡ mean n (line (take l mid)) start → start < l → x ≡ mean n g start
seed_of n g w h start e k = e ∙ causal_mean n _ _ start (λ j m. part_is w h j (omega arith))

-- where those are the means of l bars

module _ (n : ℕ) (f : Line) {l : ℕ} {old mid : List Float} (w : Writing l (mean n f) old mid) (h : l ≤ length old) where
  -- the search among them
  pub start_found : {r : ℕ} → r ≡ first_usable (length (take l mid)) (line (take l mid)) + (n - 1)
      → r ≡ first_usable l (mean n f) + (n - 1)
  start_found e = e ∙ ap (λ (k : ℕ). k + (n - 1)) (rw (part_long w h) (usable_same l _ _ (part_is w h)))

  -- the cells from the start that was found are the rule's
  pub found_finished : {r : ℕ} {now work₀ work₁ : List Float}
      → r ≡ first_usable (length (take l mid)) (line (take l mid)) + (n - 1)
      → Finished (single_ema_from r n f) l l mid now work₀ work₁
      → Finished (single_ema_line l n f) l l old now work₀ work₁
  unfolding single_ema_line
  found_finished e v = then_finished (touched w) untouched (rw (← start_found e) v)

-- ---- no look-ahead, once the start is known

pub causal_single_ema_from : (start n : ℕ) → Causal (single_ema_from start n)
unfolding single_ema_from ema_of_means
causal_single_ema_from start n =
    causal_from start plus_zero
    (λ f g b s h.
    let means = causal_same (causal_mean n) f g b s in
    rw (
      s b (omega arith),
      carried_same plus_zero (blend (ema_alpha n)) start (mean n (mean n f) start) (mean n (mean n g) start) (mean n f)
          (mean n g) b
          (λ l. causal_mean n (mean n f) (mean n g) start (λ i q. means i (omega arith)))
          means,
    ))

module _ (l l' n : ℕ) (f g : Line) (b : ℕ) (h : b < l) (h' : b < l') (s : Same f g b) where
  -- one of the means up to bar b is not 0: both searches end there, or before
  starts_same : (j : ℕ) → j ≤ b → non_zero (mean n f j) ≡ true → first_usable l (mean n f) ≡ first_usable l' (mean n g)
  unfolding first_usable
  starts_same j m e =
      let t : ℕ → Bool = λ i. non_zero (mean n f i) in
      let u : ℕ → Bool = λ i. non_zero (mean n g i) in
      let same : (i : ℕ) → i < suc j → t i ≡ u i = λ i k. rw (causal_same (causal_mean n) f g b s i (omega arith)) in
      let e' = sym (same j (omega arith)) ∙ e in
      let k = first_bar_most t j e in
      rw (
        first_bar_met t j l e (omega arith),
        first_bar_met u j l' e' (omega arith),
        ← first_bar_same t u (suc j) same,
        lt-ltb (first_bar t (suc j)) l (omega arith),
        lt-ltb (first_bar t (suc j)) l' (omega arith),
      )

  -- From the first mean that is not 0 on, the cells need nothing after their own bar.
  pub single_ema_settles : (j : ℕ) → j ≤ b → non_zero (mean n f j) ≡ true
      → Same (single_ema_line l n f) (single_ema_line l' n g) b
  unfolding single_ema_line
  single_ema_settles j m e i k =
      rw (starts_same j m e) (causal_same (causal_single_ema_from (first_usable l' (mean n g) + (n - 1)) n) f g b s i k)
