-- The middle rule on whole ticks. Assumes nothing.
use mathlib.Core.Path.{◌≡◌, refl, sym, ap, ◌∙◌}
use mathlib.Core.Bool.{Bool, true, false, cond}
use Prim.Native.Nat.{ℕ, zero, suc, ◌+◌, ◌-◌, ◌*◌, ◌^◌, ◌<◌, ◌≤◌}
use native.Mathlib.Nat.{
  le_refl,
  mul-le-mul,
  mul-lt-mul_of_pos_right,
  lt_of_mul-lt-mul_right,
  add-zero,
  eq_of_mul-eq-mul_right,
}
use native.Mathlib.Omega.{arith}
use lib.Dec.{lit<, lit≤}
use lib.IntN.{ℤ, pos, nat_abs, ◌+ℤ◌, ◌*ℤ◌}
use lib.Signed.{lt_z}
use lib.Ieee.{Float, binary64, add, sub, div, lt}
use Rattle.rounding.specs.Leaves.{plus_one, minus_one, sign_of, two}
use Rattle.rounding_laws.proofs.Integers.{above, below, abs_add, parts_lt, parts_times, parts_same, ltb_same}
use Rattle.rounding_laws.proofs.Units.{worth_negative}
use Rattle.rounding_laws.proofs.About.{About, about_weaken, about_add, about_div, about_sign, about_order, about_some}
use Rattle.rounding_laws.proofs.Quotient.{quotient, Whole, quotient_lt, quotient_worth, about_quotient}
use Rattle.cells.specs.Line.{Line, plus_zero}
use Rattle.cells.proofs.Line.{from_bar_lem}
use Rattle.windows.specs.Window.{mean, window_total}
use Rattle.exact_ticks.proofs.Exact.{TickLine, window_whole, mean_exact}
use Rattle.exact_ticks.proofs.Errors.{products, window_total_size}
use Rattle.exact_ticks.proofs.RunningSums.{some_abs}
use Rattle.extremes.specs.Extreme.{larger, smaller, pick_from, extreme}
pub use Rattle.margins.proofs.Middle.{two_is}
use Rattle.rules_middle.specs.Middle.{mid_line}
use Rattle.extremes.specs.Whole.{higher, highest, lower, lowest, pickℤ}

-- ---- picking among quotients is picking among their whole numbers

-- a whole number divided by n, small enough to be compared
record Small (n : ℕ) (a : ℤ) : Type 0 where
  whole : Whole binary64 a n
  size : nat_abs a ≤ n * 2 ^ 24

lt_times : (a b : ℤ) (n : ℕ) → 0 < n → lt_z (a *ℤ pos n) (b *ℤ pos n) ≡ lt_z a b
lt_times a b n N =
    let p = parts_times a n in
    let q = parts_times b n in
    rw (parts_lt (a *ℤ pos n) (b *ℤ pos n), parts_lt a b, p.0, p.1, q.0, q.1)
    (ltb_same (above a * n + below b * n) (above b * n + below a * n) (above a + below b) (above b + below a)
    (λ h. lt_of_mul-lt-mul_right n (omega arith)) (λ h. omega (arith, mul-lt-mul_of_pos_right h N)))

module _ (n : ℕ) (M : n ≤ 2 ^ 12) where
  order : (a b : ℤ) → Small n a → Small n b → lt (quotient binary64 a n) (quotient binary64 b n) ≡ lt_z a b
  order a b v w = quotient_lt v.whole w.whole (products (nat_abs a) (nat_abs b) n n v.size w.size M M)
      ∙ lt_times a b n v.whole.some

  record Picks (pick : Float → Float → Float) (pickz : ℤ → ℤ → ℤ) : Type 0 where
    same : (a b : ℤ) → Small n a → Small n b → pick (quotient binary64 a n) (quotient binary64 b n)
        ≡ quotient binary64 (pickz a b) n
    stays : (a b : ℤ) → Small n a → Small n b → Small n (pickz a b)

  either : (t : Bool) (a b : ℤ) → cond t (quotient binary64 b n) (quotient binary64 a n)
      ≡ quotient binary64 (cond t b a) n
  either true a b = refl
  either false a b = refl

  small : (t : Bool) (a b : ℤ) → Small n a → Small n b → Small n (cond t b a)
  small true a b v w = w
  small false a b v w = v

  picks_higher : Picks larger higher
  picks_higher = record {
    same = λ a b v w. rw (order a b v w) (either (lt_z a b) a b);
    stays = λ a b. small (lt_z a b)
        a b;
  }

  picks_lower : Picks smaller lower
  picks_lower = record {
    same = λ a b v w. rw (order b a w v) (either (lt_z b a) a b);
    stays = λ a b. small (lt_z b a) a
        b;
  }

  module _ {pick : Float → Float → Float} {pickz : ℤ → ℤ → ℤ} (p : Picks pick pickz) (g : Line) (z : ℕ → ℤ) (a : ℕ)
    where
      picked_small : (k : ℕ) → ((j : ℕ) → j ≤ k → Small n (z (a + j))) → Small n (pickℤ pickz z a k)
      unfolding pickℤ
      picked_small zero s = rw add-zero at (s 0 (le_refl 0))
      picked_small (suc k) s = p.stays _ _ (picked_small k (λ j m. s j (omega arith))) (s (suc k) (le_refl (suc k)))

      picked : (k : ℕ) → ((j : ℕ) → j ≤ k → Small n (z (a + j)))
          → ((j : ℕ) → j ≤ k → g (a + j) ≡ quotient binary64 (z (a + j)) n)
          → pick_from pick g a k ≡ quotient binary64 (pickℤ pickz z a k) n
      unfolding pick_from pickℤ
      picked zero s h = rw add-zero at (h 0 (le_refl 0))
      picked (suc k) s h =
          rw (picked k (λ j m. s j (omega arith)) (λ j m. h j (omega arith)), h (suc k) (le_refl (suc k)))
          (p.same _ _ (picked_small k (λ j m. s j (omega arith))) (s (suc k) (le_refl (suc k))))

-- ---- the rule

-- halves of the same size: s / n against (h + w) / (n · 2)
times_two : (s : ℤ) (n : ℕ) → s *ℤ pos (n * 2) ≡ s *ℤ pos 2 *ℤ pos n
times_two s n =
    let p = parts_times s (n * 2) in
    let q = parts_times s 2 in
    let r = parts_times (s *ℤ pos 2) n in
    let x = ap (λ (k : ℕ). k * n) q.0 in
    let y = ap (λ (k : ℕ). k * n) q.1 in
    parts_same (s *ℤ pos (n * 2)) (s *ℤ pos 2 *ℤ pos n) (omega arith)

times_cancel : (a b : ℤ) (n : ℕ) → 0 < n → a *ℤ pos n ≡ b *ℤ pos n → a ≡ b
times_cancel a b n N e =
    let p = parts_times a n in
    let q = parts_times b n in
    let x : above a ≡ above b = eq_of_mul-eq-mul_right n N (above a) (above b) (omega (arith, ap above e)) in
    let y : below a ≡ below b = eq_of_mul-eq-mul_right n N (below a) (below b) (omega (arith, ap below e)) in
    parts_same a b (omega arith)

module _ (n : ℕ) (N : 0 < n) (M : n ≤ 2 ^ 12) where
  quotient_about : (a : ℤ) → Small n a → About binary64 (quotient binary64 a n) a n (n * 2 ^ 25)
  quotient_about a v = about_weaken (n * 2 ^ 25) (about_quotient v.whole) (omega (arith, v.size))

  -- the middle of two means
  middle_about : (h w : ℤ) → Small n h → Small n w
      → About binary64 (div binary64 (add binary64 (quotient binary64 h n) (quotient binary64 w n)) two) (h +ℤ w)
      (n * 2) (n * (2 ^ 27 + 2 ^ 26))
  middle_about h w u v =
      let x = u.size in
      let y = v.size in
      let s = about_add 26 (quotient_about h u) (quotient_about w v) (lit≤ tt) (omega arith) in
      rw two_is (about_weaken (n * (2 ^ 27 + 2 ^ 26))
      (about_div 25 2 s (lit< tt) (lit≤ tt) (lit≤ tt) (omega (arith, abs_add h w))) (omega arith))

  -- the mean s / n against the middle of the highest and the lowest
  decided : (s h w : ℤ) → Small n s → Small n h → Small n w → ¬ (s *ℤ pos 2 ≡ h +ℤ w)
      → sign_of (sub binary64 (quotient binary64 s n)
      (div binary64 (add binary64 (quotient binary64 h n) (quotient binary64 w n)) two))
      ≡ cond (lt_z (s *ℤ pos 2) (h +ℤ w)) minus_one plus_one
  decided s h w u v x d =
      let p = quotient_about s u in
      let q = middle_about h w v x in
      let m = mul-le-mul M M in
      about_sign p q (worth_negative (quotient_worth u.whole)) (omega arith)
      ∙ ap (λ (t : Bool). cond t minus_one plus_one)
      (about_order p q (λ e. d (times_cancel (s *ℤ pos 2) (h +ℤ w) n N (sym (times_two s n) ∙ e))) (omega arith)
      ∙ ap (λ (z : ℤ). lt_z z ((h +ℤ w) *ℤ pos n)) (times_two s n) ∙ lt_times (s *ℤ pos 2) (h +ℤ w) n N)

module _ {l : ℕ} {f : Line} {t : ℕ → ℤ} (w : TickLine l f t) (n : ℕ) (N : 0 < n) (M : n ≤ 2 ^ 12) where
  window_small : (i : ℕ) → n ≤ i + 1 → i < l → Small n (window_total n t i)
  window_small i b h = record {
    whole = window_whole w n N M (i + 1 - n) (omega arith);
    size = window_total_size w n N
        M i b h;
  }

  module _ {pick : Float → Float → Float} {pickz : ℤ → ℤ → ℤ} (p : Picks n M pick pickz) (i : ℕ) (b : 2 * n ≤ i + 2)
      (h : i < l) where
    extreme_small : Small n (pickℤ pickz (window_total n t) (i + 1 - n) (n - 1))
    extreme_small = picked_small n M p f (window_total n t) (i + 1 - n) (n - 1)
        (λ j m. window_small (i + 1 - n + j) (omega arith) (omega arith))

    extreme_exact : extreme pick n (mean n f) i
        ≡ quotient binary64 (pickℤ pickz (window_total n t) (i + 1 - n) (n - 1)) n
    unfolding extreme
    extreme_exact =
        rw (from_bar_lem (n - 1) plus_zero _ i (omega arith))
        (picked n M p (mean n f) (window_total n t) (i + 1 - n) (n - 1)
        (λ j m. window_small (i + 1 - n + j) (omega arith) (omega arith))
        (λ j m. mean_exact w n N M (i + 1 - n + j) (omega arith) (omega arith)))

  -- where the highest and the lowest of the last n window sums are not 0 and twice the present one is not their sum
  pub middle_exact : (i : ℕ) → 2 * n ≤ i + 2 → i < l
      → ¬ (highest n (window_total n t) i ≡ pos 0) → ¬ (lowest n (window_total n t) i ≡ pos 0)
      → ¬ (window_total n t i *ℤ pos 2 ≡ highest n (window_total n t) i +ℤ lowest n (window_total n t) i)
      → mid_line n f i ≡ cond (lt_z (window_total n t i *ℤ pos 2)
      (highest n (window_total n t) i +ℤ lowest n (window_total n t) i)) minus_one plus_one
  unfolding mid_line
  middle_exact i b h x y d =
      let s = window_total n t i in
      let high = extreme_small (picks_higher n M) i b h in
      let low = extreme_small (picks_lower n M) i b h in
      rw (
        from_bar_lem (2 * n - 2) plus_zero _ i (omega arith),
        mean_exact w n N M i (omega arith) h,
        extreme_exact (picks_higher n M) i b h,
        extreme_exact (picks_lower n M) i b h,
        about_some (quotient_about n N M _ high) (some_abs _ x) (omega arith),
        about_some (quotient_about n N M _ low) (some_abs _ y) (omega arith),
      )
      (decided n N M s _ _ (window_small i (omega arith) h) high low d)
