-- A running sum and one made afresh: how far each is from the exact sum of the window, and both from each other.
-- Assumes nothing.
use mathlib.Core.Path.{◌≡◌}
use Prim.Native.Nat.{ℕ, zero, suc, ◌+◌, ◌-◌, ◌*◌, ◌^◌, ◌<◌, ◌≤◌}
use native.Mathlib.Nat.{le_refl, add_comm, mul-le-mul_right, not-suc-le-zero}
use native.Mathlib.Numerals.{suc-eq-add-one}
use native.Mathlib.Omega.{arith}
use lib.IntN.{ℤ, nat_abs, ◌+ℤ◌, ◌-ℤ◌}
use lib.Ieee.{Float, binary64}
use Rattle.rounding.specs.Whole.{total}
use Rattle.rounding.specs.Nearest.{signed_units, Number}
use Rattle.rounding_laws.proofs.Integers.{near_abs, total_size, total_slides}
use Rattle.cells.specs.Line.{Line, minus_zero}
use Rattle.cells.specs.Recur.{recur}
use Rattle.windows.specs.Window.{sum_from, window_sum, running_sum, add_difference}
use Rattle.margins.proofs.Relative.{
  Off,
  off_weaken,
  off_self,
  off_minus_zero,
  off_size,
  add_off,
  sub_off,
  size_by,
  roof,
  widest,
  longest_summed,
}

-- the first l cells of f are numbers of at most m units
pub record Small (m l : ℕ) (f : Line) : Type 0 where
  pub number : (j : ℕ) → j < l → Number binary64 (f j)
  pub size : (j : ℕ) → j < l → nat_abs (signed_units binary64 (f j)) ≤ m

-- their values in units
abbrev pub values : Line → ℕ → ℤ
values f j = signed_units binary64 (f j)

-- ---- sums that stay within q units

module _ {m l : ℕ} {f : Line} (w : Small m l f) (q : ℕ) (Q : q < roof) where
  window_units : (a k : ℕ) → a + k ≤ l → nat_abs (total (values f) a k) ≤ k * m
  window_units a k h = total_size (values f) a k m (λ j i. w.size (a + j) (omega arith))

  -- afresh: each of k additions is off by at most 2 ^ -53 of q
  pub sum_off : (a k : ℕ) → a + k ≤ l → k * m * 2 ^ 53 + k * q ≤ q * 2 ^ 53
      → Off (sum_from minus_zero f a k) (total (values f) a k) (k * q)
  unfolding sum_from total
  sum_off a zero h c = off_weaken _ off_minus_zero (omega arith)
  sum_off a (suc k) h c =
      let s = sum_off a k (omega arith) (omega arith) in
      let t : nat_abs (total (values f) a k +ℤ values f (a + k)) ≤ suc k * m = window_units a (suc k) h in
      off_weaken (suc k * q) (add_off q s (off_self (w.number (a + k) (omega arith))) (omega arith) Q) (omega arith)

  -- one step on: the difference is off by at most 2 ^ -53 of 2 * m, and the addition by that of q
  pub step_off : {x : Float} {e : ℕ} (n k : ℕ) → Off x (total (values f) k n) e → n + k < l → 2 * m ≤ q
      → n * m * 2 ^ 53 + e + 2 * m ≤ q * 2 ^ 53
      → Off (add_difference x (f (n + k)) (f k)) (total (values f) (k + 1) n) (e + 2 * m + q)
  step_off n k s h b c =
      let x = w.size (n + k) (omega arith) in
      let y = w.size k (omega arith) in
      let d = sub_off (2 * m) (w.number (n + k) (omega arith)) (w.number k (omega arith)) (omega arith)
      (omega arith) in
      let e : total (values f) (k + 1) n ≡ total (values f) k n +ℤ (values f (n + k) -ℤ values f k) =
      rw (total_slides (values f) k n, add_comm n k) in
      let t = rw e at (window_units (k + 1) n (omega arith)) in
      rw e (add_off q s d (omega arith) Q)

-- ---- windows of 1 to `widest` cells, on at most `longest_summed` bars

-- what c steps are off by, in parts of 2 ^ 53 of a unit: twice the largest sum, n * m, bounds every sum on the way
abbrev pub slack : ℕ → ℕ → ℕ → ℕ
slack m n c = n * (2 * (n * m)) + c * (2 * m + 2 * (n * m))

roomy : (m n c : ℕ) → 0 < n → n ≤ widest → c ≤ longest_summed → n * m * 2 ^ 53 + slack m n c ≤ 2 * (n * m) * 2 ^ 53
roomy m n c N M C =
    let a = mul-le-mul_right (n * m) M in
    let b = mul-le-mul_right (n * m) C in
    let d = mul-le-mul_right m C in
    let e = mul-le-mul_right m N in
    omega arith

-- with those of a sum afresh: 2 ^ 18 · n · m at most
pub slacks : (m n c : ℕ) → 0 < n → n ≤ widest → n + c ≤ longest_summed → slack m n c + slack m n 0 ≤ n * m * 2 ^ 18
slacks m zero c N M C = absurd (not-suc-le-zero N)
slacks m (suc p) c N M C =
    let a = mul-le-mul_right m C in
    let b = mul-le-mul_right (p * m) C in
    let d = mul-le-mul_right (p * m) M in
    omega arith

slack_most : (m n c : ℕ) → 0 < n → n ≤ widest → c ≤ longest_summed → slack m n c ≤ n * m * 2 ^ 19
slack_most m n c N M C =
    let a = mul-le-mul_right (n * m) M in
    let b = mul-le-mul_right (n * m) C in
    let d = mul-le-mul_right m C in
    let e = mul-le-mul_right m N in
    omega arith

-- a line of numbers of at most m units, and a window
pub record Windowed (m n l : ℕ) (f : Line) : Type 0 where
  pub small : Small m l f
  pub some : 0 < n
  pub narrow : n ≤ widest
  pub room : 2 * (n * m) < roof

-- x stands for the sum of the n bars before bar i, at most c steps after it was made afresh: what the loops that slide
-- keep
pub record Carried (m n : ℕ) (f : Line) (i c : ℕ) (x : Float) : Type 0 where
  pub off : Off x (total (values f) (i - n) n) (slack m n c)

module _ {m n l : ℕ} {f : Line} (w : Windowed m n l f) where
  -- a window made afresh, at bar i
  pub fresh : (i : ℕ) → n ≤ i + 1 → i < l → Carried m n f (i + 1) 0 (window_sum n f i)
  unfolding window_sum
  fresh i b h = record {
    off =
        off_weaken (slack m n 0)
        (sum_off w.small (2 * (n * m)) w.room (i + 1 - n) n (omega arith)
        (omega (arith, roomy m n 0 w.some w.narrow (omega arith)))) (omega arith);
  }

  -- bar i comes in, and bar i - n goes out
  pub carry : {i c : ℕ} {x : Float} → Carried m n f i c x → n ≤ i → i < l → c < longest_summed
      → Carried m n f (i + 1) (c + 1) (add_difference x (f i) (f (i - n)))
  carry {i} {c} {x} r b h C =
      let start : i + 1 - n ≡ i - n + 1 = omega arith in
      let bar : n + (i - n) ≡ i = omega arith in
      let o = roomy m n (c + 1) w.some w.narrow (omega arith) in
      let s = step_off w.small (2 * (n * m)) w.room n (i - n) r.off (omega arith)
      (omega (arith, mul-le-mul_right m w.some)) (omega arith) in
      record { off = rw start (off_weaken (slack m n (c + 1)) (rw bar at s) (omega arith)) }

  -- so the running sum of the definitions is carried
  pub running : (k : ℕ) → n + k ≤ l → k ≤ longest_summed → Carried m n f (n + k) k (running_sum add_difference n f k)
  unfolding running_sum recur window_sum
  running zero h K =
      let N = w.some in
      let start : n + 0 - n ≡ 0 = omega arith in
      let end : n - 1 + 1 ≡ n + 0 = omega arith in
      let r = fresh (n - 1) (omega arith) (omega arith) in
      rw start at (rw end at r)
  running (suc k) h K =
      let out : n + k - n ≡ k = omega arith in
      let bar : n + k + 1 ≡ n + (k + 1) = omega arith in
      let r = carry (running k (omega arith) (omega arith)) (omega arith) (omega arith) (omega arith) in
      rw (suc-eq-add-one k) (rw (out, bar) at r)

  -- the sizes of such sums
  pub carried_size : {i c : ℕ} {x : Float} → Carried m n f i c x → n ≤ i → i ≤ l → c ≤ longest_summed
      → nat_abs (signed_units binary64 x) ≤ 2 * (n * m)
  carried_size {i} {c} r b h C =
      let t = window_units w.small (2 * (n * m)) w.room (i - n) n (omega arith) in
      off_size (2 * (n * m)) r.off (omega (arith, roomy m n c w.some w.narrow C))

  -- which is hardly more than n * m
  pub carried_most : {i c : ℕ} {x : Float} → Carried m n f i c x → n ≤ i → i ≤ l → c ≤ longest_summed
      → nat_abs (signed_units binary64 x) * 2 ^ 53 ≤ n * m * (2 ^ 53 + 2 ^ 19)
  carried_most {i} {c} {x} r b h C =
      let v = signed_units binary64 x in
      let z = total (values f) (i - n) n in
      let t = window_units w.small (2 * (n * m)) w.room (i - n) n (omega arith) in
      let d = size_by v z {q = nat_abs z + nat_abs (v -ℤ z)} (near_abs v z (le_refl _)) (le_refl _) in
      let k = r.off.close in
      let s = slack_most m n c w.some w.narrow C in
      omega arith
