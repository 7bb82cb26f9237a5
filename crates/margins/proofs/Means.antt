-- Means by running sums, of numbers that may be approximate themselves: how far they are from means made afresh.
-- Assumes nothing.
use mathlib.Core.Path.{◌≡◌, refl, ap}
use mathlib.Core.Bool.{Bool, true, false, not}
use Prim.Native.Nat.{ℕ, zero, suc, ◌+◌, ◌-◌, ◌*◌, ◌^◌, ◌<◌, ◌≤◌}
use native.Mathlib.Nat.{le_refl, le_trans, zero-mul, le_of_mul-le-mul_right}
use native.Mathlib.Omega.{arith}
use lib.Dec.{T, ltb, ltb→lt, nltb→le}
use lib.IntN.{ℤ, pos, nat_abs, ◌+ℤ◌, ◌-ℤ◌, ◌*ℤ◌}
use lib.Pow.{pow_pos}
use lib.Ieee.{Float, binary64, fits}
use Rattle.rounding.specs.Whole.{total}
use Rattle.rounding.specs.Nearest.{signed_units, Number}
use Rattle.rounding_laws.proofs.Integers.{above, below, Near, near_abs, parts_abs, parts_add, parts_times}
use Rattle.rounding_laws.proofs.Units.{Worth, worth_number, worth_units}
use Rattle.cells.specs.Line.{Line, plus_zero}
use Rattle.cells.proofs.Line.{from_bar_lem, before_bar}
use Rattle.windows.proofs.Window.{mean_of}
use Rattle.windows.specs.Window.{window_sum, over, mean}
use Rattle.windows.specs.inner.RunningSums.{running_sums}
use Rattle.windows.specs.inner.Means.{running_means}
use Rattle.windows.proofs.Means.{zero_over}
use Rattle.margins.proofs.Relative.{off_near, apart_near, near_apart, size_by, div_off, widest, longest_summed}
use Rattle.margins.proofs.Sums.{
  Small,
  Windowed,
  Carried,
  values,
  slacks,
  fresh,
  running,
  carried_size,
  carried_most,
}

-- ---- 0.0

zero_worth : Worth binary64 plus_zero false 0
unfolding fits
zero_worth = record { fit = tt; value = (refl, simp zero-mul) }

pub zero_number : Number binary64 plus_zero
zero_number = worth_number zero_worth

pub zero_units : signed_units binary64 plus_zero ≡ pos 0
zero_units = worth_units zero_worth

-- ---- sums and quotients of numbers that are close

-- sums of close numbers are close
total_near : (t u : ℕ → ℤ) (d a k : ℕ) → ((j : ℕ) → j < k → nat_abs (t (a + j) -ℤ u (a + j)) * 2 ^ 53 ≤ d)
    → nat_abs (total t a k -ℤ total u a k) * 2 ^ 53 ≤ k * d
unfolding total
total_near t u d a zero h = omega arith
total_near t u d a (suc k) h =
    let p = apart_near (total t a k) (total u a k) (total_near t u d a k (λ j l. h j (omega arith))) in
    let q = apart_near (t (a + k)) (u (a + k)) (h k (le_refl (suc k))) in
    let i = parts_add (total t a k) (t (a + k)) in
    let j = parts_add (total u a k) (u (a + k)) in
    near_apart (total t a k +ℤ t (a + k)) (total u a k +ℤ u (a + k)) (omega arith)

-- two quotients by n, from the sums that they come of
quotients : (x⁺ x⁻ y⁺ y⁻ q⁺ q⁻ r⁺ r⁻ n m e : ℕ) → 0 < n
    → Near ((q⁺ * n + x⁻) * 2 ^ 53) ((x⁺ + q⁻ * n) * 2 ^ 53) (2 * (n * m) + n * 2 ^ 52)
    → Near ((r⁺ * n + y⁻) * 2 ^ 53) ((y⁺ + r⁻ * n) * 2 ^ 53) (2 * (n * m) + n * 2 ^ 52)
    → Near ((x⁺ + y⁻) * 2 ^ 53) ((y⁺ + x⁻) * 2 ^ 53) (n * e)
    → Near ((q⁺ + r⁻) * 2 ^ 53) ((r⁺ + q⁻) * 2 ^ 53) (m * 4 + 2 ^ 53 + e)
quotients x⁺ x⁻ y⁺ y⁻ q⁺ q⁻ r⁺ r⁻ n m e N a b c = record {
  above_by = le_of_mul-le-mul_right {k = n} (omega arith) N;
  below_by = le_of_mul-le-mul_right {k = n} (omega arith) N;
}

-- the size of a quotient by n
quotient_size : (x q : ℤ) (n m : ℕ) → 0 < n → nat_abs x * 2 ^ 53 ≤ n * m * (2 ^ 53 + 2 ^ 19)
    → nat_abs (q *ℤ pos n -ℤ x) * 2 ^ 53 ≤ 2 * (n * m) + n * 2 ^ 52 → nat_abs q * 2 ^ 33 ≤ m * (2 ^ 33 + 1) + 2 ^ 33
quotient_size x q n m N a c =
    let s = size_by (q *ℤ pos n) x {q = nat_abs x + nat_abs (q *ℤ pos n -ℤ x)} (near_abs (q *ℤ pos n) x (le_refl _))
    (le_refl _) in
    let t = parts_times q n in
    let u = parts_abs (q *ℤ pos n) in
    let v = ap (λ (k : ℕ). k * n) (parts_abs q) in
    go (nat_abs q) (le_of_mul-le-mul_right {k = n} (omega arith) N)
  where
    go : (q : ℕ) → q * 2 ^ 53 ≤ m * (2 ^ 53 + 2 ^ 19 + 2) + 2 ^ 52 → q * 2 ^ 33 ≤ m * (2 ^ 33 + 1) + 2 ^ 33
    go q h = omega arith

-- ---- averages of sums that stand for a window's

module _ {m n l : ℕ} {f : Line} (w : Windowed m n l f) {i c : ℕ} {x : Float} (r : Carried m n f i c x) (b : n ≤ i)
    (h : i ≤ l) (C : c ≤ longest_summed) where
  share : Number binary64 (over n x)
      × (nat_abs (signed_units binary64 (over n x) *ℤ pos n -ℤ signed_units binary64 x) * 2 ^ 53
      ≤ 2 * (n * m) + n * 2 ^ 52)
  share =
      let s = carried_size w r b h C in
      let M = w.narrow in
      let R = w.room in
      let d = div_off n r.off.number w.some (omega arith) (omega arith) in
      (d.0, omega (arith, d.1))

  pub average_number : Number binary64 (over n x)
  average_number = share.0

  -- hardly more than m
  pub average_size : nat_abs (signed_units binary64 (over n x)) * 2 ^ 33 ≤ m * (2 ^ 33 + 1) + 2 ^ 33
  average_size = quotient_size (signed_units binary64 x) (signed_units binary64 (over n x)) n m w.some
      (carried_most w r b h C) share.1

-- what the average of a running sum over cells that are off by d is off by
abbrev pub spread : ℕ → ℕ → ℕ
spread m d = m * (2 ^ 18 + 4) + 2 ^ 53 + d

-- The law: the cells of h are close to those of g, and y stands for a window of h. Its average is close to the mean of
-- g made afresh.
module _ {m n l : ℕ} {g h : Line} (w : Windowed m n l g) (v : Windowed m n l h) (d : ℕ)
    (D : (j : ℕ) → j < l → nat_abs (signed_units binary64 (h j) -ℤ signed_units binary64 (g j)) * 2 ^ 53 ≤ d) where
  pub average_near : {c : ℕ} {y : Float} (i : ℕ) → Carried m n h (i + 1) c y → n ≤ i + 1 → i < l
      → n + c ≤ longest_summed
      → nat_abs (signed_units binary64 (over n y) -ℤ signed_units binary64 (over n (window_sum n g i))) * 2 ^ 53
      ≤ spread m d
  average_near {c} {y} i r b H L =
      let z = window_sum n g i in
      let o = fresh w i b H in
      let vy = signed_units binary64 y in
      let vz = signed_units binary64 z in
      let vq = signed_units binary64 (over n y) in
      let vr = signed_units binary64 (over n z) in
      let p = apart_near (vq *ℤ pos n) vy (share v r b (omega arith) (omega arith)).1 in
      let s = apart_near (vr *ℤ pos n) vz (share w o b (omega arith) (omega arith)).1 in
      let a = off_near r.off in
      let e = off_near o.off in
      let k = i + 1 - n in
      let f = apart_near (total (values h) k n) (total (values g) k n)
      (total_near (values h) (values g) d k n (λ j u. D (k + j) (omega arith))) in
      let q = slacks m n c w.some w.narrow L in
      let t = parts_times vq n in
      let u = parts_times vr n in
      let near =
      quotients (above vy) (below vy) (above vz) (below vz) (above vq) (below vq) (above vr) (below vr) n m
      (m * 2 ^ 18 + d) w.some (rw (t.0, t.1) at p) (rw (u.0, u.1) at s) (omega arith) in
      near_apart vq vr (omega arith)

-- ---- a mean at every bar

module _ {m n l : ℕ} {f : Line} (w : Windowed m n l f) (B : l ≤ longest_summed) where
  -- the running sum at bar i
  pub running_sum_carried : (i : ℕ) → n ≤ i + 1 → i < l → Carried m n f (i + 1) (i + 1 - n) (running_sums n f i)
  unfolding running_sums
  running_sum_carried i b h =
      let bar : n + (i + 1 - n) ≡ i + 1 = omega arith in
      let r = running w (i + 1 - n) (omega arith) (omega arith) in
      rw (from_bar_lem (n - 1) plus_zero _ i (omega arith)) (rw bar at r)

-- before the first whole window a running sum and a mean are 0.0
before : (n i : ℕ) (g h : Line) → i < n - 1 → (running_sums n h i ≡ plus_zero) × (mean n g i ≡ plus_zero)
unfolding running_sums mean
before n i g h l = (before_bar (n - 1) plus_zero _ i l, before_bar (n - 1) plus_zero _ i l)

-- what holds of 0.0 and of the averages of whole windows holds of both means at every bar
at_every_bar : (P : Float → Float → Type 0) (n i : ℕ) (g h : Line) → 0 < n → n ≤ widest → P plus_zero plus_zero
    → (n ≤ i + 1 → P (over n (running_sums n h i)) (over n (window_sum n g i)))
    → P (over n (running_sums n h i)) (mean n g i)
at_every_bar P n i g h N M z a = go (ltb i (n - 1)) (ltb→lt i (n - 1)) (nltb→le i (n - 1))
  where
    go : (t : Bool) → (T t → i < n - 1) → (T (not t) → n - 1 ≤ i) → P (over n (running_sums n h i)) (mean n g i)
    go true p q = let zero = before n i g h (p tt) in rw (zero.0, zero.1, zero_over n N (omega arith)) z
    go false p q =
        let l = q tt in
        let full : n ≤ i + 1 = omega arith in
        rw (← mean_of n i g refl full) (a full)

-- both means are small
module _ {m n l : ℕ} {g h : Line} (w : Windowed m n l g) (v : Windowed m n l h) (B : l ≤ longest_summed) (m' : ℕ)
    (M : m * (2 ^ 33 + 1) + 2 ^ 33 ≤ m' * 2 ^ 33) where
  both_small : (i : ℕ) → i < l
      → let small : Float → Type 0 = λ x. Number binary64 x × (nat_abs (signed_units binary64 x) ≤ m') in
      small (over n (running_sums n h i)) × small (mean n g i)
  both_small i H =
      let small : Float → Type 0 = λ x. Number binary64 x × (nat_abs (signed_units binary64 x) ≤ m') in
      let zero : small plus_zero = (zero_number, rw zero_units (omega arith)) in
      at_every_bar (λ x y. small x × small y) n i g h w.some w.narrow (zero, zero)
      (λ b. let r = running_sum_carried v B i b H in
      let o = fresh w i b H in (
        (average_number v r b (omega arith) (omega arith), fewer (average_size v r b (omega arith) (omega arith))),
        (average_number w o b (omega arith) (omega arith), fewer (average_size w o b (omega arith) (omega arith))),
      ))
    where
      fewer : {k : ℕ} → k * 2 ^ 33 ≤ m * (2 ^ 33 + 1) + 2 ^ 33 → k ≤ m'
      fewer h = le_of_mul-le-mul_right {k = 2 ^ 33} (le_trans h M) (pow_pos 33)

  pub running_means_small : Small m' l (running_means n h)
  running_means_small = record { number = λ i H. (both_small i H).0.0; size = λ i H. (both_small i H).0.1 }

  pub means_small : Small m' l (mean n g)
  means_small = record { number = λ i H. (both_small i H).1.0; size = λ i H. (both_small i H).1.1 }

-- and close to each other
module _ {m n l : ℕ} {g h : Line} (w : Windowed m n l g) (v : Windowed m n l h) (B : l ≤ longest_summed) where
  pub running_means_near : (d : ℕ)
      → ((j : ℕ) → j < l → nat_abs (signed_units binary64 (h j) -ℤ signed_units binary64 (g j)) * 2 ^ 53 ≤ d)
      → (i : ℕ) → i < l
      → nat_abs (signed_units binary64 (running_means n h i) -ℤ signed_units binary64 (mean n g i)) * 2 ^ 53 ≤ spread m
      d
  running_means_near d D i H =
      at_every_bar (λ x y. nat_abs (signed_units binary64 x -ℤ signed_units binary64 y) * 2 ^ 53 ≤ spread m d) n i g h
      w.some w.narrow (rw zero_units (omega arith))
      (λ b. average_near w v d D i (running_sum_carried v B i b H) b H (omega arith))
