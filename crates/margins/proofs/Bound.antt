-- The largest magnitude of a series of accepted prices, and the margin made of it. Assumes nothing.
use mathlib.Core.Path.{◌≡◌, refl, sym, ap, ◌∙◌}
use mathlib.Core.Bool.{Bool, true, false, not, cond}
use mathlib.Core.List.{List}
use Prim.Native.Nat.{ℕ, zero, suc, ◌+◌, ◌-◌, ◌*◌, ◌/◌, ◌^◌, ◌<◌, ◌≤◌, zero-le}
use native.Mathlib.Nat.{
  le_refl,
  le_trans,
  lt_of_le_of_lt,
  not-suc-le-zero,
  mul-one,
  mul-le-mul,
  mul-le-mul_right,
  mul-le-mul_left,
  div-lt_iff_lt-mul,
  le_of_mul-le-mul_right,
}
use native.Mathlib.Omega.{arith}
use lib.Dec.{T, ltb, ltb→lt, nltb→le, lit≤, lit<}
use lib.IntN.{pos, negsuc, nat_abs, ◌+ℤ◌, ◌-ℤ◌}
use lib.ListN.{length}
use lib.Signed.{lt_z}
use lib.Pow.{pow_pos}
use lib.Ieee.{Float, nan, inf, fin, binary64, up, down, mul, lt, fits}
use lib.Ieee.Fits.{down_pos}
use lib.Ieee.Scale.{grid}
use Rattle.rounding.specs.Leaves.{negative, magnitude_of}
use Rattle.rounding.specs.Nearest.{in_units, signed_units, Number}
use Rattle.rounding_laws.proofs.Integers.{above, Near, near_abs, parts_less}
use Rattle.rounding_laws.proofs.Value.{mul_at}
use Rattle.rounding_laws.proofs.Units.{Worth, worth, worth_number, worth_units, abs_units, round_worth, unlike_plus}
use Rattle.rounding_laws.proofs.About.{number_lt}
use Rattle.rounding_laws.proofs.Bounds.{AtMost}
use Rattle.values.specs.Accepted.{accepted, all}
use Rattle.cells.specs.Line.{Line, line, plus_zero}
use Rattle.cells.specs.Recur.{recur}
use Rattle.extremes.specs.Extreme.{larger}
use Rattle.exact_ticks.proofs.Bounds.{prices_bounded}
use Rattle.margins.specs.inner.Margin.{largest_of, margin_of}
use Rattle.margins.proofs.Relative.{rounds_off, add_rounds, share_off, share_few, roof, widest}
use Rattle.margins.proofs.Sums.{Small}
use Rattle.margins.proofs.Means.{zero_number, zero_units}
use Rattle.margins.proofs.Signs.{Margin, magnitude_number, magnitude_units}

-- ---- accepted prices in units

-- the largest accepted value
abbrev pub most : ℕ
most = 2 ^ 30 * 2 ^ 1074

bounded_units : {x : Float} → AtMost (2 ^ 30) x → T (fits binary64 x) → Number binary64 x
    × (nat_abs (signed_units binary64 x) ≤ most)
bounded_units {x} b h =
    rw b.is (
      record { fit = rw b.is at h; ends = tt },
      rw (abs_units binary64 (fin b.sign b.digits b.place))
          (go (b.digits * up b.place) (down b.place) (2 ^ 1074) (down_pos b.place) b.size),
    )
  where
    go : (a d u : ℕ) → 0 < d → a ≤ 2 ^ 30 * d → a * u / d ≤ 2 ^ 30 * u
    go a d u D h =
        let l : a * u < suc (2 ^ 30 * u) * d = let k = mul-le-mul_right u h in omega arith in
        let r : a * u / d < suc (2 ^ 30 * u) = (div-lt_iff_lt-mul D).1 l in
        omega arith

-- ---- the largest magnitude

-- a number that is not negative
pub record Plus (x : Float) : Type 0 where
  pub number : Number binary64 x
  pub sign : negative x ≡ false

pub plus_units : {x : Float} → Plus x → signed_units binary64 x ≡ pos (in_units binary64 x)
unfolding signed_units
plus_units p = rw p.sign

magnitude_plus : (x : Float) → Number binary64 x → Plus (magnitude_of x)
unfolding magnitude_of negative
magnitude_plus nan n = absurd n.ends
magnitude_plus (inf s) n = absurd n.ends
magnitude_plus (fin s m e) n = record { number = magnitude_number (fin s m e) n; sign = refl }

magnitude_size : (x : Float) → Number binary64 x
    → in_units binary64 (magnitude_of x) ≡ nat_abs (signed_units binary64 x)
magnitude_size x n = sym (abs_units binary64 (magnitude_of x)) ∙ ap nat_abs (magnitude_units x n)

-- M is no less than the magnitudes of the first k prices
pub record Largest (f : Line) (k : ℕ) (M : Float) : Type 0 where
  pub plus : Plus M
  pub low : in_units binary64 M ≤ most
  pub small : Small (in_units binary64 M) k f

none_yet : (f : Line) → Largest f 0 plus_zero
unfolding negative
none_yet f = record {
  plus = record { number = zero_number; sign = refl };
  low = rw (← abs_units binary64 plus_zero, zero_units) zero-le;
  small = record { number = λ j h. absurd (not-suc-le-zero h); size = λ j h. absurd (not-suc-le-zero h) };
}

-- one more price, and a bound that is no less than the last one and that price
more : {f : Line} {k m : ℕ} (m' : ℕ) → Small m k f → Number binary64 (f k) → nat_abs (signed_units binary64 (f k)) ≤ m'
    → m ≤ m' → Small m' (suc k) f
more {f} {k} {m} m' w n h g = record { number = λ j l. (at j l).0; size = λ j l. (at j l).1 }
  where
    go : (j : ℕ) → j < suc k → (t : Bool) → (T t → j < k) → (T (not t) → k ≤ j)
        → Number binary64 (f j) × (nat_abs (signed_units binary64 (f j)) ≤ m')
    go j l true p q = (w.number j (p tt), le_trans (w.size j (p tt)) g)
    go j l false p q = let i = q tt in let e : j ≡ k = omega arith in rw e (n, h)

    at : (j : ℕ) → j < suc k → Number binary64 (f j) × (nat_abs (signed_units binary64 (f j)) ≤ m')
    at j l = go j l (ltb j k) (ltb→lt j k) (nltb→le j k)

not_below : (a b : ℕ) → lt_z (pos a) (pos b) ≡ false → b ≤ a
not_below a b e = nltb→le a b (rw e tt)

one_more : {f : Line} {k : ℕ} {M : Float} → Largest f k M → Number binary64 (f k)
    → nat_abs (signed_units binary64 (f k)) ≤ most → Largest f (suc k) (larger M (magnitude_of (f k)))
one_more {f} {k} {M} w n h = go (lt M (magnitude_of (f k))) refl
  where
    order : lt M (magnitude_of (f k)) ≡ lt_z (pos (in_units binary64 M)) (pos (nat_abs (signed_units binary64 (f k))))
    order = number_lt w.plus.number (magnitude_number (f k) n) ∙ rw (plus_units w.plus, magnitude_units (f k) n)

    go : (t : Bool) → lt M (magnitude_of (f k)) ≡ t → Largest f (suc k) (cond t (magnitude_of (f k)) M)
    go true e =
        let l = parts_less (pos (in_units binary64 M)) (pos (nat_abs (signed_units binary64 (f k)))) (sym order ∙ e) in
        let size = magnitude_size (f k) n in
        record {
          plus = magnitude_plus (f k) n;
          low = rw size h;
          small = rw size (more (nat_abs (signed_units binary64 (f k))) w.small n (le_refl _) (omega arith));
        }
    go false e = record {
      plus = w.plus;
      low = w.low;
      small = more (in_units binary64 M) w.small n (not_below _ _ (sym order ∙ e)) (le_refl _);
    }

pub largest_is : (s : List Float) → all accepted s ≡ true → ((j : ℕ) → T (fits binary64 (line s j))) → (k : ℕ)
    → k ≤ length s → Largest (line s) k (largest_of (line s) k)
unfolding largest_of recur
largest_is s ok floats zero h = none_yet (line s)
largest_is s ok floats (suc k) h =
    let (n, b) = bounded_units (prices_bounded s k ok h k (le_refl k)) (floats k) in
    one_more (largest_is s ok floats k (omega arith)) n b

-- ---- the margin

-- a and b are close, p being 2 ^ 50
eighths : (a b m p : ℕ) → 0 < p → a * (8 * p) ≤ b * (8 * p) + (m + 2 ^ 30 * (8 * p)) → a * 8 ≤ b * 8 + m + 2 ^ 33
eighths a b m p P h =
    let k = mul-le-mul_left m P in
    le_of_mul-le-mul_right {k = p} (omega arith) P

-- a part g of m units
module _ (m g : ℕ) (n : Near (g * 2 ^ 31 * 2 ^ 53) (m * 2 ^ 53) (m + 2 ^ 31 * 2 ^ 52)) where
  part_most : g ≤ m + 1
  part_most = let a = eighths (g * 2 ^ 31) m m (2 ^ 50) (pow_pos 50) n.above_by in omega arith

  part_least : m * 7 ≤ (g + 1) * 2 ^ 34
  part_least = let a = eighths m (g * 2 ^ 31) m (2 ^ 50) (pow_pos 50) n.below_by in omega arith

margin_least_lem : (m g e d t : ℕ) → m * 7 ≤ (g + 1) * 2 ^ 34 → 2 ^ 40 ≤ e → d * 2 ^ 53 ≤ g + e → g + e ≤ t + d
    → (1 < t) × (m * 6 + 2 ^ 60 ≤ (t - 1) * 2 ^ 34)
margin_least_lem m g e d t a b c h =
    let k : (g + e) * 7 ≤ t * 8 = omega arith in
    let s : m * 6 + 2 ^ 60 + 2 ^ 34 ≤ t * 2 ^ 34 = far m g e t a b k in
    (omega arith, omega arith)
  where
    far : (m g e t : ℕ) → m * 7 ≤ (g + 1) * 2 ^ 34 → 2 ^ 40 ≤ e → (g + e) * 7 ≤ t * 8
        → m * 6 + 2 ^ 60 + 2 ^ 34 ≤ t * 2 ^ 34
    far m g e t a b k = omega arith

-- 2 ^ -1000
least : Float
least = fin false 1 (negsuc 999)

least_plus : Plus least
unfolding least negative fits
least_plus = record { number = record { fit = tt; ends = tt }; sign = refl }

least_size : (2 ^ 40 ≤ in_units binary64 least) × (in_units binary64 least ≤ most)
unfolding least
least_size = (lit≤ tt, lit≤ tt)

-- accepted prices are far below the largest numbers
pub room_for : (m n : ℕ) → m ≤ most → n ≤ widest → 16 * (n * (m + 1)) < roof
unfolding roof
room_for m n h k = lt_of_le_of_lt (go m n most h k) (lit< tt)
  where
    go : (m n b : ℕ) → m ≤ b → n ≤ widest → 16 * (n * (m + 1)) ≤ 16 * (widest * (b + 1))
    go m n b h k = let l : m + 1 ≤ b + 1 = omega arith in mul-le-mul_left 16 (mul-le-mul k l)

module _ {M : Float} (p : Plus M) (h : in_units binary64 M ≤ most) where
  abbrev m : ℕ
  m = in_units binary64 M

  low : m + in_units binary64 least + 1 < roof
  low = go m (in_units binary64 least) most roof h least_size.1
      (room_for most 1 (le_refl most) (lit≤ tt))
    where
      go : (m l b r : ℕ) → m ≤ b → l ≤ b → 16 * (1 * (b + 1)) < r → m + l + 1 < r
      go m l b r h k g = omega arith

  part : ℕ
  part = grid binary64 m (2 ^ 31 * 2 ^ 1074)

  part_near : Near (part * 2 ^ 31 * 2 ^ 53) (m * 2 ^ 53) (m + 2 ^ 31 * 2 ^ 52)
  unfolding part
  part_near = share_off binary64 m (2 ^ 31) (pow_pos 31)

  part_worth : Worth binary64 (mul binary64 M (fin false 1 (negsuc 30))) false part
  unfolding part
  part_worth =
      let few = low in
      rw (
        mul_at M (fin false 1 (negsuc 30)) (negative M) m (2 ^ 1074) false 1 (2 ^ 31) (pow_pos 1074) (pow_pos 31)
            (worth M p.number).value (refl, refl) binary64,
        p.sign,
        unlike_plus false,
        mul-one m,
      ) (round_worth binary64 false m (2 ^ 31 * 2 ^ 1074) (share_few m (2 ^ 31) (pow_pos 31) (omega arith)))

  -- the margin is more than 6 · 2 ^ -34 of M, and 2 ^ 26 units
  pub margin_wide : (u : ℕ) × Margin u (margin_of M) × (m * 6 + 2 ^ 60 ≤ u * 2 ^ 34)
  unfolding least
  margin_wide =
      let l = in_units binary64 least in
      let few = low in
      let most = part_most m part part_near in
      let is : signed_units binary64 (mul binary64 M (fin false 1 (negsuc 30))) +ℤ signed_units binary64 least
      ≡ pos (part + l) = rw (worth_units part_worth, plus_units least_plus) in
      let o = rw is at (rounds_off (add_rounds (worth_number part_worth) least_plus.number) (rw is (omega arith))) in
      let v = signed_units binary64 (margin_of M) in
      let n = near_abs v (pos (part + l)) (le_refl _) in
      let c = o.close in
      let k = margin_least_lem m part l (nat_abs (v -ℤ pos (part + l))) (above v) (part_least m part part_near)
      least_size.0 c (omega arith) in
      let wide = k.0 in
      (above v - 1, record { number = o.number; wide = omega arith }, k.1)
