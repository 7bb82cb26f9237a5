-- The number of a format that is nearest to a fraction: `round` finds it. Assumes nothing.
use mathlib.Core.Path.{◌≡◌, refl, sym, ap, ◌∙◌}
use mathlib.Core.Logic.{◌⊎◌, inl, inr}
use mathlib.Core.Bool.{Bool, true, false, not, cond}
use Prim.Native.Nat.{
  ℕ,
  zero,
  suc,
  ◌+◌,
  ◌-◌,
  ◌*◌,
  ◌/◌,
  ◌%◌,
  ◌^◌,
  ◌<◌,
  ◌≤◌,
  compare,
  Ordering,
}
use native.Mathlib.Nat.{
  le_antisymm,
  mod-lt,
  zero-lt-suc,
  div-add-mod',
  mul-le-mul_right,
  mul-pos,
  sub-add_cancel,
  mul_assoc,
  mul-lt-mul_of_pos_right,
  mul_right_comm,
  mul-mod_left,
  mul-div_cancel,
  pow-succ',
  le_of_mul-le-mul_right,
  add-sub_of_le,
  le_trans,
  div-div-eq-div-mul,
  le_of_lt,
  ne_of_lt,
}
use native.Mathlib.Omega.{arith}
use lib.Dec.{T, ltb, ltb→lt, nltb→le, is_le, compare_is_eq, leb→le, nleb→lt, eqb→eq}
use lib.IntN.{ℤ, pos, negsuc, nat_abs, ◌*ℤ◌}
use lib.Pow.{pow-add, pow_pos, pow_mono, shl_lt}
use lib.Ieee.{Float, Format, binary32, binary64, prec, low, size, nearest, round, hid, top, to_bits}
use lib.Ieee.Fits.{two, eq→eqb, nearest-le, kept-lt, down_pos}
use lib.Ieee.Digits.{size-le, size_reaches}
use lib.Ieee.Nearest.{closest}
use lib.Ieee.Order.{kept}
use lib.Ieee.Scale.{grid, overflow}
use Rattle.rounding_laws.proofs.Integers.{above, below, Near, gap, parts_times, parts_signed, abs_gap}
use Rattle.rounding.specs.Nearest.{signed, signed_units, Number, distance, NearestTo}
use Rattle.rounding_laws.proofs.Units.{Worth, worth_number, worth_units, round_worth, abs_units}
use Rattle.rounding_laws.proofs.Multiples.{made}
use Rattle.rounding_laws.proofs.Value.{shape}
use Rattle.rounding_laws.proofs.Error.{places, closest_near, grid_relative}

-- ---- a whole number nearest to a / b

-- q is no nearer, and as near only at a tie
record NoNearer (a b k q : ℕ) : Type 0 where
  least : gap (k * b) a ≤ gap (q * b) a
  tie : gap (k * b) a ≡ gap (q * b) a → ¬ (k ≡ q) → gap (k * b) a * 2 ≡ b

no_nearer : (a b k q : ℕ) → Near (k * b * 2) (a * 2) b → NoNearer a b k q
no_nearer a b k q n = go (ltb k q) (ltb q k) (ltb→lt k q) (ltb→lt q k) (nltb→le k q) (nltb→le q k)
  where
    go : (t u : Bool) → (T t → k < q) → (T u → q < k) → (T (not t) → q ≤ k) → (T (not u) → k ≤ q) → NoNearer a b k q
    go true u h i h' i' = let l = mul-le-mul_right b (h tt) in omega arith
    go false true h i h' i' = let l = mul-le-mul_right b (i tt) in omega arith
    go false false h i h' i' = let e : k
        ≡ q = le_antisymm (i' tt) (h' tt) in let g = ap (λ (z : ℕ). z * b) e in omega arith

closest_even : (a b : ℕ) → 0 < b → gap (closest a b * b) a * 2 ≡ b → closest a b % 2 ≡ 0
closest_even a b B = go (compare (a % b * 2) b) (leb→le (a % b * 2) b) (nleb→lt (a % b * 2) b) (eqb→eq (a % b * 2) b)
    eq→eqb
  where
    go : (o : Ordering) → (T (is_le o) → a % b * 2 ≤ b) → (T (not (is_le o)) → b < a % b * 2)
        → (T (compare_is_eq o) → a % b * 2 ≡ b) → (a % b * 2 ≡ b → T (compare_is_eq o))
        → gap (nearest (a / b) o * b) a * 2 ≡ b → nearest (a / b) o % 2 ≡ 0
    go Ordering.lt h k e i g = let l : a % b * 2 ≤ b = h tt in absurd (i (omega (arith, div-add-mod' a b)))
    go Ordering.eq h k e i g = omega arith
    go Ordering.gt h k e i g =
        let l : b < a % b * 2 = k tt in
        let r : a % b < b = mod-lt a B in
        absurd (omega (arith, div-add-mod' a b))

-- ---- against every number of p digits

shift : (m j k : ℕ) → k ≤ j → m * 2 ^ j ≡ m * 2 ^ (j - k) * 2 ^ k
shift m j k h =
    ap (λ (z : ℕ). m * 2 ^ z) (sym (sub-add_cancel h)) ∙ ap (λ (z : ℕ). m * z) (pow-add 2 (j - k) k)
    ∙ sym (mul_assoc m (2 ^ (j - k)) (2 ^ k))

-- n / c is rounded to q * 2 ^ k, by its last place that is kept; where digits are dropped, it has more than p
record Rounding (p n c k q : ℕ) : Type 0 where
  some : 0 < c
  near : Near (q * (c * 2 ^ k) * 2) (n * 2) (c * 2 ^ k)
  tie : gap (q * (c * 2 ^ k)) n * 2 ≡ c * 2 ^ k → q % 2 ≡ 0
  full : 0 < k → c * 2 ^ k * 2 ^ (p - 1) ≤ n

-- v / 1 is no nearer, and as near only if q is even
record Best (n c k q v : ℕ) : Type 0 where
  least : gap (q * 2 ^ k * c) n ≤ gap (v * c) n
  even : gap (q * 2 ^ k * c) n ≡ gap (v * c) n → ¬ (q * 2 ^ k ≡ v) → q % 2 ≡ 0

module _ {p n c k q : ℕ} (r : Rounding p n c k q) where
  on_place : (i : ℕ) → Best n c k q (i * 2 ^ k)
  on_place i =
      let b = no_nearer n (c * 2 ^ k) q i r.near in
      let x : q * 2 ^ k * c ≡ q * (c * 2 ^ k) = omega arith in
      let y : i * 2 ^ k * c ≡ i * (c * 2 ^ k) = omega arith in
      record {
        least = rw (x, y) b.least;
        even = λ e d. r.tie (b.tie (rw (x, y) at e) (λ (z : q ≡ i). d (ap (λ (w : ℕ). w * 2 ^ k) z)));
      }

  off_place : (m j : ℕ) → m < 2 ^ p → j < k → 0 < p → Best n c k q (m * 2 ^ j)
  off_place m j l h P =
      let top = 2 ^ (p - 1) in
      let b = (on_place top).least in
      let full : c * 2 ^ k * top ≤ n = r.full (omega arith) in
      let up : 2 ^ (p + j) ≤ 2 ^ (p - 1 + k) = pow_mono (omega arith) in
      let less : m * 2 ^ j < top * 2 ^ k = omega (arith, shl_lt p j l, pow-add 2 (p - 1) k) in
      let far = mul-lt-mul_of_pos_right less r.some in
      let strict : gap (q * 2 ^ k * c) n < gap (m * 2 ^ j * c) n = omega arith in
      record { least = le_of_lt strict; even = λ e d. absurd (ne_of_lt strict e) }

  best : (m j : ℕ) → m < 2 ^ p → 0 < p → Best n c k q (m * 2 ^ j)
  best m j l P = go (ltb j k) (ltb→lt j k) (nltb→le j k)
    where
      go : (t : Bool) → (T t → j < k) → (T (not t) → k ≤ j) → Best n c k q (m * 2 ^ j)
      go true x y = off_place m j l (x tt) P
      go false x y = rw (shift m j k (y tt)) (on_place (m * 2 ^ (j - k)))

-- ---- the last bit

even_times : (q w : ℕ) → q % 2 ≡ 0 → q * w % 2 ≡ 0
even_times q w e =
    let h : q ≡ q / 2 * 2 = omega arith in
    let g : q * w ≡ q / 2 * w * 2 = ap (λ (z : ℕ). z * w) h ∙ mul_right_comm (q / 2) 2 w in
    rw g (mul-mod_left (q / 2 * w) 2)

-- what a bit pattern ends in, of q * 2 ^ k units
even_bits : (p q k : ℕ) → 2 ≤ p → q ≤ 2 ^ p → q % 2 ≡ 0 → q * 2 ^ k / 2 ^ (size (q * 2 ^ k) - p) % 2 ≡ 0
even_bits p q k P l e = go (ltb k d) (ltb→lt k d) (nltb→le k d)
  where
    n : ℕ
    n = q * 2 ^ k

    d : ℕ
    d = size n - p

    go : (t : Bool) → (T t → k < d) → (T (not t) → d ≤ k) → n / 2 ^ d % 2 ≡ 0
    go true h i =
        let x : k < size n - p = h tt in
        let r : 2 ^ p * 2 ^ k ≤ q * 2 ^ k = rw (← pow-add 2 p k) (size_reaches n (p + k) (omega arith)) in
        let q_is : q ≡ 2 ^ p = le_antisymm l (le_of_mul-le-mul_right r (pow_pos k)) in
        let up : n < 2 ^ suc (p + k) = omega (arith, mul-le-mul_right (2 ^ k) l, pow-add 2 p k, pow_pos (p + k)) in
        let d_is : d ≡ suc k = omega (arith, size-le n (suc (p + k)) up) in
        let four : 2 ^ p ≡ 4 * 2 ^ (p - 2) = ap (λ (z : ℕ). 2 ^ z) (sym (add-sub_of_le P)) ∙ pow-add 2 2 (p - 2) in
        let half : q / 2 ≡ 2 ^ (p - 2) * 2 = omega arith in
        let twice : q ≡ q / 2 * 2 = omega arith in
        let n_is : n ≡ q / 2 * 2 ^ suc k = ap (λ (z : ℕ). z * 2 ^ k) twice ∙ mul_assoc (q / 2) 2 (2 ^ k)
        ∙ ap (λ (z : ℕ). q / 2 * z) (sym (pow-succ' 2 k)) in
        ap (λ (z : ℕ). n / 2 ^ z % 2) d_is
        ∙ ap (λ (z : ℕ). z / 2 ^ suc k % 2) n_is
        ∙ ap (λ (z : ℕ). z % 2) (mul-div_cancel (q / 2) (pow_pos (suc k)) ∙ half)
        ∙ mul-mod_left (2 ^ (p - 2)) 2
    go false h i =
        ap (λ (z : ℕ). z / 2 ^ d % 2) (shift q k d (i tt))
        ∙ ap (λ (z : ℕ). z % 2) (mul-div_cancel (q * 2 ^ (k - d)) (pow_pos d)) ∙ even_times q (2 ^ (k - d)) e

-- ---- `round` finds the nearest number

kept_le : (f : Format) (a c : ℕ) → kept (prec f) (a * 2 ^ low f) c ≤ 2 ^ prec f
kept_le f a c =
    let n = a * 2 ^ low f in
    let u = c * 2 ^ places f a c in
    le_trans (nearest-le (n / u) (compare (n % u * 2) u))
    (rw (← div-div-eq-div-mul n c (2 ^ places f a c)) (kept-lt (prec f) (n / c)))

rounding : (f : Format) (a c : ℕ) → 0 < c
    → Rounding (prec f) (a * 2 ^ low f) c (places f a c) (kept (prec f) (a * 2 ^ low f) c)
rounding f a c C =
    let u = c * 2 ^ places f a c in
    let U : 0 < u = mul-pos C (pow_pos (places f a c)) in
    record {
      some = C;
      near = closest_near (a * 2 ^ low f) u U;
      tie = closest_even (a * 2 ^ low f) u U;
      full = λ (h : 0 < places f a c). grid_relative f a c C (omega arith);
    }

even_pattern : (f : Format) (s : Bool) (d w : ℕ) → w % 2 ≡ 0 → (cond s (top f) 0 + d * hid f + w) % 2 ≡ 0
even_pattern binary32 true d w h = omega arith
even_pattern binary32 false d w h = omega arith
even_pattern binary64 true d w h = omega arith
even_pattern binary64 false d w h = omega arith

worth_even : {f : Format} {x : Float} {s : Bool} {u : ℕ} → Worth f x s u → u / 2 ^ (size u - prec f) % 2 ≡ 0
    → to_bits f x % 2 ≡ 0
unfolding to_bits
worth_even {f} {x} {s} {u} w h =
    let (m, e, p, v) = shape x s u (2 ^ low f) w.value in
    rw (p, v, mul-div_cancel u (down_pos e)) (even_pattern f s (size u - prec f) (u / 2 ^ (size u - prec f)) h)

-- the distance of v units from ±a / c, in natural numbers
distance_is : (f : Format) (x : Float) (z : ℤ) (c : ℕ)
    → distance f x z c ≡ gap (above (signed_units f x) * c + below z * 2 ^ low f)
    (above z * 2 ^ low f + below (signed_units f x) * c)
unfolding distance
distance_is f x z c =
    let p = parts_times (signed_units f x) c in
    let q = parts_times z (2 ^ low f) in
    abs_gap (signed_units f x *ℤ pos c) (z *ℤ pos (2 ^ low f)) ∙ rw (p.0, p.1, q.0, q.1)

-- on the same side of zero it is the difference of the sizes
same_side : (s : Bool) (v a c u : ℕ) → gap (above (signed s v) * c + below (signed s a) * u)
    (above (signed s a) * u + below (signed s v) * c) ≡ gap (v * c) (a * u)
same_side true v a c u = rw (
  (parts_signed true v).0,
  (parts_signed true v).1,
  (parts_signed true a).0,
  (parts_signed true
      a).1,
) (omega arith)
same_side false v a c u = omega arith

-- on the other side it is their sum
either_side : (s : Bool) (y : ℤ) (a c u : ℕ)
    → let d = gap (above y * c + below (signed s a) * u) (above (signed s a) * u + below y * c) in
    (y ≡ signed s (nat_abs y)) ⊎ (d ≡ nat_abs y * c + a * u)
either_side true (pos v) a c u = inr (rw ((parts_signed true a).0, (parts_signed true a).1) (omega arith))
either_side true (negsuc v) a c u = inl refl
either_side false (pos v) a c u = inl refl
either_side false (negsuc v) a c u = inr (omega arith)

zero_signed : (s : Bool) → signed s 0 ≡ pos 0
zero_signed true = refl
zero_signed false = refl

none : (y : ℤ) (c : ℕ) → 0 < c → nat_abs y * c ≡ 0 → y ≡ pos 0
none (pos zero) c C e = refl
none (pos (suc v)) c C e = absurd (omega (arith, mul-pos (zero-lt-suc v) C))
none (negsuc v) c C e = absurd (omega (arith, mul-pos (zero-lt-suc v) C))

module _ (f : Format) (s : Bool) (a c : ℕ) (C : 0 < c) (h : grid f a c < overflow f) where
  found : Worth f (round f s a c) s (grid f a c)
  found = round_worth f s a c h

  here : distance f (round f s a c) (signed s a) c ≡ gap (grid f a c * c) (a * 2 ^ low f)
  here = distance_is f (round f s a c) (signed s a) c
      ∙ rw (worth_units found) (same_side s (grid f a c) a c (2 ^ low f))

  against : (m j : ℕ) → m < 2 ^ prec f → Best (a * 2 ^ low f) c (places f a c) (kept (prec f) (a * 2 ^ low f) c)
      (m * 2 ^ j)
  against m j h = best (rounding f a c C) m j h (omega (arith, two f))

  against_zero : Best (a * 2 ^ low f) c (places f a c) (kept (prec f) (a * 2 ^ low f) c) 0
  against_zero = against 0 0 (pow_pos (prec f))

  -- no number y is nearer, and as near only if the digits that were kept are even
  record Judged (y : Float) : Type 0 where
    least : distance f (round f s a c) (signed s a) c ≤ distance f y (signed s a) c
    even : distance f (round f s a c) (signed s a) c ≡ distance f y (signed s a) c
        → ¬ (signed_units f (round f s a c) ≡ signed_units f y) → kept (prec f) (a * 2 ^ low f) c % 2 ≡ 0

  judged : (y : Float) → Number f y → Judged y
  judged y n = go (either_side s (signed_units f y) a c (2 ^ low f))
    where
      u : ℕ
      u = 2 ^ low f

      v : ℤ
      v = signed_units f y

      there : distance f y (signed s a) c
          ≡ gap (above v * c + below (signed s a) * u) (above (signed s a) * u + below v * c)
      there = distance_is f y (signed s a) c

      go : (v ≡ signed s (nat_abs v)) ⊎ (gap (above v * c + below (signed s a) * u)
          (above (signed s a) * u + below v * c) ≡ nat_abs v * c + a * u) → Judged y
      go (inl e) =
          let (m, d) = made f y n.fit n.ends in
          let b : Best (a * u) c (places f a c) (kept (prec f) (a * u) c) (nat_abs v) = rw (abs_units f y, d.is)
          (against m d.j d.short) in
          let d : distance f y (signed s a) c ≡ gap (nat_abs v * c) (a * u) =
          there ∙ ap (λ (t : ℤ). gap (above t * c + below (signed s a) * u) (above (signed s a) * u + below t * c)) e
          ∙ same_side s (nat_abs v) a c u in
          record {
            least = rw (here, d) b.least;
            even = λ i j. b.even (sym here ∙ i ∙ d)
                (λ (g : grid f a c ≡ nat_abs v). j (worth_units found ∙ ap (signed s) g ∙ sym e));
          }
      go (inr e) =
          let b = against_zero in
          let l = b.least in
          let d = there ∙ e in
          record {
            least = rw (here, d) (omega arith);
            even = λ i j.
                let g : gap (grid f a c * c) (a * u) ≡ nat_abs v * c + a * u = sym here ∙ i ∙ d in
                b.even (omega arith) (λ (z : grid f a c ≡ 0). j
                (worth_units found ∙ ap (signed s) z ∙ zero_signed s ∙ sym (none v c C (omega arith))));
          }

  -- a fraction rounded is the nearest number
  pub round_nearest : NearestTo f (signed s a) c (round f s a c)
  round_nearest = record {
    number = worth_number found;
    least = λ y n. (judged y n).least;
    even = λ y n i j. worth_even found (even_bits (prec f) (kept (prec f) (a * 2 ^ low f) c) (places f a c) (two f)
        (kept_le f a c) ((judged y n).even i j));
  }
