-- `sqrt_of` is the correctly rounded root: the true root is nearer to it than to any other float of the format
-- (`nearest_root_lem`, at the end). So there is never a tie. Assumes nothing.
use mathlib.Core.Path.{◌≡◌, refl, sym, ap, ◌∙◌, subst}
use mathlib.Core.Bool.{false}
use mathlib.Core.Logic.{◌⊎◌, inl, inr}
use Prim.Native.Nat.{ℕ, zero, suc, ◌+◌, ◌-◌, ◌*◌, ◌^◌, ◌≤◌, ◌<◌}
use native.Mathlib.Nat.{
  le_trans,
  le_of_eq,
  le_of_lt,
  lt_of_lt_of_le,
  lt_of_le_of_lt,
  lt_of_not-le,
  not-le_of_lt,
  zero-lt-suc,
  suc-mul,
  add-mul,
  mul-one,
  mul_assoc,
  mul-mul-mul_comm,
  mul-pos,
  mul-le-mul_right,
  lt_of_mul-lt-mul_right,
}
use native.Mathlib.Numerals.{add-one}
use native.Mathlib.Omega.{arith}
use lib.IntN.{ℤ}
use lib.Dec.{T, lit≤, lit<}
use lib.Pow.{pow-add, pow_pos, pow_mono, pow-lt, shl_lt}
use lib.Ieee.{Float, fin, Format, binary32, binary64, prec, emax, low, units, fits}
use lib.Ieee.Exact.{units_val}
use lib.Ieee.Fits.{two}
use lib.Ieee.Positive.{positive_of_value}
use lib.Ieee.Scale.{overflow}
use Rattle.rounding_root.specs.Root.{sqrt_of}
use Rattle.rounding_root.proofs.Neighbours.{
  dropped,
  kept,
  sum_of,
  nearest_root_is,
  Between,
  between,
  Chosen,
  pick,
  no_tie_at,
}
use Rattle.rounding_root.proofs.Squares.{square_le, square_lt, square_lt_back}
use Rattle.rounding.specs.Nearest.{in_units}
use Rattle.rounding_laws.proofs.Multiples.{value_units, units_fits, made_some, made}
use Rattle.rounding_root.specs.Meaning.{Nearer, NearestRoot}

-- ---- no float of the format lies between the two neighbours

none_between : (f : Format) (q k m j : ℕ) → (k ≡ 0) ⊎ (2 ^ (prec f - 1) ≤ q) → m < 2 ^ prec f → q * 2 ^ k < m * 2 ^ j
    → (q + 1) * 2 ^ k ≤ m * 2 ^ j
none_between f q k m j (inl z) short h =
    let one : 2 ^ k ≡ 1 = ap (λ (x : ℕ). 2 ^ x) z in
    let a : q * 2 ^ k ≡ q = ap (λ (x : ℕ). q * x) one ∙ mul-one q in
    let b : (q + 1) * 2 ^ k ≡ q + 1 = ap (λ (x : ℕ). (q + 1) * x) one ∙ mul-one (q + 1) in
    omega arith
none_between f q k m j (inr full) short h =
    let d = two f in
    let k_le : k < suc j = lt_of_not-le (λ (g : j < k).
    not-le_of_lt h
    (le_trans (le_of_lt (shl_lt (prec f) j short))
    (le_trans (pow_mono (omega arith)) (le_trans (le_of_eq (pow-add 2 (prec f - 1) k))
    (mul-le-mul_right (2 ^ k) full))))) in
    let back : j - k + k ≡ j = omega arith in
    let c = m * 2 ^ (j - k) in
    let is : c * 2 ^ k ≡ m * 2 ^ j = mul_assoc m (2 ^ (j - k)) (2 ^ k)
    ∙ ap (λ (x : ℕ). m * x) (sym (pow-add 2 (j - k) k) ∙ ap (λ (x : ℕ). 2 ^ x) back) in
    let l : q < c = lt_of_mul-lt-mul_right (2 ^ k) (subst (λ (x : ℕ). q * 2 ^ k < x) (sym is) h) in
    subst (λ (x : ℕ). (q + 1) * 2 ^ k ≤ x) is (mul-le-mul_right (2 ^ k) (omega arith))

-- ---- there is no tie: 4 * n has more factors 2 than the square of the neighbours' sum

no_tie : (f : Format) (n m t q k : ℕ) → n ≡ m * 2 ^ t → m < 2 ^ prec f → Between f n q k → 4 * n
    ≡ sum_of q k * sum_of q k → ⊥
no_tie f n m t q k e short b tie =
    let k_le : k + k < suc t = lt_of_not-le (few b.full) in
    let back : t - (k + k) + (k + k) ≡ t = omega arith in
    let c = 2 ^ (t - (k + k)) in
    let w = 2 ^ k * 2 ^ k in
    let power : 2 ^ t ≡ c * w = ap (λ (x : ℕ). 2 ^ x) (sym back) ∙ pow-add 2 (t - (k + k)) (k + k)
    ∙ ap (λ (x : ℕ). c * x) (pow-add 2 k k) in
    no_tie_at n (m * c) q k (e ∙ ap (λ (x : ℕ). m * x) power ∙ sym (mul_assoc m c w)) tie
  where
    few : (k ≡ 0) ⊎ (2 ^ (prec f - 1) ≤ q) → t < k + k → ⊥
    few (inl z) g = omega arith
    few (inr full) g =
        let d = two f in
        let a = prec f - 1 + k in
        let top : 2 ^ a ≤ q * 2 ^ k = le_trans (le_of_eq (pow-add 2 (prec f - 1) k)) (mul-le-mul_right (2 ^ k) full) in
        let much : 2 ^ (prec f + t) ≤ n = le_trans (pow_mono (omega arith))
        (le_trans (le_of_eq (pow-add 2 a a)) (le_trans (square_le top) b.low)) in
        not-le_of_lt (shl_lt (prec f) t short) (subst (λ (x : ℕ). 2 ^ (prec f + t) ≤ x) e much)

-- ---- the nearer neighbour

sums : (q k : ℕ) → sum_of q k ≡ q * 2 ^ k + (q + 1) * 2 ^ k
sums q k = let two_parts : 2 * q + 1 ≡ q + (q + 1) = omega arith in ap (λ (x : ℕ). x * 2 ^ k) two_parts
    ∙ add-mul q (q + 1) (2 ^ k)

double : (r : ℕ) → 2 * r * (2 * r) ≡ 4 * (r * r)
double r = mul-mul-mul_comm 2 r 2 r

nearer_at : (f : Format) (n q k z m j : ℕ) → Between f n q k
    → Chosen q z (4 * n) (sum_of q k * sum_of q k) → m < 2 ^ prec f → Nearer n (z * 2 ^ k) (m * 2 ^ j)
nearer_at f n q k z m j b (inl (e, h)) short = subst (λ (x : ℕ). Nearer n (x * 2 ^ k) (m * 2 ^ j)) (sym e) (record {
  below_middle = λ l.
      let next = none_between f q k m j b.full short l in
      let s = sums q k in
      lt_of_lt_of_le h (square_le (omega arith));
  above_middle = λ l.
      let r = q * 2 ^ k in
      let less : (r + m * 2 ^ j) * (r + m * 2 ^ j) < 2 * r * (2 * r) = square_lt (omega arith) in
      let d = double r in
      let low = b.low in
      omega arith;
})
nearer_at f n q k z m j b (inr (e, h)) short = subst (λ (x : ℕ). Nearer n (x * 2 ^ k) (m * 2 ^ j)) (sym e) (record {
  below_middle = λ l.
      let r = (q + 1) * 2 ^ k in
      let more : 2 * r * (2 * r) < (r + m * 2 ^ j) * (r + m * 2 ^ j) = square_lt (omega arith) in
      let d = double r in
      let high = b.high in
      omega arith;
  above_middle = λ l.
      let y_le : m * 2 ^ j < suc (q * 2 ^ k) = lt_of_not-le
      (λ (g : q * 2 ^ k < m * 2 ^ j). not-le_of_lt l (none_between f q k m j b.full short g)) in
      let s = sums q k in
      lt_of_le_of_lt (square_le (omega arith)) h;
})

-- ---- the result is finite and above zero

reach : (f : Format) → (prec f < low f + suc (emax f)) × (low f + 2 ≤ low f + suc (emax f))
reach binary32 = (lit< tt, lit≤ tt)
reach binary64 = (lit< tt, lit≤ tt)

under : (f : Format) (n v q k : ℕ) → n ≡ v * 2 ^ low f → v < overflow f → Between f n q k → (q + 1) * 2 ^ k < overflow f
under f n v q k e h b = go b.full
  where
    go : (k ≡ 0) ⊎ (2 ^ (prec f - 1) ≤ q) → (q + 1) * 2 ^ k < overflow f
    go (inl z) =
        let one : (q + 1) * 2 ^ k ≡ q + 1 = ap (λ (x : ℕ). (q + 1) * 2 ^ x) z ∙ mul-one (q + 1) in
        let short = b.short in
        let room : 2 ^ prec f < overflow f = pow-lt (reach f).0 in
        omega arith
    go (inr full) =
        let l = low f + suc (emax f) in
        let r = q * 2 ^ k in
        let next : (q + 1) * 2 ^ k ≡ r + 2 ^ k = rw add-one (suc-mul q (2 ^ k)) in
        let one : 1 * 2 ^ k ≤ r = mul-le-mul_right (2 ^ k) (le_trans (pow_pos (prec f - 1)) full) in
        let d = double r in
        let few : n < 2 ^ (l + low f) = subst (λ (x : ℕ). x < 2 ^ (l + low f)) (sym e) (shl_lt l (low f) h) in
        let four : 2 ^ (l + low f + 2) ≡ 2 ^ (l + low f) * 4 = pow-add 2 (l + low f) 2 in
        let fit = (reach f).1 in
        let much : 2 ^ (l + low f + 2) ≤ 2 ^ l * 2 ^ l = le_trans (pow_mono (omega arith)) (le_of_eq (pow-add 2 l l)) in
        let low_is = b.low in
        let twice : (q + 1) * 2 ^ k * ((q + 1) * 2 ^ k) ≤ 2 * r * (2 * r) = square_le (omega arith) in
        square_lt_back (omega arith)

some : (f : Format) (n q k : ℕ) → 0 < n → Between f n q k → 0 < q
some f n zero k h b = go b.full b.high
  where
    go : (k ≡ 0) ⊎ (2 ^ (prec f - 1) ≤ 0) → n < (0 + 1) * 2 ^ k * ((0 + 1) * 2 ^ k) → 0 < 0
    go (inl z) g = let l : n < 1 = subst (λ (x : ℕ). n < 1 * 2 ^ x * (1 * 2 ^ x)) z g in omega arith
    go (inr full) g = lt_of_lt_of_le (pow_pos (prec f - 1)) full
some f n (suc q) k h b = zero-lt-suc q

-- ---- the theorem

one_of : (q z a b : ℕ) → Chosen q z a b → (q ≤ z) × (z ≤ q + 1)
one_of q z a b (inl (e, h)) = omega arith
one_of q z a b (inr (e, h)) = omega arith

chosen_nearest : (f : Format) (x : Float) (q k z : ℕ) → let n = in_units f x * 2 ^ low f in
    0 < n → in_units f x < overflow f → Between f n q k → Chosen q z (4 * n) (sum_of q k * sum_of q k)
    → NearestRoot f x (units f false z k)
chosen_nearest f x q k z pos_n small b c =
    let n = in_units f x * 2 ^ low f in
    let short = b.short in
    let r = one_of q z (4 * n) (sum_of q k * sum_of q k) c in
    let fine : z * 2 ^ k < overflow f = lt_of_le_of_lt (mul-le-mul_right (2 ^ k) r.1)
    (under f n (in_units f x) q k refl small b) in
    let value = units_val f false z k fine in
    let z_pos : 0 < z = lt_of_lt_of_le (some f n q k pos_n b) r.0 in
    record {
      held = units_fits f false z k (omega arith) fine;
      above_zero = positive_of_value (units f false z k) (z * 2 ^ k) (2 ^ low f) value (mul-pos z_pos (pow_pos k));
      nearer = λ y y_fits y_finite.
          let made_y = made f y y_fits y_finite in
          rw (value_units f (units f false z k) false (z * 2 ^ k) value, made_y.1.is)
          (nearer_at f n q k z made_y.0 made_y.1.j b c made_y.1.short);
    }

-- the root of every finite float above zero is the nearest one
pub nearest_root_lem : (f : Format) (m : ℕ) (e : ℤ) → let x = fin false (suc m) e in T (fits f x)
    → NearestRoot f x (sqrt_of f x)
unfolding sqrt_of
nearest_root_lem f m e h =
    let x = fin false (suc m) e in
    let n = in_units f x * 2 ^ low f in
    let x_made = made_some f false m e h in
    let is : n ≡ suc m * 2 ^ (x_made.j + low f) = rw (x_made.is, pow-add)
    (mul_assoc (suc m) (2 ^ x_made.j) (2 ^ low f)) in
    let b = between f n in
    rw (nearest_root_is f n)
    (chosen_nearest f x (kept f n) (dropped f n) _
    (subst (λ (y : ℕ). 0 < y) (sym is) (mul-pos (zero-lt-suc m) (pow_pos (x_made.j + low f))))
    (subst (λ (y : ℕ). y < overflow f) (sym x_made.is) x_made.under)
    b
    (pick _ _ _ (no_tie f n (suc m) (x_made.j + low f) (kept f n) (dropped f n) is x_made.short b)))
