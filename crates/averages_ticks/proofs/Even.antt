-- A half to the even number, from a half up. Assumes nothing.
use mathlib.Core.Path.{◌≡◌, ap, ◌∙◌}
use mathlib.Core.Bool.{Bool, true, false, not}
use Prim.Native.Nat.{ℕ, ◌+◌, ◌-◌, ◌*◌, ◌/◌, ◌%◌, ◌<◌, ◌≤◌, compare}
use native.Mathlib.Nat.{mod-lt, div-add-mod', div-le_self, sub-add_cancel, lt_of_mul-lt-mul_right}
use native.Mathlib.Omega.{arith}
use lib.Dec.{T, ltb, ltb→lt, nltb→le, lit≤}
use lib.Ieee.Fits.{nearest-le}
use lib.Ieee.Nearest.{closest, closest_same}
use Rattle.rounding_laws.proofs.Integers.{Near, gap}
use Rattle.rounding_laws.proofs.Error.{closest_near}

pub closest_few : (a n : ℕ) → closest a n ≤ a + 1
closest_few a n =
    let few = nearest-le (a / n) (compare (a % n * 2) n) in
    let cut = div-le_self a n in
    omega arith

-- k and a half
half_of : (k : ℕ) → closest (2 * k + 1) 2 ≡ k + k % 2
half_of k =
    let whole : (2 * k + 1) / 2 ≡ k = omega arith in
    let rest : (2 * k + 1) % 2 ≡ 1 = omega arith in
    rw (whole, rest)

module _ (a n : ℕ) where
  -- a / n, a half up
  abbrev pub up : ℕ
  up = (2 * a + n) / (2 * n)

  module _ (N : 0 < n) where
    -- where a / n is k and a half
    halfway : (k : ℕ) → a * 2 ≡ (2 * k + 1) * n → closest a n ≡ k + k % 2
    halfway k e = closest_same a n (2 * k + 1) 2 N (lit≤ tt) e ∙ half_of k

    -- so what is a half away is even
    pub tie_even : gap (closest a n * n) a * 2 ≡ n → closest a n % 2 ≡ 0
    tie_even e = go (ltb (q * n) a) (ltb→lt (q * n) a) (nltb→le (q * n) a)
      where
        q : ℕ
        q = closest a n

        go : (t : Bool) → (T t → q * n < a) → (T (not t) → a ≤ q * n) → q % 2 ≡ 0
        go true h k = let l : q * n < a = h tt in let is = halfway q (omega arith) in omega arith
        go false h k =
            let l : a ≤ q * n = k tt in
            let some : 0 < q = lt_of_mul-lt-mul_right n (omega arith) in
            let next = ap (λ (j : ℕ). j * n) (sub-add_cancel some) in
            let is = halfway (q - 1) (omega arith) in
            omega arith

    pub up_parts : (up * (2 * n) ≤ 2 * a + n) × (2 * a + n < (up + 1) * (2 * n))
    up_parts =
        let p = div-add-mod' (2 * a + n) (2 * n) in
        let r : (2 * a + n) % (2 * n) < 2 * n = mod-lt (2 * a + n) (omega arith) in
        omega arith

    pub up_near : Near (up * n * 2) (a * 2) n
    up_near = let p = up_parts in omega arith

    -- a tie goes to the even one
    pub tied : up * (2 * n) ≡ 2 * a + n → closest a n ≡ up - up % 2
    tied e =
        let some : 0 < up = lt_of_mul-lt-mul_right (2 * n) (omega arith) in
        let next = ap (λ (j : ℕ). j * n) (sub-add_cancel some) in
        let is = halfway (up - 1) (omega arith) in
        omega arith

    -- and what is no tie to the nearer one
    pub untied : ¬ (up * (2 * n) ≡ 2 * a + n) → closest a n ≡ up
    untied d =
        let q = closest a n in
        let p = up_parts in
        let near = closest_near a n N in
        let most : q < up + 1 = lt_of_mul-lt-mul_right (2 * n) (omega arith) in
        let least : up < q + 1 = lt_of_mul-lt-mul_right (2 * n) (omega arith) in
        omega arith
