-- Division by a product: a number times 2^38 / (2 * n), rounded up, over 2^38, is its whole part by 2 * n, or one too
-- many. Assumes nothing.
use mathlib.Core.Path.{◌≡◌}
use Prim.Native.Nat.{ℕ, ◌+◌, ◌-◌, ◌*◌, ◌/◌, ◌%◌, ◌^◌, ◌<◌, ◌≤◌}
use native.Mathlib.Nat.{mod-lt, div-add-mod', mul-le-mul_left, mul-le-mul_right, lt_of_mul-lt-mul_right}
use native.Mathlib.Omega.{arith}
use Rattle.averages_ticks.specs.inner.Share.{Shared}

-- if a / d is below q + 1, and m not much more than k / d, then a * m / k is below q + 2
below_two : (a d m k q : ℕ) → a < (q + 1) * d → m * d ≤ k + d → a < k → a * m < (q + 2) * k
below_two a d m k q b s l =
    let p = mul-le-mul_left a s in
    let r = mul-le-mul_right d l in
    let t = mul-le-mul_right k b in
    lt_of_mul-lt-mul_right d (omega arith)

module _ {size n share : ℕ} (h : Shared size n share) where
  abbrev whole : ℕ
  whole = (2 * size + n) / (2 * n)

  abbrev guess : ℕ
  guess = (2 * size + n) * share / 274877906944

  pub sum_near : size ≤ 68719476736
  sum_near =
      let b = h.window.narrow in
      let c = h.small in
      omega arith

  rest_below : (a : ℕ) → a % (2 * n) < 2 * n
  rest_below a = mod-lt a (let p = h.window.some in omega arith)

  -- 2 * n shares are 2^38 and a little more
  shares : (274877906944 ≤ share * (2 * n)) × (share * (2 * n) ≤ 274877906944 + 2 * n)
  shares =
      let p = div-add-mod' 274877906944 (2 * n) in
      let r = rest_below 274877906944 in
      rw h.is (omega arith)

  -- what a whole part is
  parts : (whole * (2 * n) ≤ 2 * size + n) × (2 * size + n < (whole + 1) * (2 * n))
  parts =
      let p = div-add-mod' (2 * size + n) (2 * n) in
      let r = rest_below (2 * size + n) in
      omega arith

  not_less : whole ≤ guess
  not_less =
      let p = mul-le-mul_right share parts.0 in
      let q = mul-le-mul_left whole shares.0 in
      omega arith

  at_most_one_more : guess ≤ whole + 1
  at_most_one_more =
      let s = sum_near in
      let b = h.window.narrow in
      let l = below_two (2 * size + n) (2 * n) share 274877906944 whole parts.1 shares.1 (omega arith) in
      omega arith

  -- multiplied back, it says which of both it is
  pub one_too_many : 2 * size + n < guess * (2 * n) → (0 < guess) × (guess - 1 ≡ whole)
  one_too_many l =
      let least : whole < guess = lt_of_mul-lt-mul_right (2 * n) (let p = parts.0 in omega arith) in
      let most = at_most_one_more in
      omega arith

  pub whole_already : guess * (2 * n) ≤ 2 * size + n → guess ≡ whole
  whole_already l =
      let least = not_less in
      let most : guess < whole + 1 = lt_of_mul-lt-mul_right (2 * n) (let p = parts.1 in omega arith) in
      omega arith

  -- a usize holds both products
  pub product_fits : (2 * size + n) * share < 2 ^ 64
  product_fits =
      let s = shares in
      let b = h.window.narrow in
      let c = h.small in
      let l : (2 * size + n) * 2 ≤ 2 * n * 33554433 = omega arith in
      let p = mul-le-mul_right share l in
      omega arith

  pub back_fits : guess * (2 * n) < 2 ^ 64
  back_fits =
      let s = sum_near in
      let b = h.window.narrow in
      let p = mul-le-mul_right (2 * n) at_most_one_more in
      omega (arith, parts.0)
