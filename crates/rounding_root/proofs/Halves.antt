-- The product of a number of 53 digits with itself, by its halves of 26 digits. Assumes nothing.
use mathlib.Core.Path.{◌≡◌, sym, ap, ◌∙◌}
use Prim.Native.Nat.{ℕ, ◌+◌, ◌*◌, ◌/◌, ◌%◌, ◌^◌}
use native.Mathlib.Nat.{mul_assoc, mul_comm, mul_left_comm, mul-add, add-mul, div-add-mod', div-div-eq-div-mul, mul-add-div_right}
use native.Mathlib.Omega.{arith}
use lib.Pow.{pow_pos}

parts : (a b w e : ℕ) → (a * w + b) * (a * w + b) + e ≡ (a * a * w + 2 * a * b) * w + (b * b + e)
parts a b w e =
    let left : (a * w + b) * (a * w + b) ≡ a * w * (a * w) + b * (a * w) + (a * w * b + b * b) =
    mul-add (a * w + b) (a * w) b ∙ ap (λ (x : ℕ). x + (a * w + b) * b) (add-mul (a * w) b (a * w))
    ∙ ap (λ (x : ℕ). a * w * (a * w) + b * (a * w) + x) (add-mul (a * w) b b) in
    let right : (a * a * w + 2 * a * b) * w ≡ a * a * w * w + 2 * a * b * w = add-mul (a * a * w) (2 * a * b) w in
    let first : a * w * (a * w) ≡ a * a * w * w = simp (mul_assoc, mul_left_comm) in
    let cross : b * (a * w) ≡ a * w * b = mul_comm b (a * w) in
    let twice : 2 * a * b * w ≡ 2 * (a * w * b) = simp (mul_assoc, mul_comm) in
    omega arith

pub by_halves : (h e : ℕ) → let a = h / 2 ^ 26 in let b = h % 2 ^ 26 in a * a + (2 * a * b + (b * b + e) / 2 ^ 26) / 2
    ^ 26 ≡ (h * h + e) / 2 ^ 52
by_halves h e =
    let w = 2 ^ 26 in
    let a = h / w in
    let b = h % w in
    let whole : h * h + e ≡ (a * a * w + 2 * a * b) * w + (b * b + e) = ap (λ (x : ℕ). x * x + e)
    (sym (div-add-mod' h w)) ∙ parts a b w e in
    let once : (h * h + e) / w ≡ a * a * w + (2 * a * b + (b * b + e) / w) =
    ap (λ (x : ℕ). x / w) whole ∙ mul-add-div_right (pow_pos 26) (a * a * w + 2 * a * b) (b * b + e) ∙ (omega arith) in
    sym (sym (div-div-eq-div-mul (h * h + e) w w) ∙ ap (λ (x : ℕ). x / w) once
    ∙ mul-add-div_right (pow_pos 26) (a * a) (2 * a * b + (b * b + e) / w))
