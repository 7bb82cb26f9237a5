-- A cell by arithmetic on the two results, each 1 or 0. Assumes nothing.
use mathlib.Core.Path.{◌≡◌, refl, sym}
use mathlib.Core.Bool.{Bool, true, false, true≢false}
use Prim.Native.Nat.{ℕ, ◌≤◌}
use native.Mathlib.Omega.{arith}
use lib.IntN.{ℤ, pos, negsuc, nat_abs, ◌-ℤ◌, ◌*ℤ◌}
use mir.Syntax.{w32}
use mir.Val.{SFits, of_z, to_z, bool_byte}
use mir.ValLaws.{to_z-of_z}
use Rattle.rounding_laws.proofs.Integers.{abs_minus}
use Rattle.rules_double_ranges.specs.Ranges.{picked}
use Rattle.rules_double_ranges.specs.inner.Stages.{Implies}

-- 1 or 0
abbrev bit : Bool → ℤ
bit b = to_z w32 (bool_byte b)

-- as an i32 holds it
abbrev held : ℤ → ℤ
held z = to_z w32 (of_z w32 z)

-- an i32 holds a small number
in_i32 : (z : ℤ) → nat_abs z ≤ 99 → SFits w32 z
in_i32 (pos n) h = record { sfits = omega arith }
in_i32 (negsuc n) h = record { sfits = omega arith }

kept : (z : ℤ) → nat_abs z ≤ 99 → held z ≡ z
kept z h = to_z-of_z w32 z (in_i32 z h)

bit_small : (b : Bool) → nat_abs (bit b) ≤ 1
bit_small true = omega arith
bit_small false = omega arith

-- and so each step of such arithmetic
module _ (k : ℕ) (h : k ≤ 9) where
  product_small : (b : Bool) → nat_abs (pos k *ℤ bit b) ≤ 9
  product_small true = omega arith
  product_small false = omega arith

  pub product_fits : (b : Bool) → SFits w32 (pos k *ℤ bit b)
  product_fits b = in_i32 (pos k *ℤ bit b) (omega (arith, product_small b))

  module _ (worst best : Bool) where
    less_small : nat_abs (held (pos k *ℤ bit best) -ℤ bit worst) ≤ 10
    less_small =
        let p = product_small best in
        rw (kept (pos k *ℤ bit best) (omega arith))
        (omega (arith, p, bit_small worst, abs_minus (pos k *ℤ bit best) (bit worst)))

    pub less_fits : SFits w32 (held (pos k *ℤ bit best) -ℤ bit worst)
    less_fits = in_i32 (held (pos k *ℤ bit best) -ℤ bit worst) (omega (arith, less_small))

    pub cell_fits : SFits w32 (held (held (pos k *ℤ bit best) -ℤ bit worst) -ℤ pos 1)
    cell_fits =
        let z = held (pos k *ℤ bit best) -ℤ bit worst in
        let p = less_small in
        rw (kept z (omega arith)) (in_i32 (z -ℤ pos 1) (omega (arith, p, abs_minus z (pos 1))))

-- For the three pairs that can occur 3 · best - worst - 1 is the cell: -1 for 0 and 0, 2 for 0 and 1, 1 for 1 and 1.
pub cell_picked : (worst best : Bool) → Implies worst best
    → held (held (held (pos 3 *ℤ bit best) -ℤ bit worst) -ℤ pos 1) ≡ picked worst best
cell_picked true true h = refl
cell_picked true false h = absurd (true≢false (sym (h.so refl)))
cell_picked false true h = refl
cell_picked false false h = refl
