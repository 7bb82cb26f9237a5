-- Roots of f64s, worked out from the definition. Assumes nothing.
use Rattle.std.specs.Prelude.{◌≡◌, refl, List, [], ◌∷◌, map, ℕ}
use Rattle.std.specs.Float.{binary64}
use Rattle.std.specs.Float.Ieee.{of_bits, to_bits}
use Rattle.rounding_root.specs.Root.{sqrt_of}

-- an f64 and its root, each by its bits
record Case : Type 0 where
  x : ℕ
  r : ℕ

abbrev table : List Case
table =
    (record { x = 0x4000_0000_0000_0000; r = 0x3ff6_a09e_667f_3bcd })  -- 2
    ∷ (record { x = 0x4008_0000_0000_0000; r = 0x3ffb_b67a_e858_4caa })  -- 3
    ∷ (record { x = 0x3fb9_9999_9999_999a; r = 0x3fd4_3d13_6248_490f })  -- 0.1
    ∷ (record { x = 0x3fef_ffff_ffff_ffff; r = 0x3fef_ffff_ffff_ffff })  -- the float before 1
    ∷ (record { x = 0x3ff0_0000_0000_0000; r = 0x3ff0_0000_0000_0000 })  -- 1
    ∷ (record { x = 0x3ff0_0000_0000_0001; r = 0x3ff0_0000_0000_0000 })  -- the float after 1
    ∷ (record { x = 0x3ff0_0000_0000_0002; r = 0x3ff0_0000_0000_0001 })  -- the next one
    ∷ (record { x = 0x400f_ffff_ffff_ffff; r = 0x3fff_ffff_ffff_ffff })  -- the float before 4
    ∷ (record { x = 0x4010_0000_0000_0000; r = 0x4000_0000_0000_0000 })  -- 4
    ∷ (record { x = 0x4010_0000_0000_0001; r = 0x4000_0000_0000_0000 })  -- the float after 4
    ∷ (record { x = 0x0000_0000_0000_0001; r = 0x1e60_0000_0000_0000 })  -- the smallest
    ∷ (record { x = 0x000f_ffff_ffff_ffff; r = 0x1fff_ffff_ffff_ffff })  -- the largest subnormal
    ∷ (record { x = 0x0010_0000_0000_0000; r = 0x2000_0000_0000_0000 })  -- the smallest normal
    ∷ (record { x = 0x7fef_ffff_ffff_ffff; r = 0x5fef_ffff_ffff_ffff })  -- the largest
    ∷ (record { x = 0x0000_0000_0000_0000; r = 0x0000_0000_0000_0000 })  -- 0
    ∷ (record { x = 0x8000_0000_0000_0000; r = 0x8000_0000_0000_0000 })  -- -0
    ∷ (record { x = 0x7ff0_0000_0000_0000; r = 0x7ff0_0000_0000_0000 })  -- infinity
    ∷ (record { x = 0xfff0_0000_0000_0000; r = 0x7ff8_0000_0000_0000 })  -- infinity below zero
    ∷ (record { x = 0xbff0_0000_0000_0000; r = 0x7ff8_0000_0000_0000 })  -- -1
    ∷ (record { x = 0x8000_0000_0000_0001; r = 0x7ff8_0000_0000_0000 })  -- the largest below zero
    ∷ (record { x = 0x7ff8_0000_0000_0000; r = 0x7ff8_0000_0000_0000 })  -- NaN
    ∷ []

abbrev found : Case → Case
found c = record { x = c.x; r = to_bits binary64 (sqrt_of binary64 (of_bits binary64 c.x)) }

all_right : map found table ≡ table
unfolding sqrt_of to_bits of_bits
all_right = refl
