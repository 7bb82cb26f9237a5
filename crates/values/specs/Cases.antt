-- Which numbers a series may hold. Assumes nothing.
use Rattle.std.specs.Prelude.{◌≡◌, true, false, [], ◌∷◌, map, replicate, pos, negsuc, refl}
use Rattle.std.specs.Float.{nan, inf, fin}
use Rattle.std.specs.Float.Ieee.{lt, eq, le, whole, to_bits}
use Rattle.values.specs.Accepted.{accepted, tick}

-- a NaN, the infinities, -0.0, the whole number above the limit and the f64 above it; then 0.0, both limits and the
-- smallest subnormal
accepted_cases :
    (map accepted (nan ∷ inf true ∷ inf false ∷ fin true 0 (pos 0) ∷ fin false 1073741825 (pos 0)
    ∷ fin false 4503599627370497 (negsuc 21) ∷ [])
    ≡ replicate 6 false)
    × (map accepted (fin false 0 (pos 0) ∷ fin true 1 (pos 30) ∷ fin false 1 (pos 30) ∷ fin true 1 (negsuc 1073) ∷ [])
    ≡ replicate 4 true)
unfolding accepted le lt eq to_bits
accepted_cases = (refl, refl)

-- a half, -0.0 and 16,777,217 are no ticks; 0, 16,777,216 and -5 are
tick_cases : (map tick (fin false 1 (negsuc 0) ∷ fin true 0 (pos 0) ∷ fin false 16777217 (pos 0) ∷ nan ∷ [])
    ≡ replicate 4 false)
    × (map tick (fin false 0 (pos 0) ∷ fin false 1 (pos 24) ∷ fin true 5 (pos 0) ∷ []) ≡ replicate 3 true)
unfolding tick le lt eq whole
tick_cases = (refl, refl)
