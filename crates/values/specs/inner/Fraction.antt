-- Why a fraction shows beside 2 ^ 52: from there to 2 ^ 53 every number is whole, so what 2 ^ 52 was added to and
-- taken from comes back only if it is whole. Assumes nothing.
use Rattle.std.specs.Prelude.{Bool, false, pos, Float}
use Rattle.std.specs.Float.{fin, binary64}
use Rattle.std.specs.Float.Ieee.{add, sub, eq}

-- ---- 2 ^ 52 added and taken away

abbrev pub far : Float
far = fin false 1 (pos 52)

-- x with 2 ^ 52 added and taken away is x
unfoldable pub comes_back : Float → Bool
comes_back x = eq (sub binary64 (add binary64 x far) far) x
