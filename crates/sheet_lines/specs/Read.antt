-- What the bytes of a field say. A field is a right-justified decimal number: blanks, then one or more digits, to its
-- last column. Zeros in front are digits. A price may have one minus, directly before its first digit. Assumes nothing.
use Rattle.std.specs.Prelude.{
  Bool,
  cond,
  ◌&&◌,
  List,
  [],
  ◌∷◌,
  ℕ,
  ◌+◌,
  ◌-◌,
  ◌*◌,
  leb,
  eqb,
  pos,
  neg_ℤ,
  Option,
  Some,
  None,
  Float,
}
use Rattle.std.specs.Float.{binary64}
use Rattle.std.specs.Float.Ieee.{of_int}

-- without the blanks in front
abbrev pub unpadded : List ℕ → List ℕ
unpadded [] = []
unpadded (b ∷ rest) = cond (eqb b 32) (unpadded rest) (b ∷ rest)

-- from '0' to '9'
abbrev pub is_digit : ℕ → Bool
is_digit b = leb 48 b && leb b 57

-- the number whose first digits say v and whose other digits follow
abbrev pub number_after : ℕ → List ℕ → Option ℕ
number_after v [] = Some v
number_after v (b ∷ rest) = cond (is_digit b) (number_after (10 * v + (b - 48)) rest) None

-- the number of one or more digits
unfoldable pub number : List ℕ → Option ℕ
number [] = None
number (b ∷ rest) = number_after 0 (b ∷ rest)

-- the number that a field's columns say
unfoldable pub read_field : List ℕ → Option ℕ
read_field columns = number (unpadded columns)

-- so many ticks, and so many below zero; -0 is 0
abbrev pub positive : Option ℕ → Option Float
positive (Some v) = Some (of_int binary64 (pos v))
positive None = None

abbrev pub negative : Option ℕ → Option Float
negative (Some v) = Some (of_int binary64 (neg_ℤ (pos v)))
negative None = None

-- a number of ticks with or without a minus
unfoldable pub signed : List ℕ → Option Float
signed [] = None
signed (b ∷ rest) = cond (eqb b 45) (negative (number rest)) (positive (number (b ∷ rest)))

-- the price that its columns say
unfoldable pub read_price : List ℕ → Option Float
read_price columns = signed (unpadded columns)
