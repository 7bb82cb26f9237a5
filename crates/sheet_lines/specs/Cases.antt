-- Small cases, by computation. Assumes nothing.
use Rattle.std.specs.Prelude.{◌≡◌, refl, true, false, [], ◌∷◌, map, pos, replicate, Some, None}
use Rattle.std.specs.Float.{fin}
use Rattle.std.specs.Float.Ieee.{of_int}
use Rattle.sheet_lines.specs.Read.{number, read_field, signed, read_price}
use Rattle.sheet_lines.specs.Print.{print_field}
use Rattle.sheet_lines.specs.inner.Text.{bytes}

fields :
    map (λ text. read_field (bytes text)) ("   7" ∷ "0042" ∷ "9999" ∷ "   0" ∷ "0000" ∷ [])
    ≡ Some 7 ∷ Some 42 ∷ Some 9999 ∷ Some 0 ∷ Some 0 ∷ []
unfolding read_field number
fields = refl

-- no column, blank ones, a number to the left or broken, a sign, a carriage return, a line feed, a tab
broken_fields :
    map (λ text. read_field (bytes text))
    ("" ∷ "    " ∷ "7   " ∷ " 4 2" ∷ "  -7" ∷ "  +7" ∷ "  7\r" ∷ "  7\n" ∷ "\t  7" ∷ " 7.0" ∷ [])
    ≡ replicate 10 None
unfolding read_field number
broken_fields = refl

-- 12 is 3 times 2 ^ 2; -0 is 0
prices :
    map (λ text. read_price (bytes text)) ("  12" ∷ " -12" ∷ "-012" ∷ "  -0" ∷ " -00" ∷ "0000" ∷ [])
    ≡ Some (fin false 3 (pos 2)) ∷ Some (fin true 3 (pos 2)) ∷ Some (fin true 3 (pos 2))
    ∷ replicate 3 (Some (fin false 0 (pos 0)))
unfolding read_price signed number of_int
prices = refl

broken_prices :
    map (λ text. read_price (bytes text)) ("- 1" ∷ "  -" ∷ "--1" ∷ "1-1" ∷ "1- " ∷ "   " ∷ "  +" ∷ " +1" ∷ [])
    ≡ replicate 8 None
unfolding read_price signed number
broken_prices = refl

printed : map (print_field 4) (7 ∷ 0 ∷ 9999 ∷ 120 ∷ []) ≡ map bytes ("   7" ∷ "   0" ∷ "9999" ∷ " 120" ∷ [])
unfolding print_field
printed = refl
