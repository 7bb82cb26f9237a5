-- What is printed in a field, and the text that fields make one after another. Assumes nothing.
use Rattle.std.specs.Prelude.{cond, List, [], ◌∷◌, ◌++◌, ℕ, zero, suc, ◌+◌, ◌/◌, ◌%◌, eqb}

-- the last digit of n, blank where nothing of n is left
abbrev pub column : ℕ → ℕ
column n = cond (eqb n 0) 32 (48 + n % 10)

-- the last w columns of n
abbrev pub leading : ℕ → ℕ → List ℕ
leading zero n = []
leading (suc w) n = leading w (n / 10) ++ (column n ∷ [])

-- n in w columns, right-justified; of a number that is too wide its last w digits
unfoldable pub print_field : ℕ → ℕ → List ℕ
print_field zero n = []
print_field (suc w) n = leading w (n / 10) ++ ((48 + n % 10) ∷ [])
