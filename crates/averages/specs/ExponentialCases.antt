-- The exponential averages at small series, and answers at their edges, computed from the definitions. Assumes nothing.
use Rattle.std.specs.Prelude.{true, false, List, [], ◌∷◌, map, ◌≡◌, refl, ℤ, pos, negsuc, Float, Ok, Err}
use Rattle.std.specs.Float.{nan, inf, fin}
use Rattle.std.specs.Float.Ieee.{round, add, sub, mul, div, of_int, lt, eq, le, to_bits}
use Rattle.calls.specs.declared.Refusal.TheVariants.{ParameterNotFinite}
use Rattle.values.specs.Accepted.{accepted, finite}
use Rattle.calls.specs.Answer.{slices, checked}
use Rattle.cells.specs.Line.{line, from_bar}
use Rattle.cells.specs.Recur.{recur, carried}
use Rattle.cells.specs.Written.{written}
use Rattle.windows.specs.Window.{sum_from, window_sum, mean}
use Rattle.averages.specs.Ema.{ema_line}
use Rattle.averages.specs.ExponentialSmoothing.{exponential_line, exponential_answer}

-- 1, 2, 4, and 2, 4, 6, 10
short : List Float
short = fin false 1 (pos 0) ∷ fin false 1 (pos 1) ∷ fin false 1 (pos 2) ∷ []

long : List Float
long = fin false 1 (pos 1) ∷ fin false 1 (pos 2) ∷ fin false 3 (pos 1) ∷ fin false 5 (pos 1) ∷ []

-- n 3 gives NaN, NaN, 4 and 7
ema_case : written 4 (ema_line 3 (line long)) long ≡ nan ∷ nan ∷ fin false 1 (pos 2) ∷ fin false 7 (pos 0) ∷ []
unfolding long carried mean window_sum recur sum_from from_bar add sub mul div of_int round
ema_case = refl

-- alpha 0.5 gives 1, 1.5 and 2.75; alpha 2 ^ 1023 gives 1, an infinity and NaN
exponential_case : map (λ (e : ℤ). written 3 (exponential_line (fin false 1 e) (line short)) short)
    (negsuc 0 ∷ pos 1023 ∷ [])
    ≡ (fin false 1 (pos 0) ∷ fin false 3 (negsuc 0) ∷ fin false 11 (negsuc 1) ∷ [])
    ∷ (fin false 1 (pos 0) ∷ inf false ∷ nan ∷ []) ∷ []
unfolding short carried recur from_bar add sub mul round
exponential_case = refl

-- any finite alpha is taken, and no bars give the empty answer
exponential_answers : exponential_answer short (fin true 1 (pos 1023)) 3 ∷ exponential_answer [] (fin false 1 (pos 0)) 0
    ∷ exponential_answer short nan 3 ∷ []
    ≡ Ok 3 ∷ Ok 0 ∷ Err ParameterNotFinite ∷ []
unfolding short exponential_answer slices checked accepted finite lt eq le to_bits
exponential_answers = refl
