-- Small cases, computed from the definitions: which numbers are periods, answers, and cells that pure.rs gave. Assumes
-- nothing.
use Rattle.std.specs.Prelude.{◌≡◌, ℕ, true, false, List, [], ◌∷◌, map, replicate, pos, negsuc, refl, Float, Ok, Err}
use Rattle.std.specs.Float.{nan, inf, fin, binary64}
use Rattle.std.specs.Float.Ieee.{neg, add, sub, mul, div, lt, eq, le, of_int, of_bits, to_bits, to_unsigned}
use Rattle.calls.specs.declared.Refusal.TheVariants.{OutputTooShort, ParameterNotFinite, WindowTooLong}
use Rattle.values.specs.Accepted.{accepted, finite}
use Rattle.calls.specs.Answer.{slices, checked}
use Rattle.cells.specs.Line.{Line, line, plus_zero, minus_zero}
use Rattle.cells.specs.Written.{written}
use Rattle.smoother_table.specs.Recorded.{a1_bits, b1_bits}
use Rattle.smoother_table.specs.Coefficients.{a1_table, b1_table, a1_of, b1_of, of_pair, coefficients}
use Rattle.smoother_table.specs.Period.{is_period}
use Rattle.smoother.specs.Smoother.{formula, smooth, smoother_answer}

abbrev num : ℕ → Float
num k = of_int binary64 (pos k)

-- 0, -0.0, 1 and 512
abbrev periods : List Float
periods = plus_zero ∷ minus_zero ∷ num 1 ∷ num 512 ∷ []

-- a half, 512 and a half, the f64 next above 512, 513, -1, the smallest number above 0 and the largest number
abbrev others : List Float
others =
    fin false 1 (negsuc 0) ∷ fin false 1025 (negsuc 0) ∷ fin false 4503599627370497 (negsuc 42) ∷ num 513
    ∷ fin true 1 (pos 0) ∷ fin false 1 (negsuc 1073) ∷ fin false 9007199254740991 (pos 971) ∷ []

abbrev not_finite : List Float
not_finite = nan ∷ inf false ∷ inf true ∷ []

period_cases : (map is_period periods ≡ replicate 4 true) × (map is_period others ≡ replicate 7 false)
unfolding is_period le lt eq of_int to_unsigned
period_cases = (refl, refl)

-- two bars, and an output of that length; an output of one cell is refused first; no bars
answer_cases : (map (λ x. smoother_answer (num 5 ∷ num 6 ∷ []) x 2) periods ≡ replicate 4 (Ok 2))
    × (map (λ x. smoother_answer (num 5 ∷ num 6 ∷ []) x 2) others ≡ replicate 7 (Err WindowTooLong))
    × (map (λ x. smoother_answer (num 5 ∷ num 6 ∷ []) x 2) not_finite ≡ replicate 3 (Err ParameterNotFinite))
    × (smoother_answer (num 5 ∷ num 6 ∷ []) nan 1 ≡ Err OutputTooShort)
    × (smoother_answer [] (num 20) 0 ≡ Ok 0)
unfolding smoother_answer is_period finite checked slices accepted le lt eq of_int to_unsigned to_bits
answer_cases = (refl, refl, refl, refl, refl)

-- the first cells of a line
abbrev cells : ℕ → Line → List Float
cells n f = written n f (replicate n nan)

-- 1, 2, 4, 8, 16, 3, -5
abbrev prices : List Float
prices = num 1 ∷ num 2 ∷ num 4 ∷ num 8 ∷ num 16 ∷ num 3 ∷ fin true 5 (pos 0) ∷ []

-- what pure.rs gives of them from bar 4 on: the bits of three cells
abbrev after : List ℕ → List Float
after bits = num 1 ∷ num 2 ∷ num 4 ∷ num 8 ∷ map (of_bits binary64) bits

smoother_cases : (cells 7 (smooth (coefficients 1) (line prices))
    ≡ after (0x402e032557b07129 ∷ 0x402072ae644d8d3d ∷ 0xc019199a751d7ae9 ∷ []))
    × (cells 7 (smooth (coefficients 20) (line prices))
    ≡ after (0x402997bd8c59063a ∷ 0x402da0c57a126a6d ∷ 0x402703a8c3744453 ∷ []))
    × (cells 7 (smooth (coefficients 512) (line prices))
    ≡ after (0x402811b1260fa8f8 ∷ 0x402fe9bb19a15441 ∷ 0x4033a0ecc365586c ∷ []))
    × (cells 5 (smooth (coefficients 0) (line prices)) ≡ num 1 ∷ num 2 ∷ num 4 ∷ num 8 ∷ nan ∷ [])
unfolding smooth formula coefficients of_pair a1_of b1_of a1_table b1_table a1_bits b1_bits of_bits of_int neg add sub
    mul div
smoother_cases = (refl, refl, refl, refl)
