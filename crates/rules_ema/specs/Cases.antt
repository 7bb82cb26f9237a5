-- single_ema_positions at small series, with the cells that pure.rs gives. Assumes nothing.
use Rattle.std.specs.Prelude.{true, ◌≡◌, refl, [], ◌∷◌, pos, negsuc}
use Rattle.std.specs.Float.{fin}
use Rattle.std.specs.Float.Ieee.{round, add, sub, mul, div, eq, of_int}
use Rattle.cells.specs.Line.{plus_zero, from_bar}
use Rattle.cells.specs.Recur.{recur, carried}
use Rattle.cells.specs.Search.{first_bar}
use Rattle.cells.specs.Shown.{prices, cells_of}
use Rattle.rounding.specs.Leaves.{plus_one, minus_one, sign_of}
use Rattle.windows.specs.Window.{sum_from, window_sum, mean}
use Rattle.rules_ema.specs.SingleEma.{first_usable, ema_of_means, single_ema_from, single_ema_line}

-- n 2 of five bars; n 1, where the price is its own mean; n as long as the series, and longer; one bar
single_ema_cases : (cells_of (single_ema_line 5 2) (prices (pos 1 ∷ pos 3 ∷ pos 5 ∷ pos 2 ∷ pos 4 ∷ []))
    ≡ (plus_zero ∷ plus_zero ∷ plus_one ∷ minus_one ∷ plus_one ∷ []))
    × (cells_of (single_ema_line 3 1) (prices (pos 3 ∷ pos 1 ∷ pos 2 ∷ [])) ≡ (plus_one ∷ plus_one ∷ plus_one ∷ []))
    × (cells_of (single_ema_line 3 3) (prices (pos 1 ∷ pos 2 ∷ pos 4 ∷ [])) ≡ (plus_zero ∷ plus_zero ∷ plus_zero ∷ []))
    × (cells_of (single_ema_line 2 3) (prices (pos 1 ∷ pos 2 ∷ [])) ≡ (plus_zero ∷ plus_zero ∷ []))
    × (cells_of (single_ema_line 1 1) (prices (pos 7 ∷ [])) ≡ (plus_one ∷ []))
unfolding single_ema_line single_ema_from ema_of_means first_usable first_bar carried recur mean window_sum sum_from
    from_bar sign_of add sub mul div of_int eq round
single_ema_cases = (refl, refl, refl, refl, refl)

-- leading zeros move the start; with no other mean it is bar n - 1, where 0 less 0 gives 1; the half of the number
-- next below 0 rounds to
-- -0.0, which counts as 0
single_ema_zeros : (cells_of (single_ema_line 6 2) (prices (pos 0 ∷ pos 0 ∷ pos 0 ∷ pos 4 ∷ pos 6 ∷ pos 1 ∷ []))
    ≡ (plus_zero ∷ plus_zero ∷ plus_zero ∷ plus_zero ∷ plus_one ∷ minus_one ∷ []))
    × (cells_of (single_ema_line 3 2) (prices (pos 0 ∷ pos 0 ∷ pos 0 ∷ [])) ≡ (plus_zero ∷ plus_one ∷ plus_one ∷ []))
    × (cells_of (single_ema_line 2 2) (fin true 1 (negsuc 1073) ∷ plus_zero ∷ []) ≡ (plus_zero ∷ plus_one ∷ []))
unfolding single_ema_line single_ema_from ema_of_means first_usable first_bar carried recur mean window_sum sum_from
    from_bar sign_of add sub mul div of_int eq round
single_ema_zeros = (refl, refl, refl)

-- It looks ahead: a price of 0 alone gives 1 at bar 0, and with a price of 1 after it 0.
looks_ahead : (single_ema_line 1 1 (λ i. plus_zero) 0 ≡ plus_one)
    × (cells_of (single_ema_line 2 1) (prices (pos 0 ∷ pos 1 ∷ [])) ≡ plus_zero ∷ plus_one ∷ [])
unfolding single_ema_line single_ema_from ema_of_means first_usable first_bar carried recur mean window_sum sum_from
    from_bar sign_of add sub mul div of_int eq round
looks_ahead = (refl, refl)
