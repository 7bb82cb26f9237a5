-- rsi_reverse_positions at small series, with the cells that pure.rs gives, and its answers. Assumes nothing.
use Rattle.std.specs.Prelude.{◌≡◌, refl, true, false, List, [], ◌∷◌, ℕ, suc, ℤ, pos, Float, Ok, Err}
use Rattle.std.specs.Float.{nan, inf}
use Rattle.std.specs.Float.Ieee.{round, neg, add, sub, mul, div, lt, eq, le, of_int, of_bits, to_bits}
use Rattle.limits.specs.Limits.{longest_window}
use Rattle.rounding.specs.Leaves.{minus_one}
use Rattle.rounding.specs.Literals.{half, hundred}
use Rattle.calls.specs.declared.Refusal.TheVariants.{ParameterNotFinite, WindowTooLong}
use Rattle.values.specs.Accepted.{accepted, finite}
use Rattle.calls.specs.Answer.{slices, checked, answered_with}
use Rattle.cells.specs.Line.{plus_zero, from_bar}
use Rattle.cells.specs.Recur.{recur}
use Rattle.cells.specs.Shown.{num, prices, bits, cells_of}
use Rattle.windows.specs.Window.{sum_from, window_sum, mean}
use Rattle.changes.specs.Changes.{change, gains, losses}
use Rattle.rules_held.specs.Held.{flat, long, short, moved, hold}
use Rattle.rules_rsi.specs.RsiReverse.{first_change, changes_before, sum_before, rsi_before, turned, rsi_reverse_line}

-- upper 70, lower 30, exit 50
abbrev usual : ℕ → List Float → List ℤ
usual n = cells_of (rsi_reverse_line n (num 70) (num 30) (num 50))

-- n 2: no losses give 100, which opens a short position; later a long one opens, is held and closes
rsi_reverse_cases : usual 2 (prices (pos 1 ∷ pos 2 ∷ pos 3 ∷ pos 4 ∷ pos 5 ∷ pos 4 ∷ pos 3 ∷ pos 2 ∷ pos 1 ∷ pos 2
    ∷ pos 3 ∷ pos 4 ∷ pos 5 ∷ pos 6 ∷ []))
    ≡ flat ∷ flat ∷ flat ∷ short ∷ short ∷ short ∷ short ∷ flat ∷ long ∷ long ∷ long ∷ flat ∷ short ∷ short ∷ []
unfolding rsi_reverse_line turned rsi_before sum_before changes_before first_change gains losses change hold moved recur
    mean window_sum sum_from from_bar neg add sub mul div of_int of_bits round lt eq
rsi_reverse_cases = refl

-- n 1 has an index of 100 at bars 0 and 1, from no change at all, and then that of the change of the bar before; a flat
-- series has no losses, nor have zeros; n as long as the series, and longer; one bar; where both tests hold, the
-- long one is opened
rsi_reverse_edges : (usual 1 (prices (pos 5 ∷ pos 4 ∷ pos 3 ∷ pos 4 ∷ pos 5 ∷ []))
    ≡ (short ∷ short ∷ flat ∷ long ∷ flat ∷ []))
    × (usual 2 (prices (pos 5 ∷ pos 5 ∷ pos 5 ∷ pos 5 ∷ pos 5 ∷ [])) ≡ (flat ∷ flat ∷ flat ∷ short ∷ short ∷ []))
    × (usual 1 (prices (pos 0 ∷ pos 0 ∷ pos 0 ∷ pos 0 ∷ [])) ≡ (short ∷ short ∷ short ∷ short ∷ []))
    × (usual 3 (prices (pos 1 ∷ pos 2 ∷ pos 3 ∷ [])) ≡ (flat ∷ flat ∷ flat ∷ []))
    × (usual 3 (prices (pos 1 ∷ pos 2 ∷ [])) ≡ (flat ∷ flat ∷ []))
    × (usual 1 (prices (pos 7 ∷ [])) ≡ (short ∷ []))
    × (cells_of (rsi_reverse_line 2 (num 20) (num 200) (num 300)) (prices (pos 1 ∷ pos 2 ∷ pos 3 ∷ pos 4 ∷ pos 5 ∷ pos 6
    ∷ []))
    ≡ (flat ∷ flat ∷ flat ∷ long ∷ long ∷ long ∷ []))
unfolding rsi_reverse_line turned rsi_before sum_before changes_before first_change gains losses change hold moved recur
    mean window_sum sum_from from_bar neg add sub mul div of_int of_bits round lt eq
rsi_reverse_edges = (refl, refl, refl, refl, refl, refl, refl)

-- The means fall by the smallest number once: that loss is not 0, but its half at bar 4 rounds to 0, and 0 / 0 is NaN,
-- which opens nothing. At bar 5 there is no loss left, and the index is 100. No long position opens, since `lower`
-- is -1.
rsi_reverse_least : cells_of (rsi_reverse_line 2 (num 70) minus_one (num 50)) (bits (0x0000000000000002 ∷ 0 ∷ 0 ∷ 0 ∷ 0
    ∷ 0 ∷ []))
    ≡ flat ∷ flat ∷ flat ∷ flat ∷ flat ∷ short ∷ []
unfolding rsi_reverse_line turned rsi_before sum_before changes_before first_change gains losses change hold moved recur
    mean window_sum sum_from from_bar neg add sub mul div of_int of_bits round lt eq
rsi_reverse_least = refl

-- one bar; each of the three levels not finite, before a window too long; a window of 0; no bars
rsi_reverse_answers : answered_with accepted (plus_zero ∷ []) (hundred ∷ plus_zero ∷ half ∷ []) (1 ∷ []) 1 (8 ∷ [])
    ∷ answered_with accepted (plus_zero ∷ []) (nan ∷ plus_zero ∷ half ∷ []) (suc longest_window ∷ []) 1 (8 ∷ [])
    ∷ answered_with accepted (plus_zero ∷ []) (hundred ∷ (inf false) ∷ half ∷ []) (suc longest_window ∷ []) 1 (8 ∷ [])
    ∷ answered_with accepted (plus_zero ∷ []) (hundred ∷ plus_zero ∷ (inf true) ∷ []) (suc longest_window ∷ []) 1
    (8 ∷ [])
    ∷ answered_with accepted (plus_zero ∷ []) (hundred ∷ plus_zero ∷ half ∷ []) (suc longest_window ∷ []) 1 (8 ∷ [])
    ∷ answered_with accepted (plus_zero ∷ []) (hundred ∷ plus_zero ∷ half ∷ []) (0 ∷ []) 1 (8 ∷ [])
    ∷ answered_with accepted [] (hundred ∷ plus_zero ∷ half ∷ []) (1 ∷ []) 0 (0 ∷ [])
    ∷ []
    ≡ Ok 1 ∷ Err ParameterNotFinite ∷ Err ParameterNotFinite ∷ Err ParameterNotFinite
    ∷ Err WindowTooLong ∷ Ok 0 ∷ Ok 0 ∷ []
unfolding answered_with slices checked accepted finite lt eq le to_bits
rsi_reverse_answers = refl
