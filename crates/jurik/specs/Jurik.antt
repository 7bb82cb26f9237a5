-- jurik_volty: three averaging passes over the sizes of changes, each an average as pandas' ewm(span, adjust = False)
-- takes it. Before each pass the source looks through all bars whether the valid values are equal, and then leaves
-- them as they are; so it looks ahead. Assumes nothing.
use Rattle.std.specs.Prelude.{Bool, not, cond, ◌&&◌, List, [], ◌∷◌, ℕ, suc, ◌-◌, ◌/◌, leb, length, Float}
use Rattle.std.specs.Float.{nan, binary64}
use Rattle.std.specs.Float.Ieee.{add, sub, mul, eq, is_nan}
use Rattle.calls.specs.Answer.{Answer, answered_with}
use Rattle.calls.specs.Call.{WorkCall}
use Rattle.values.specs.Accepted.{accepted}
use Rattle.cells.specs.Line.{Line, line, plus_zero, from_bar}
use Rattle.cells.specs.Recur.{carried}
use Rattle.cells.specs.Search.{non_zero, first_bar}
use Rattle.rounding.specs.Leaves.{magnitude_of}
use Rattle.rounding.specs.Literals.{half}
use Rattle.changes.specs.Changes.{change}
use Rattle.averages.specs.Blend.{blend, ema_alpha}

-- ---- a pass, and the test before it

-- The exponential average from the first valid value on, which is its first cell; `none` before it.
unfoldable pub averaged : (Float → Bool) → Float → Float → Line → Line
averaged valid none alpha f i =
    let a = first_bar (λ j. valid (f j)) (suc i) in
    carried none (blend alpha) a (f a) f i

-- the valid values as they are, and `none` for the others
unfoldable pub copied : (Float → Bool) → Float → Line → Line
copied valid none f i = cond (valid (f i)) (f i) none

-- a pass copies or averages
abbrev pub passed : (Float → Bool) → Float → Float → Bool → Line → Line
passed valid none alpha copy f i = cond copy (copied valid none f i) (averaged valid none alpha f i)

-- The first of l bars whose value is valid and not equal to the first valid one, and l where there is none. A NaN
-- that is valid is not equal to itself.
unfoldable pub first_differing : (Float → Bool) → ℕ → Line → ℕ
first_differing valid l f =
    let a = first_bar (λ j. valid (f j)) l in
    first_bar (λ j. valid (f j) && not (eq (f j) (f a))) l

-- the valid values of l bars are equal
abbrev pub all_same : (Float → Bool) → ℕ → Line → Bool
all_same valid l f = leb l (first_differing valid l f)

-- ---- the stages

abbrev pub is_number : Float → Bool
is_number x = not (is_nan x)

-- the size of each change; bar 0 has none
unfoldable pub price_change : Line → Line
price_change f = from_bar 1 nan (λ i. magnitude_of (change plus_zero f i))

-- these passed once with the span n / 2, and twice; each Bool says whether the pass copies
unfoldable pub smooth1 : Bool → ℕ → Line → Line
smooth1 first n f = passed is_number nan (ema_alpha (n / 2)) first (price_change f)

unfoldable pub smooth2 : Bool → Bool → ℕ → Line → Line
smooth2 first second n f = passed is_number nan (ema_alpha (n / 2)) second (smooth1 first n f)

-- (x + (x - last) · 0.5) · power, and 0.0 where one of the two is no number
unfoldable pub jv_of : Float → Float → Float → Float
jv_of power last x =
    cond (is_number x && is_number last)
    (mul binary64 (add binary64 x (mul binary64 (sub binary64 x last) half)) power)
    plus_zero

-- of each cell and the one before it, from bar 2 on
unfoldable pub jv : Float → Line → Line
jv power f = from_bar 2 plus_zero (λ i. jv_of power (f (i - 1)) (f i))

-- and a last pass with the span n / 3, from the first value that is not 0 on
unfoldable pub jurik_with : Bool → Bool → Bool → ℕ → Float → Line → Line
jurik_with first second third n power f =
    passed non_zero plus_zero (ema_alpha (n / 3)) third (jv power (smooth2 first second n f))

-- Of l bars: a pass copies where the values that it takes are equal, to the end of the series.
unfoldable pub jurik_line : ℕ → ℕ → Float → Line → Line
jurik_line l n power f =
    let first = all_same is_number l (price_change f) in
    let second = all_same is_number l (smooth1 first n f) in
    let third = all_same non_zero l (jv power (smooth2 first second n f)) in
    jurik_with first second third n power f

-- ---- the call

-- what a call of `jurik_volty` promises
abbrev pub JurikCall : List Float → ℕ → Float → List Float → List Float → Answer → List Float → List Float → Type 0
JurikCall s n power out₀ work₀ =
    WorkCall (answered_with accepted s (power ∷ []) (n ∷ []) (length out₀) (length work₀ ∷ []))
    (jurik_line (length s) n power (line s)) out₀ (length s) work₀
