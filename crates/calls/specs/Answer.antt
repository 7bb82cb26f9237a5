-- What a call answers: the numbers of documents 01 and 02, and their table of refusals read from the top. Assumes
-- nothing.
use Rattle.std.specs.Prelude.{Result, Bool, true, false, ◌||◌, List, [], ◌∷◌, map, ℕ, ◌*◌, leb, eqb, length, Float, Ok, Err}
use Rattle.std.specs.Float.Ieee.{le}
use Rattle.calls.specs.declared.Refusal.{Refusal}
use Rattle.calls.specs.declared.Refusal.TheVariants.{
  SeriesTooLong,
  LengthsDiffer,
  OutputTooShort,
  WorkTooShort,
  ValueNotAccepted,
  ParameterNotFinite,
  WindowTooLong,
  SeriesTooShort,
  WindowsOutOfOrder,
  BrokenLine,
  LowAboveHigh,
  CoveredTwice,
  NotCovered,
  PositionUnknown,
  WeightTooLarge,
}
use Rattle.cells.specs.Line.{Line, line}
use Rattle.cells.specs.Search.{every_bar}
use Rattle.values.specs.Accepted.{finite, tick, all}
use Rattle.limits.specs.Limits.{longest_series, longest_window, longest_period}

-- how many cells of each output are written, or why none are
abbrev pub Answer : Type 0
Answer = Result ℕ Refusal

-- the number of a refusal
abbrev pub number : Refusal → ℕ
number SeriesTooLong = 1
number LengthsDiffer = 2
number OutputTooShort = 3
number WorkTooShort = 4
number ValueNotAccepted = 5
number ParameterNotFinite = 6
number WindowTooLong = 7
number SeriesTooShort = 8
number WindowsOutOfOrder = 9
number BrokenLine = 10
number LowAboveHigh = 11
number CoveredTwice = 12
number NotCovered = 13
number PositionUnknown = 14
number WeightTooLarge = 16

-- the number of the refusal, 0 where there is none
abbrev pub refusal_of : Answer → ℕ
refusal_of (Ok k) = 0
refusal_of (Err q) = number q

-- how many cells of each output are written
abbrev pub count_of : Answer → ℕ
count_of (Ok k) = k
count_of (Err q) = 0

-- how many of n work cells are cleared: all of them where the call is answered
abbrev pub cleared_of : Answer → ℕ → ℕ
cleared_of (Ok k) n = n
cleared_of (Err q) n = 0

-- ---- the table, read from the top

-- refused, unless the test holds
abbrev pub unless : Bool → Refusal → Answer → Answer
unless true q next = next
unless false q next = Err q

-- a refusal stands, and after a count comes what is next
abbrev pub and_then : Answer → Answer → Answer
and_then (Ok k) next = next
and_then (Err q) next = Err q

-- the empty answer, where the test holds
abbrev pub empty_if : Bool → Answer → Answer
empty_if true next = Ok 0
empty_if false next = next

-- the length of the first series, which is L
abbrev pub first : List ℕ → ℕ
first [] = 0
first (l ∷ rest) = l

-- Refusals 1 to 4, of lengths: those of the series, of the outputs, and of the work slice, where there is one. The
-- count is L.
unfoldable pub slices : List ℕ → List ℕ → List ℕ → Answer
slices series outputs work =
    unless (all (λ l. leb l longest_series) series) SeriesTooLong
    (unless (all (λ l. eqb l (first series)) series) LengthsDiffer
    (unless (all (λ room. leb (first series) room) outputs) OutputTooShort
    (unless (all (λ room. leb (8 * first series) room) work) WorkTooShort
    (Ok (first series)))))

-- Refusals 1 to 5: `ok` says which values are accepted.
unfoldable pub checked : (Float → Bool) → List (List Float) → List ℕ → List ℕ → Answer
unfolding slices
checked ok series outputs work =
    let lengths = map length series in
    and_then (slices lengths outputs work) (unless (all (all ok) series) ValueNotAccepted (Ok (first lengths)))

-- no low is above its high, at the first k bars
unfoldable pub in_order : Line → Line → ℕ → Bool
in_order low high = every_bar (λ i. le (low i) (high i))

-- Refusals 1 to 5 and then 11, of a low and a high for each bar: whole ticks, and no low above its high.
unfoldable pub ranged : List Float → List Float → ℕ → Answer
unfolding checked
ranged low high output =
    and_then (checked tick (low ∷ high ∷ []) (output ∷ []) [])
    (unless (in_order (line low) (line high) (length low)) LowAboveHigh (Ok (length low)))

-- whether a zero is among them
abbrev pub any_zero : List ℕ → Bool
any_zero [] = false
any_zero (n ∷ ns) = eqb n 0 || any_zero ns

-- Refusals 6 and 7, of the parameters: f64 parameters that are finite, and windows and smoother periods that are not
-- too long.
abbrev pub limited : List Float → List ℕ → List ℕ → Answer → Answer
limited numbers windows periods next =
    unless (all finite numbers) ParameterNotFinite
    (unless (all (λ n. leb n longest_period) periods) WindowTooLong
    (unless (all (λ n. leb n longest_window) windows) WindowTooLong
    next))

-- The empty answer, for no bars, or a window or a period of none.
abbrev pub unless_empty : ℕ → List ℕ → List ℕ → Answer → Answer
unless_empty l windows periods next = empty_if (any_zero periods || any_zero (l ∷ windows)) next

-- Refusal 7 for integer windows, then the empty answer, then what is next.
unfoldable pub windowed : ℕ → List ℕ → Answer → Answer
windowed l windows next = limited [] windows [] (unless_empty l windows [] next)

-- A call of one series and of integer windows, with no condition of its own on them.
unfoldable pub answered : (Float → Bool) → List Float → List ℕ → ℕ → List ℕ → Answer
unfolding checked windowed
answered ok s windows output work =
    and_then (checked ok (s ∷ []) (output ∷ []) work) (windowed (length s) windows (Ok (length s)))

-- The same with f64 parameters: the table from the top, refusals 1 to 5, then 6 for the numbers, 7 for the windows, and
-- the empty answer.
unfoldable pub answered_with : (Float → Bool) → List Float → List Float → List ℕ → ℕ → List ℕ → Answer
unfolding checked
answered_with ok s numbers windows output work =
    and_then (checked ok (s ∷ []) (output ∷ []) work)
    (limited numbers windows [] (unless_empty (length s) windows [] (Ok (length s))))
