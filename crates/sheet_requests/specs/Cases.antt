-- Small cases, by computation: whole sheets with document 01's example. Assumes nothing.
use Rattle.std.specs.Prelude.{◌≡◌, refl, cond, List, [], ◌∷◌, ◌++◌, map, ℕ, eqb, Option, Some, None}
use Rattle.std.specs.Float.Ieee.{add, sub, div, of_int, lt, eq, le, to_bits}
use Rattle.rounding.specs.Leaves.{sign_of}
use Rattle.values.specs.Accepted.{accepted}
use Rattle.calls.specs.Answer.{slices, checked, windowed, answered}
use Rattle.cells.specs.Line.{from_bar}
use Rattle.cells.specs.Recur.{recur}
use Rattle.windows.specs.Window.{sum_from, window_sum, mean, running_sum}
use Rattle.extremes.specs.Extreme.{pick_from, extreme}
use Rattle.rules_single.specs.Single.{single_line}
use Rattle.rules_double.specs.Double.{running_mean, double_line, double_answer}
use Rattle.rules_middle.specs.Middle.{mid_line}
use Rattle.sheet_lines.specs.inner.Text.{bytes}
use Rattle.sheet_lines.specs.Read.{number, read_field, signed, read_price}
use Rattle.sheet_lines.specs.Print.{print_field}
use Rattle.sheet_lines.specs.Header.{request_of, read_header, read_price_line}
use Rattle.sheet_lines.specs.Printed.{head_line, position_lines, answer_text, count_line}
use Rattle.sheet_requests.specs.declared.status.Fault.{Fault}
use Rattle.sheet_lines.specs.declared.reasons.Reason.{Reason}
use Rattle.sheet_lines.specs.declared.reasons.Reason.TheVariants.{LineLength, PriceField, InputEnds}
use Rattle.sheet_requests.specs.Answer.{rule_answer, rule_line}
use Rattle.sheet_requests.specs.Counts.{desks, count_lines}
use Rattle.sheet_requests.specs.ByDesk.{requests_from, requests_of, desk_count}
use Rattle.sheet_requests.specs.Sheet.{
  lines,
  with_prices,
  ending,
  outcome,
  whole,
  sheet,
  broken_at,
}

-- sixteen lines with count 0
abbrev zeros : List ℕ
zeros =
    bytes "   1           0\n   2           0\n   3           0\n   4           0\n"
    ++ (bytes "   5           0\n   6           0\n   7           0\n   8           0\n"
    ++ (bytes "   9           0\n  10           0\n  11           0\n  12           0\n"
    ++ bytes "  13           0\n  14           0\n  15           0\n  16           0\n"))

-- document 01's example
example :
    sheet (bytes "   7   2     1     2     4\n          10\n          12\n          12\n          11\n")
    ≡ bytes "   7   2   0     4\n   0\n   1\n   1\n  -1\n" ++ zeros
unfolding whole outcome lines with_prices ending read_header request_of read_price_line read_field read_price signed
    number answer_text head_line position_lines count_lines count_line print_field rule_answer rule_line answered
    double_answer slices checked windowed accepted single_line double_line mid_line mean window_sum extreme pick_from
    running_mean running_sum recur sum_from from_bar sign_of add sub div of_int lt eq le to_bits
example = refl

-- no input; windows out of order and then a good request of one bar; an input that ends
-- inside a request; a line that breaks its columns after a good request
sheets :
    map (λ input. sheet (bytes input))
    (
    ""
    ∷ "   1   2     2     1     1\n           5\n   2   1     1     0     1\n           5\n"
    ∷ "   1   1     1     0     2\n           5\n"
    ∷ "   3   3     1     0     1\n          -0\nx\n   7"
    ∷ []
    )
    ≡ zeros
    ∷ (bytes "   1   2   9     0\n   2   1   0     1\n   1\n" ++ count_lines desks (λ d. cond (eqb d 1) 1 0))
    ∷ (bytes "   0   0  10     0\n" ++ zeros)
    ∷ (bytes "   3   3   0     1\n   0\n   0   0  10     0\n" ++ zeros)
    ∷ []
unfolding whole outcome lines with_prices ending read_header request_of read_price_line read_field read_price signed
    number answer_text head_line position_lines count_lines count_line print_field rule_answer rule_line answered
    double_answer slices checked windowed accepted single_line double_line mid_line mean window_sum extreme pick_from
    running_mean running_sum recur sum_from from_bar sign_of add sub div of_int lt eq le to_bits
sheets = refl

-- desks 0 and 17: no bars, and a window that the library refuses; a price that is none;
-- desk 16, with two windows that are too long, and desk 17 with one
desk_cases :
    map (λ input. sheet (bytes input))
    (
    "   0   1     1     0     0\n"
    ∷ "  17   1999999     0     1\n           5\n"
    ∷ "  17   1     1     0     1\n           x\n"
    ∷ "  16   1999999     0     0\n  17   1999999     0     0\n  16   1999999     0     0\n"
    ∷ []
    )
    ≡ (bytes "   0   1  15     0\n" ++ zeros)
    ∷ (bytes "  17   1  15     0\n" ++ zeros)
    ∷ (bytes "   0   0  10     0\n" ++ zeros)
    ∷ (bytes "  16   1   7     0\n  17   1  15     0\n  16   1   7     0\n"
    ++ count_lines desks (λ d. cond (eqb d 16) 2 0))
    ∷ []
unfolding whole outcome lines with_prices ending read_header request_of read_price_line read_field read_price signed
    number answer_text head_line position_lines count_lines count_line print_field rule_answer rule_line answered
    double_answer slices checked windowed accepted single_line double_line mid_line mean window_sum extreme pick_from
    running_mean running_sum recur sum_from from_bar sign_of add sub div of_int lt eq le to_bits
desk_cases = refl

-- of these two requests of desk 16 and one of desk 17 the first alone is refused
request_cases :
    let input = bytes "  16   1999999     0     0\n  16   1     1     0     0\n  17   1999999     0     0\nx" in
    map (λ q. q.request.desk) (requests_of input) ++ map (desk_count input) (15 ∷ 16 ∷ [])
    ≡ 16 ∷ 16 ∷ 17 ∷ 0 ∷ 1 ∷ []
unfolding requests_from lines with_prices
    read_header request_of read_price_line read_field read_price signed number
    rule_answer answered double_answer slices checked windowed accepted of_int lt eq le to_bits
request_cases = refl

-- no input and a whole request break nowhere; the second price is none; an input
-- ends after its second line, and inside its first; the line after a request is short
abbrev at : ℕ → Reason → Option Fault
at line reason = Some (record { line = line; reason = reason })

faults :
    map (λ input. broken_at (bytes input))
    (
    ""
    ∷ "   0   1     1     0     1\n           5\n"
    ∷ "   1   1     1     0     2\n           5\n           x\n   7"
    ∷ "   1   1     1     0     2\n           5\n"
    ∷ "   7   2"
    ∷ "   0   1     1     0     1\n           5\nbad\n"
    ∷ []
    )
    ≡ None ∷ None ∷ at 3 PriceField ∷ at 3 InputEnds ∷ at 1 InputEnds ∷ at 3 LineLength ∷ []
unfolding whole outcome lines with_prices ending
    read_header request_of read_price_line read_field read_price signed number
    rule_answer answered checked windowed slices accepted of_int lt eq le to_bits
faults = refl
