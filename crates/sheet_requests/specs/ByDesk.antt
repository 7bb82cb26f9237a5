-- The requests that an input asks, the answers to them, and how many of a desk's are refused. Assumes nothing.
use Rattle.std.specs.Prelude.{Bool, true, false, cond, List, [], ◌∷◌, ◌++◌, ℕ, zero, suc, ◌+◌, min, eqb, length, Ok, Err, Option, Some, None}
use Rattle.calls.specs.Answer.{Answer}
use Rattle.sheet_lines.specs.Printed.{broken_line, head_line}
use Rattle.sheet_requests.specs.declared.status.Fault.{Fault}
use Rattle.sheet_requests.specs.Answer.{rule_answer}
use Rattle.sheet_requests.specs.Counts.{is_desk, none_yet, most_count}
use Rattle.sheet_requests.specs.Sheet.{Complete, State, waiting, lines, step, answer_of}

-- ---- the requests

-- the requests that the lines complete from a state on
unfoldable pub requests_from : State → List (List ℕ) → List Complete
requests_from s [] = []
requests_from s (line ∷ rest) = (step s line).completes ++ requests_from (step s line).state rest

-- The requests of an input, with their prices, up to where it ends or breaks its columns, in order.
abbrev pub requests_of : List ℕ → List Complete
requests_of input = requests_from (waiting none_yet) (lines input)

-- ---- the answers

-- all that is printed for them
abbrev pub answers_of : List Complete → List ℕ
answers_of [] = []
answers_of (q ∷ rest) = answer_of q.request q.prices ++ answers_of rest

-- and for a line that breaks its columns
abbrev pub broken_text : Option Fault → List ℕ
broken_text None = []
broken_text (Some fault) = head_line 0 0 broken_line 0

-- ---- the counts

-- those for which the test holds, in order
abbrev pub only : (Complete → Bool) → List Complete → List Complete
only test [] = []
only test (q ∷ rest) = cond (test q) (q ∷ only test rest) (only test rest)

-- whether it is a request of this desk; whether of one of the sixteen desks
abbrev pub of_desk : ℕ → Complete → Bool
of_desk desk q = eqb q.request.desk desk

abbrev pub of_desks : Complete → Bool
of_desks q = is_desk q.request.desk

-- whether an answer is a refusal; whether that of the request's rule is
abbrev pub is_refusal : Answer → Bool
is_refusal (Ok k) = false
is_refusal (Err q) = true

abbrev pub refused_by_rule : Complete → Bool
refused_by_rule q = is_refusal (rule_answer q.request q.prices)

-- how many of the requests their rules refuse
abbrev pub refusals : List Complete → ℕ
refusals requests = length (only refused_by_rule requests)

-- The count of a desk: how many of its requests their rules refuse, and no more than 12 columns hold.
abbrev pub desk_count : List ℕ → ℕ → ℕ
desk_count input desk = min most_count (refusals (only (of_desk desk) (requests_of input)))

-- the counts of desks 1 to k, added up
abbrev pub sum_of_counts : ℕ → (ℕ → ℕ) → ℕ
sum_of_counts zero count = 0
sum_of_counts (suc k) count = sum_of_counts k count + count (suc k)
