-- What the program writes for a whole input, and where the input breaks its columns: a
-- step on its lines, from the first to the last. Assumes nothing.
use Rattle.std.specs.Prelude.{cond, List, [], ◌∷◌, ◌++◌, ℕ, eqb, length, Float, Option, Some, None, Result, Ok, Err}
use Rattle.sheet_lines.specs.declared.Request.{Request}
use Rattle.sheet_lines.specs.declared.reasons.Reason.{Reason}
use Rattle.sheet_lines.specs.declared.reasons.Reason.TheVariants.{InputEnds}
use Rattle.sheet_lines.specs.Header.{read_header, read_price_line}
use Rattle.sheet_lines.specs.Printed.{broken_line, no_such_desk, head_line, answer_text}
use Rattle.sheet_requests.specs.declared.Counts.{Counts}
use Rattle.sheet_requests.specs.declared.status.Fault.{Fault}
use Rattle.sheet_requests.specs.Answer.{rule_answer, rule_line}
use Rattle.sheet_requests.specs.Counts.{is_desk, none_yet, after, after_lines, closing}

-- ---- the lines

-- a byte in front of the first line
abbrev pub lengthen : ℕ → List (List ℕ) → List (List ℕ)
lengthen b [] = (b ∷ []) ∷ []
lengthen b (first ∷ rest) = (b ∷ first) ∷ rest

-- The lines of the input, each with its line feed, which the last may lack.
unfoldable pub lines : List ℕ → List (List ℕ)
lines [] = []
lines (b ∷ rest) = cond (eqb b 10) ((b ∷ []) ∷ lines rest) (lengthen b (lines rest))

-- ---- the step

-- Before a request; among its prices, of which fewer than all are there; and after a line that broke its columns.
pub data State : Type 0 where
  waiting : Counts → State
  collecting : Counts → Request → List Float → State
  stopped : Counts → Reason → State

-- a request with all its prices
pub record Complete : Type 0 where
  pub request : Request
  pub prices : List Float

-- what a line prints, the request that it completes, if it does, and the state after it
pub record Step : Type 0 where
  pub prints : List ℕ
  pub completes : List Complete
  pub state : State

-- nothing is printed
abbrev pub quiet : State → Step
quiet s = record { prints = []; completes = []; state = s }

-- desk 0, rule 0, refusal 10, count 0, and no further reading
abbrev pub broken : Counts → Reason → Step
broken c reason =
    record { prints = head_line 0 0 broken_line 0; completes = []; state = stopped (after_lines 1 c) reason }

-- What a request with all its prices prints: the answer of its rule, if its desk
-- is one of the sixteen, and else its desk, its rule, refusal 15, count 0.
abbrev pub answer_of : Request → List Float → List ℕ
answer_of r prices =
    cond (is_desk r.desk) (answer_text r (rule_answer r prices) (rule_line r prices))
    (head_line r.desk r.rule no_such_desk 0)

-- the counts after it: refusal 15 is in none
abbrev pub counted_after : Counts → Request → List Float → Counts
counted_after c r prices = cond (is_desk r.desk) (after c r (rule_answer r prices)) c

-- a request with all its prices is answered
abbrev pub completed : Counts → Request → List Float → Step
completed c r prices =
    record {
      prints = answer_of r prices;
      completes = record { request = r; prices = prices } ∷ [];
      state = waiting (counted_after c r prices);
    }

-- a request with these prices: more are to come, or they are all there
unfoldable pub with_prices : Counts → Request → List Float → Step
with_prices c r prices =
    cond (eqb (length prices) r.bars) (completed c r prices) (quiet (collecting c r prices))

-- what was read of a request's first line, and of a price's line, or why it is refused
abbrev pub begun : Counts → Result Request Reason → Step
begun c (Ok r) = with_prices (after_lines 1 c) r []
begun c (Err reason) = broken c reason

abbrev pub priced : Counts → Request → List Float → Result Float Reason → Step
priced c r prices (Ok x) = with_prices (after_lines 1 c) r (prices ++ (x ∷ []))
priced c r prices (Err reason) = broken c reason

abbrev pub step : State → List ℕ → Step
step (waiting c) line = begun c (read_header line)
step (collecting c r prices) line = priced c r prices (read_price_line line)
step (stopped c reason) line = quiet (stopped c reason)

-- ---- the whole

-- what the lines come to: all that is printed, and where they break
pub record Outcome : Type 0 where
  pub text : List ℕ
  pub fault : Option Fault

-- a text printed, and then the rest
abbrev pub printing : List ℕ → Outcome → Outcome
printing text rest = record { text = text ++ rest.text; fault = rest.fault }

-- what is printed last
abbrev pub closed : Counts → Option Fault → Outcome
closed c fault = record { text = closing c; fault = fault }

-- the line after those that were read is missing, or not whole
abbrev pub missing_line : Counts → Fault
missing_line c = record { line = (after_lines 1 c).lines; reason = InputEnds }

-- The input ends: inside a request, the line that is missing breaks it.
unfoldable pub ending : State → Outcome
ending (waiting c) = closed c None
ending (collecting c r prices) =
    printing (broken c InputEnds).prints (closed (after_lines 1 c) (Some (missing_line c)))
ending (stopped c reason) = closed c (Some (record { line = c.lines; reason = reason }))

-- what the lines come to from a state on
unfoldable pub outcome : State → List (List ℕ) → Outcome
outcome s [] = ending s
outcome s (line ∷ rest) = printing (step s line).prints (outcome (step s line).state rest)

unfoldable pub whole : List ℕ → Outcome
whole input = outcome (waiting none_yet) (lines input)

-- All that the program writes for the input.
abbrev pub sheet : List ℕ → List ℕ
sheet input = (whole input).text

-- Where the input breaks its columns, if it does: the line, counted from 1, and the reason.
abbrev pub broken_at : List ℕ → Option Fault
broken_at input = (whole input).fault
