-- Where a request stands in a block of bytes, in the program's numbers
-- and buffers, and what reading its prices promises. Assumes nothing.
use Rattle.std.specs.Prelude.{
  ◌≡◌,
  List,
  ◌++◌,
  ℕ,
  ◌+◌,
  ◌-◌,
  ◌*◌,
  ◌<◌,
  ◌≤◌,
  length,
  take,
  drop,
  Float,
  Option,
  Some,
  None,
}
use Rattle.sheet_lines.specs.inner.Adds.{Adds}
use Rattle.sheet_lines.specs.declared.Request.{Request}
use Rattle.sheet_lines.specs.Header.{most_bars, header_bytes, price_bytes}
use Rattle.sheet_lines.specs.Printed.{head_bytes, position_bytes}
use Rattle.sheet_lines.specs.declared.reasons.Reason.{Reason}
use Rattle.sheet_requests.specs.declared.Counts.{Counts}
use Rattle.sheet_requests.specs.Counts.{none_yet, after_lines}
use Rattle.sheet_requests.specs.declared.blocks.Stage.{Stage}
use Rattle.sheet_requests.specs.declared.blocks.Stage.TheVariants.{Waiting, Collecting, Stopped}
use Rattle.sheet_requests.specs.declared.blocks.Sheet.{Sheet}
use Rattle.sheet_requests.specs.declared.blocks.Place.{Place}
use Rattle.sheet_requests.specs.declared.blocks.Run.{Run}
use Rattle.sheet_requests.specs.Sheet.{
  State,
  waiting,
  collecting,
  stopped,
  Step,
  quiet,
  broken,
  with_prices,
  lines,
  Outcome,
  printing,
  outcome,
}

-- the state that a stage stands for, with the counts and the prices that lie in the series
abbrev pub state_of : Stage → Counts → List Float → State
state_of Waiting counts series = waiting counts
state_of (Collecting r got) counts series = collecting counts r (take got series)
state_of (Stopped reason) counts series = stopped counts reason

-- before the first request
abbrev pub beginning : Sheet
beginning = record { stage = Waiting; counts = none_yet }

-- how many bytes the next line has; where nothing is read any more, one that is never there
abbrev pub next_line_bytes : Stage → ℕ
next_line_bytes Waiting = header_bytes
next_line_bytes (Collecting r got) = price_bytes
next_line_bytes (Stopped reason) = 1

-- how many bytes are to be printed for what was read, and for a line that may be broken
abbrev pub text_owed : Stage → ℕ
text_owed Waiting = head_bytes
text_owed (Collecting r got) = head_bytes + position_bytes * got + head_bytes
text_owed (Stopped reason) = 0

-- of a request that is not answered some price is missing, and all fit the series
abbrev pub Incomplete : Stage → Type 0
Incomplete Waiting = Unit {0}
Incomplete (Collecting r got) = (got < r.bars) × (r.bars ≤ most_bars)
Incomplete (Stopped reason) = Unit {0}

-- the step that is still to be made: a request that has all its prices is to be answered
abbrev pub answer_if_complete : Stage → Counts → List Float → Step
answer_if_complete Waiting counts series = quiet (waiting counts)
answer_if_complete (Collecting r got) counts series = with_prices counts r (take got series)
answer_if_complete (Stopped reason) counts series = quiet (stopped counts reason)

-- of a request that may have all its prices no more were read than it has bars, and all fit the series
abbrev pub PricesFit : Stage → Type 0
PricesFit Waiting = Unit {0}
PricesFit (Collecting r got) = (got ≤ r.bars) × (r.bars ≤ most_bars)
PricesFit (Stopped reason) = Unit {0}

-- a step, and what comes after it
abbrev pub finally : Step → List (List ℕ) → Outcome
finally t rest = printing t.prints (outcome t.state rest)

-- The step t is made: r stands for its state, and its bytes are printed.
pub record Stepped (t : Step) (series : List Float) (at filled : ℕ) (r : Place) (old now : List ℕ) : Type 0 where
  pub state : state_of r.sheet.stage r.sheet.counts series ≡ t.state
  pub text : Adds filled t.prints r.filled old now
  pub place : r.at ≡ at

-- The step t is made, and what it printed and what is still to be printed has room.
pub record SteppedInRoom (t : Step) (series : List Float) (at filled : ℕ) (r : Place) (old now : List ℕ)
    (room : ℕ) : Type 0 where
  pub made : Stepped t series at filled r old now
  pub incomplete : Incomplete r.sheet.stage
  pub few : r.filled + text_owed r.sheet.stage ≤ room

-- the step that prices come to: the request with all that were read, or the refusal of a line
abbrev pub run_step : Counts → Request → List Float → Option Reason → Step
run_step counts r prices None = with_prices counts r prices
run_step counts r prices (Some reason) = broken counts reason

-- The lines from `at` on are read as prices of the request, of which
-- there were `got`, up to where the run ends; or one of them is broken.
pub record PricesRead (block : List ℕ) (at : ℕ) (r : Request) (got : ℕ) (old : List Float) (run : Run)
    (now : List Float) : Type 0 where
  pub same : (counts : Counts) (more : List ℕ)
      → outcome (collecting counts r (take got old)) (lines (drop at block ++ more))
      ≡ finally (run_step (after_lines (run.got - got) counts) r (take run.got now) run.broken)
      (lines (drop run.at block ++ more))
  pub pace : run.at ≡ at + price_bytes * (run.got - got)
  pub some : got ≤ run.got
  pub forth : run.broken ≡ None → got < run.got
  pub there : (reason : Reason) → run.broken ≡ Some reason → run.at + price_bytes ≤ length block
  pub most : run.got ≤ r.bars
  pub within : run.at ≤ length block
  pub long : length now ≡ length old
