-- What ending the sheet promises. Assumes nothing.
use Rattle.std.specs.Prelude.{true, ◌≡◌, List, ℕ, ◌+◌, ◌≤◌, length, take, Float, Option}
use Rattle.sheet_requests.specs.declared.blocks.Sheet.{Sheet}
use Rattle.sheet_requests.specs.declared.status.Status.{Status}
use Rattle.sheet_requests.specs.declared.status.Fault.{Fault}
use Rattle.sheet_lines.specs.Printed.{head_bytes}
use Rattle.sheet_lines.specs.Reason.{no_feed}
use Rattle.sheet_requests.specs.Sheet.{lines, outcome}
use Rattle.sheet_requests.specs.Counts.{closing_bytes}
use Rattle.sheet_requests.specs.Whole.{last}
use Rattle.sheet_requests.specs.inner.Place.{state_of}

-- the bytes that are printed where the input ends inside a request; src/closing.rt has a constant of the same number
abbrev pub cut_bytes : ℕ
cut_bytes = head_bytes + closing_bytes

-- The first r bytes are all that is still to be printed, after `kept` bytes that are too few for a line and have no
-- line feed.
pub record Finished (status : Status) (sheet : Sheet) (kept r : ℕ) (text : List ℕ) : Type 0 where
  pub within : r ≤ length text
  pub is : (series : List Float) (rest : List ℕ) → length rest ≡ kept
      → no_feed rest ≡ true → take r text ≡ last status (state_of sheet.stage sheet.counts series) rest

-- The input breaks so, if it ends after `kept` bytes that are too few for a line.
pub record FaultAtEnd (sheet : Sheet) (kept : ℕ) (fault : Option Fault) : Type 0 where
  pub is : (series : List Float) (rest : List ℕ) → length rest ≡ kept → no_feed rest ≡ true
      → fault ≡ (outcome (state_of sheet.stage sheet.counts series) (lines rest)).fault
