-- How far a run has come, what is printed last, and the numbers with which it ends. Assumes nothing.
use Rattle.std.specs.Prelude.{Bool, true, false, ◌≡◌, List, [], ◌++◌, ℕ, Option, Some, None}
use Rattle.sheet_lines.specs.Reason.{reason_number}
use Rattle.sheet_requests.specs.declared.status.Status.{Status}
use Rattle.sheet_requests.specs.declared.status.Status.TheVariants.{Reading, Done, ReadFailed, WriteFailed}
use Rattle.sheet_requests.specs.declared.status.Fault.{Fault}
use Rattle.sheet_requests.specs.declared.status.End.{End}
use Rattle.sheet_requests.specs.Sheet.{State, printing, lines, outcome, whole}

-- whether more is to be read
abbrev pub goes_on : Status → Bool
goes_on Reading = true
goes_on Done = false
goes_on ReadFailed = false
goes_on WriteFailed = false

-- a run that failed has status 1
abbrev pub failed_end : End
failed_end = record { status = 1; reason = 0; line = 0 }

-- The numbers with which a run ends: status 0 only where all was read and written and no line broke its columns, and 3
-- where one did.
abbrev pub end_of : Status → Option Fault → End
end_of Done None = record { status = 0; reason = 0; line = 0 }
end_of Done (Some fault) = record { status = 3; reason = reason_number fault.reason; line = fault.line }
end_of Reading fault = failed_end
end_of ReadFailed fault = failed_end
end_of WriteFailed fault = failed_end

-- `input` was read and `out` written: whatever may follow the input, the whole is `out`
-- and then what the state makes of the bytes kept and of what follows.
pub record Reached (input out : List ℕ) (state : State) (kept : List ℕ) : Type 0 where
  pub same : (more : List ℕ) → whole (input ++ more) ≡ printing out (outcome state (lines (kept ++ more)))

-- What is printed last, after the bytes `kept`: the end of the sheet
-- where all was read, and nothing after a failed read or write.
abbrev pub last : Status → State → List ℕ → List ℕ
last Done state kept = (outcome state (lines kept)).text
last Reading state kept = []
last ReadFailed state kept = []
last WriteFailed state kept = []
