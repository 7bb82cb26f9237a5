-- The contract of the sheet over lent slices. Assumes nothing.
use Rattle.std.specs.Prelude.{List, ℕ, ◌+◌, leb, length, get_or, Ok}
use Rattle.calls.specs.Answer.{Answer, unless}
use Rattle.calls.specs.declared.Refusal.TheVariants.{OutputTooShort}
use Rattle.calls.specs.Call.{Call}
use Rattle.sheet_lines.specs.Printed.{head_bytes}
use Rattle.sheet_requests.specs.Counts.{closing_bytes}
use Rattle.sheet_requests.specs.Sheet.{sheet}

-- The bytes of output that any input may need beyond one for each of its own: the refusal of
-- a broken line, and what is printed last. src/lib.rt has a constant of the same number.
abbrev pub sheet_room : ℕ
sheet_room = head_bytes + closing_bytes

-- the bytes of a text, by place
abbrev pub bytes_of : List ℕ → ℕ → ℕ
bytes_of text i = get_or text i 0

-- refusal 3 where the output is short, and else as many bytes as the sheet has
abbrev pub sheet_answer : List ℕ → ℕ → Answer
sheet_answer input room = unless (leb (length input + sheet_room) room) OutputTooShort (Ok (length (sheet input)))

-- The first bytes of the output are the sheet of the input, all of it; later bytes stay.
abbrev pub SheetCall : List ℕ → List ℕ → Answer → List ℕ → Type 0
SheetCall input out₀ r out₁ = Call (sheet_answer input (length out₀)) (bytes_of (sheet input)) out₀ r out₁
