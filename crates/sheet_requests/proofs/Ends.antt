-- What is printed where the input has ended, with too few bytes for a line left. Assumes nothing.
use mathlib.Core.Path.{◌≡◌, refl}
use mathlib.Core.Bool.{true}
use mathlib.Core.List.{List, [], ◌∷◌}
use Prim.Native.Nat.{ℕ, ◌<◌}
use native.Mathlib.Omega.{arith}
use lib.ListN.{length}
use lib.Ieee.{Float}
use Rattle.sheet_lines.specs.declared.Request.{Request}
use Rattle.sheet_lines.specs.declared.reasons.Reason.{Reason}
use Rattle.sheet_lines.specs.declared.reasons.Reason.TheVariants.{InputEnds}
use Rattle.sheet_lines.specs.Header.{header_bytes, price_bytes}
use Rattle.sheet_lines.specs.Reason.{no_feed}
use Rattle.std.proofs.Common.{Some, None}
use Rattle.sheet_requests.specs.declared.Counts.{Counts}
use Rattle.sheet_requests.specs.Counts.{after_lines}
use Rattle.sheet_requests.specs.Sheet.{
  State,
  waiting,
  collecting,
  stopped,
  broken,
  lines,
  Outcome,
  printing,
  closed,
  missing_line,
  ending,
  outcome,
}
use Rattle.sheet_requests.specs.declared.blocks.Sheet.{Sheet}
use Rattle.sheet_requests.specs.declared.status.Status.{Status}
use Rattle.sheet_requests.specs.Whole.{last}
use Rattle.sheet_requests.specs.inner.Finished.{Finished}
use Rattle.sheet_requests.proofs.Lines.{cut_line, outcome_stopped}
use Rattle.sheet_requests.proofs.Strict.{header_reader, price_reader}

-- the refusal 10 and what is printed last
abbrev pub cut : Counts → Outcome
cut counts =
    printing (broken counts InputEnds).prints
    (closed (after_lines 1 counts) (Some (missing_line counts)))

pub ends_waiting : (counts : Counts) (rest : List ℕ) → length rest ≡ 0
    → outcome (waiting counts) (lines rest) ≡ closed counts None
unfolding outcome lines ending
ends_waiting counts [] e = refl
ends_waiting counts (b ∷ rest) e = absurd (omega arith)

pub ends_stopped : (counts : Counts) (reason : Reason) (rest : List ℕ)
    → outcome (stopped counts reason) (lines rest)
    ≡ closed counts (Some (record { line = counts.lines; reason = reason }))
unfolding ending
ends_stopped counts reason rest = outcome_stopped counts reason (lines rest)

pub cut_waiting : (counts : Counts) (rest : List ℕ) → (length rest ≡ 0 → ⊥) → length rest < header_bytes
    → no_feed rest ≡ true → outcome (waiting counts) (lines rest) ≡ cut counts
unfolding outcome ending
cut_waiting counts [] e h n = absurd (e refl)
cut_waiting counts (b ∷ rest) e h n = cut_line (header_reader counts) b rest [] (omega arith) n

pub cut_collecting : (counts : Counts) (r : Request) (prices : List Float) (rest : List ℕ) → length rest < price_bytes
    → no_feed rest ≡ true → outcome (collecting counts r prices) (lines rest) ≡ cut counts
unfolding outcome lines ending
cut_collecting counts r prices [] h n = refl
cut_collecting counts r prices (b ∷ rest) h n = cut_line (price_reader counts r prices) b rest [] (omega arith) n

-- where nothing is printed last, no byte is
pub nothing_last : {status : Status} {sheet : Sheet} {kept : ℕ} {text : List ℕ}
    → ((state : State) (rest : List ℕ) → last status state rest ≡ [])
    → Finished status sheet kept 0 text
nothing_last h = record { within = omega arith; is = λ series rest e n. rw (h _ rest) }
