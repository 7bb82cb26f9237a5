-- From the lines that were read to what holds of the whole output. Assumes nothing.
use mathlib.Core.Path.{◌≡◌, ◌∙◌}
use mathlib.Core.List.{List, ◌++◌, append_assoc}
use Prim.Native.Nat.{ℕ, ◌+◌, ◌<◌, ◌≤◌}
use native.Mathlib.Omega.{arith}
use lib.ListN.{length, drop}
use lib.Ieee.{Float}
use Rattle.sheet_requests.specs.declared.blocks.Place.{Place}
use Rattle.sheet_requests.specs.declared.blocks.Stage.{Stage}
use Rattle.sheet_requests.specs.declared.blocks.Stage.TheVariants.{Stopped}
use Rattle.sheet_lines.specs.Printed.{head_bytes}
use Rattle.sheet_lines.specs.declared.reasons.Reason.{Reason}
use Rattle.sheet_requests.specs.declared.Counts.{Counts}
use Rattle.sheet_requests.specs.Sheet.{Step, quiet, broken, lines, outcome}
use Rattle.sheet_requests.specs.inner.Place.{state_of, answer_if_complete, finally, Stepped}
use Rattle.sheet_requests.specs.inner.Taken.{text_room, Taken}
use Rattle.sheet_requests.proofs.Lines.{finally_broken}

-- The lines from p on come to the step t and the lines from `at` on.
abbrev pub Comes : List ℕ → Place → List Float → Step → ℕ → Type 0
Comes block p series t at =
    (more : List ℕ) → outcome (state_of p.sheet.stage p.sheet.counts series) (lines (drop p.at block ++ more))
    ≡ finally t (lines (drop at block ++ more))

-- where nothing is read any more, no step is to be made
none_to_answer : (stage : Stage) (counts : Counts) (series : List Float) {reason : Reason} → stage ≡ Stopped reason
    → answer_if_complete stage counts series ≡ quiet (state_of stage counts series)
none_to_answer stage counts series e = rw e

module _ {block : List ℕ} {p q : Place} {series series' : List Float} {text text' : List ℕ} where
  -- a broken line was met, and the rest of the block is passed
  pub stops : (at : ℕ) (counts : Counts) (reason : Reason)
      → ((series : List Float)
      → Stepped (broken counts reason) series (length block) p.filled q text text')
      × (q.sheet.stage ≡ Stopped reason)
      × (q.filled ≡ p.filled + head_bytes)
      → Comes block p series (broken counts reason) at
      → (p.at < length block) × (p.filled + head_bytes ≤ length block + text_room)
      → Taken block p series text q series' text'
  stops at counts reason (made, stage, filled) comes (forth, room) =
      let made' = made series' in
      let at_end = made'.place in
      record {
        same = λ more. rw (
          comes more
              ∙ finally_broken counts reason (lines (drop at block ++ more)) (lines (drop q.at block ++ more)),
          none_to_answer q.sheet.stage q.sheet.counts series' stage,
          made'.state,
          made'.text.text,
          append_assoc,
        );
        fits = rw stage tt;
        within = omega arith;
        room = rw stage (omega arith);
        forth = omega arith;
      }
