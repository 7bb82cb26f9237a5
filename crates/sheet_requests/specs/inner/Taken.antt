-- What reading lines of a block promises: nothing that is to be printed is lost. Assumes nothing.
use Rattle.std.specs.Prelude.{◌≡◌, List, ◌++◌, ℕ, ◌+◌, ◌*◌, ◌<◌, ◌≤◌, length, take, drop, Float}
use Rattle.sheet_requests.specs.declared.blocks.Place.{Place}
use Rattle.sheet_lines.specs.Header.{most_bars}
use Rattle.sheet_lines.specs.Printed.{head_bytes, position_bytes}
use Rattle.sheet_requests.specs.Sheet.{lines, Outcome, printing, outcome}
use Rattle.sheet_requests.specs.inner.Place.{state_of, text_owed, answer_if_complete, Incomplete, PricesFit, finally}

-- The room for text beyond a byte for each byte read: the longest answer, and the
-- refusal of a broken line. src/blocks.rt has a constant of the same number.
abbrev pub text_room : ℕ
text_room = head_bytes + position_bytes * most_bars + head_bytes

-- What holds between two lines: the place is in the block, and what is still to be printed has room.
pub record Placed (block : List ℕ) (p : Place) : Type 0 where
  pub incomplete : Incomplete p.sheet.stage
  pub within : p.at ≤ length block
  pub room : p.filled + text_owed p.sheet.stage ≤ p.at + text_room

-- all that it comes to: the text so far, and what comes of the rest of the block and of what follows it
abbrev pub total : List ℕ → Place → List Float → List ℕ → List ℕ → Outcome
total block p series text more =
    printing (take p.filled text)
    (outcome (state_of p.sheet.stage p.sheet.counts series) (lines (drop p.at block ++ more)))

-- Lines were read from p to q, and a request that now has all its prices is still to be
-- answered: with its answer all that it comes to is the same, whatever follows the block.
pub record Taken (block : List ℕ) (p : Place) (series : List Float) (text : List ℕ) (q : Place) (series' : List Float)
    (text' : List ℕ) : Type 0 where
  pub same : (more : List ℕ) → total block p series text more
      ≡ printing (take q.filled text')
      (finally (answer_if_complete q.sheet.stage q.sheet.counts series') (lines (drop q.at block ++ more)))
  pub fits : PricesFit q.sheet.stage
  pub within : q.at ≤ length block
  pub room : q.filled + text_owed q.sheet.stage ≤ q.at + text_room
  pub forth : p.at < q.at
