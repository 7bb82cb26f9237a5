-- What reading a block to its end promises, and what holds between two blocks. Assumes nothing.
use Rattle.std.specs.Prelude.{◌≡◌, List, ◌++◌, ℕ, ◌-◌, ◌<◌, true, length, drop, Float}
use Rattle.sheet_lines.specs.Reason.{no_feed}
use Rattle.sheet_requests.specs.declared.blocks.Sheet.{Sheet}
use Rattle.sheet_requests.specs.declared.blocks.Place.{Place}
use Rattle.sheet_requests.specs.Sheet.{lines, outcome}
use Rattle.sheet_requests.specs.inner.Place.{state_of, next_line_bytes, Incomplete}
use Rattle.sheet_requests.specs.inner.Taken.{Placed, total}

-- A block was read up to where too few bytes for a line are left, and no line feed among them.
pub record Fed (sheet : Sheet) (block : List ℕ) (series : List Float) (q : Place) (series' : List Float)
    (text : List ℕ) : Type 0 where
  pub same : (more : List ℕ)
      → outcome (state_of sheet.stage sheet.counts series) (lines (block ++ more))
      ≡ total block q series' text more
  pub placed : Placed block q
  pub few : length block - q.at < next_line_bytes q.sheet.stage
  pub unended : no_feed (drop q.at block) ≡ true

-- What holds between two blocks: `kept` bytes are left, too few for the next line.
pub record Between (sheet : Sheet) (kept : ℕ) : Type 0 where
  pub incomplete : Incomplete sheet.stage
  pub few : kept < next_line_bytes sheet.stage
