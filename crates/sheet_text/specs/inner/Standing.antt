-- How much of the sheet stands in the output. Assumes nothing.
use Rattle.std.specs.Prelude.{◌≡◌, true, List, ◌++◌, ℕ, ◌+◌, ◌-◌, ◌<◌, ◌≤◌, length, drop, get_or, Float}
use Rattle.cells.specs.Written.{Writing}
use Rattle.sheet_lines.specs.Reason.{no_feed}
use Rattle.sheet_requests.specs.declared.blocks.Place.{Place}
use Rattle.sheet_requests.specs.inner.Place.{state_of, next_line_bytes, Incomplete}
use Rattle.sheet_requests.specs.inner.Taken.{text_room}
use Rattle.sheet_requests.specs.Sheet.{lines, outcome, sheet}
use Rattle.sheet_text.specs.SheetText.{bytes_of}

-- the most bytes that are fed at once, and the bytes that they may print; src/lib.rt has constants of the same numbers
abbrev pub part_bytes : ℕ
part_bytes = 4096

abbrev pub text_bytes : ℕ
text_bytes = part_bytes + text_room

-- The first `count` bytes of the text follow what is written below `at`.
pub record Copied (text : List ℕ) (count at : ℕ) (old now : List ℕ) : Type 0 where
  pub is : (f : ℕ → ℕ) (first : List ℕ) → Writing at f first old
      → ((i : ℕ) → i < count → get_or text i 0 ≡ f (at + i)) → Writing (at + count) f first now

-- What is printed of the input before the place stands in the output,
-- and what the state at the place prints for the rest of the input follows it.
pub record Standing (input old : List ℕ) (p : Place) (series : List Float) (out : List ℕ) : Type 0 where
  pub done : List ℕ
  pub same : sheet input
      ≡ done ++ (outcome (state_of p.sheet.stage p.sheet.counts series) (lines (drop p.at input))).text
  pub long : length done ≡ p.filled
  pub within : p.at ≤ length input
  pub incomplete : Incomplete p.sheet.stage
  pub written : Writing p.filled (bytes_of (sheet input)) old out

-- The input was fed from p up to `end`, to where too few bytes for a line are left, and no line feed among them.
pub record Parted (input old : List ℕ) (p : Place) (end : ℕ) (q : Place) (series : List Float)
    (out : List ℕ) : Type 0 where
  pub standing : Standing input old q series out
  pub more : p.filled ≤ q.filled
  pub upto : q.at ≤ end
  pub few : end - q.at < next_line_bytes q.sheet.stage
  pub unended : end ≡ length input → no_feed (drop q.at input) ≡ true
