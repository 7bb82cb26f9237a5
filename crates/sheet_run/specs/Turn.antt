-- What a turn of a run promises of the bytes in its buffers, and what the end of the run does: a
-- turn makes steps of the definition of a whole sheet. Assumes nothing.
use Rattle.std.specs.Prelude.{◌≡◌, true, List, ◌++◌, ℕ, ◌+◌, ◌-◌, ◌≤◌, length, take, Float}
use Rattle.std.proofs.Math.Seq.{slice}
use Rattle.sheet_lines.specs.Reason.{no_feed}
use Rattle.sheet_requests.specs.Sheet.{State, lines, printing, outcome}
use Rattle.sheet_requests.specs.Whole.{last}
use Rattle.sheet_requests.specs.inner.Place.{state_of}
use Rattle.sheet_text.specs.inner.Block.{Between}
use Rattle.sheet_run.specs.declared.carried.Carried.{Carried}
use Rattle.sheet_run.specs.declared.Closed.{Closed}
use Rattle.sheet_run.specs.inner.Buffers.{block_bytes}
use Rattle.sheet_run.specs.Run.{bytes_read, status_of}

-- the state of the definition that is carried, with the prices of a request in the series
abbrev pub state_after : Carried → List Float → State
state_after c series = state_of c.place.sheet.stage c.place.sheet.counts series

-- the bytes in the block that are not yet read as lines
abbrev pub unread : Carried → List ℕ → List ℕ
unread c block = slice c.place.at c.end block

-- What holds between two turns: the bytes that are unread lie in the block, and are too few for a line.
pub record Carrying (c : Carried) : Type 0 where
  pub between : Between c.place.sheet (c.end - c.place.at)
  pub some : c.place.at ≤ c.end
  pub within : c.end ≤ block_bytes

-- A turn from p to q.
pub record Turned (p : Carried) (block : List ℕ) (series : List Float) (q : Carried) (block' : List ℕ)
    (series' : List Float) (text : List ℕ) : Type 0 where
  -- the bytes that were unread stand at the front of the block, and so many came behind them
  pub kept : take (p.end - p.place.at) block' ≡ unread p block
  pub end : q.end ≡ p.end - p.place.at + bytes_read q.input
  -- Whatever follows these bytes, they come to the first bytes of the text, and then to what the unread ones and the
  -- bytes that follow come to. So the text is what the definition prints, and a line that broke is the definition's.
  pub steps : (more : List ℕ) → outcome (state_after p series) (lines (take q.end block' ++ more))
      ≡ printing (take q.place.filled text) (outcome (state_after q series') (lines (unread q block' ++ more)))
  -- no whole line is left unread
  pub unended : no_feed (unread q block') ≡ true
  -- the text is handed over to be written
  pub written : q.output.bytes ≡ q.place.filled
  pub carrying : Carrying q

-- The end of a run: what is printed last is handed over to be written, and where the input breaks is told. Both
-- are the definition's for any bytes that are left unread: too few for a line, and with no line feed.
pub record Closes (c : Carried) (r : Closed) (text : List ℕ) : Type 0 where
  pub prints : (series : List Float) (rest : List ℕ) → length rest ≡ c.end - c.place.at → no_feed rest ≡ true
      → take r.output.bytes text ≡ last (status_of c) (state_after c series) rest
  pub tells : (series : List Float) (rest : List ℕ) → length rest ≡ c.end - c.place.at → no_feed rest ≡ true
      → r.fault ≡ (outcome (state_after c series) (lines rest)).fault
