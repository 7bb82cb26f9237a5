-- The two states that read a line break where it is not clean. Assumes nothing.
use mathlib.Core.List.{List}
use lib.Ieee.{Float}
use Rattle.sheet_lines.specs.declared.Request.{Request}
use Rattle.sheet_lines.specs.Header.{read_header, read_price_line}
use Rattle.sheet_requests.specs.declared.Counts.{Counts}
use Rattle.sheet_requests.specs.Sheet.{waiting, collecting}
use Rattle.sheet_requests.proofs.Lines.{Reader}

pub header_reader : (counts : Counts) → Reader (waiting counts) 26 counts
unfolding read_header
header_reader counts = record { breaks = λ line e. rw e }

pub price_reader : (counts : Counts) (r : Request) (prices : List Float) → Reader (collecting counts r prices) 12 counts
unfolding read_price_line
price_reader counts r prices = record { breaks = λ line e. rw e }
