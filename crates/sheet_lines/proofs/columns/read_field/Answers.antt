-- `read_field` meets its contract: the digits start after the blanks. Assumes nothing.
use native.Mathlib.Omega.{arith}
use Rattle.sheet_lines.specs.Read.{read_field}
use Rattle.sheet_lines.proofs.Reading.{unpadded_short}
use Rattle.sheet_lines.proofs.columns.read_field.Goals as goal

pub number-requires : goal.number-requires
number-requires c = rw c.unpadded.ensures (omega (arith, unpadded_short c.args.columns.now))

pub returns : goal.returns
returns c = unfold read_field in rw (c.number.ensures, c.unpadded.ensures)
