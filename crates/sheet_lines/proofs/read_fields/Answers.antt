-- `read_fields` meets its contract: each field is read from its own columns. Assumes nothing.
use Rattle.cells.proofs.Kept.{take_drop}
use Rattle.sheet_lines.proofs.read_fields.Goals as goal

pub returns : goal.returns
returns c =
    let line = c.args.line.now in
    rw (
      c.read_field.ensures,
      c.read_field-2.ensures,
      c.read_field-3.ensures,
      c.read_field-4.ensures,
      c.read_field-5.ensures,
      take_drop 4 4 line,
      take_drop 8 6 line,
      take_drop 14 6 line,
      take_drop 20 6 line,
    )
