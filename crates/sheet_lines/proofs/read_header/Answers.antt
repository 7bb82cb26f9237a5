-- `read_header` meets its contract: the line feed decides, and the fields make the request. Assumes nothing.
use mathlib.Core.Path.{sym}
use native.Mathlib.Omega.{arith}
use lib.Seq.{length-take-le}
use Rattle.sheet_lines.specs.Header.{read_header}
use Rattle.sheet_lines.proofs.LineLength.{fed_of, unfed_of, no_end, feed_within, all_columns}
use Rattle.sheet_lines.proofs.read_header.Goals as goal
use Rattle.sheet_lines.proofs.read_header.Goals.{
  then-line-ne10-via-then-line-ne10,
  then-line-ne10-via-else-line-ne10+then-has_feed,
}

pub slice_bounds-has_feed-end : goal.slice_bounds-has_feed-end
slice_bounds-has_feed-end c = sym (length-take-le 26 c.args.line.now (omega arith))

pub returns-then-line-ne10 : goal.returns-then-line-ne10
unfolding read_header
returns-then-line-ne10 c =
    elim c.then-line-ne10.branch [
      | then-line-ne10-via-then-line-ne10 w ↦ sym (no_end c.args.line.now 26 _ c.requires w.if-line-ne10.true)
      | then-line-ne10-via-else-line-ne10+then-has_feed w ↦
          sym (feed_within c.args.line.now 26 _ c.requires (fed_of _ _ w.has_feed.ensures w.if-has_feed.true))
    ]

pub returns : goal.returns
unfolding read_header
returns c =
    rw (
      all_columns c.args.line.now 26 _ c.requires (unfed_of _ _ c.has_feed.ensures c.if-has_feed.false)
          c.if-line-ne10.false,
      ← c.read_fields.ensures,
    )
    c.request_of.ensures
