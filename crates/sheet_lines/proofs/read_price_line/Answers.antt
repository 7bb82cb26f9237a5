-- `read_price_line` meets its contract: the line feed decides, and then the columns before it. Assumes nothing.
use mathlib.Core.Path.{sym, ◌∙◌}
use lib.ListN.{take}
use Rattle.sheet_lines.specs.Header.{read_price_line}
use Rattle.sheet_lines.proofs.LineLength.{fed_of, unfed_of, no_end, feed_within, all_columns}
use Rattle.sheet_lines.proofs.Fed.{priced_unfed}
use Rattle.sheet_lines.proofs.read_price_line.Goals as goal

pub returns-then-line-ne10 : goal.returns-then-line-ne10
unfolding read_price_line
returns-then-line-ne10 c = sym (no_end c.args.line.now 12 _ c.requires c.if-line-ne10.true)

pub returns-in-Some : goal.returns-in-Some
unfolding read_price_line
returns-in-Some c =
    let line = c.args.line.now in
    let priced = sym c.read_price.ensures ∙ c.in-Some.is in
    rw (all_columns line 12 _ c.requires (priced_unfed (take 12 line) _ priced) c.if-line-ne10.false, priced)

pub returns-in-None : goal.returns-in-None
unfolding read_price_line
returns-in-None c =
    sym (feed_within c.args.line.now 12 _ c.requires (fed_of _ _ c.has_feed.ensures c.if-has_feed.true))

pub returns-in-None-2 : goal.returns-in-None-2
unfolding read_price_line
returns-in-None-2 c =
    let unpriced = sym c.read_price.ensures ∙ c.in-None.is in
    rw (
      all_columns c.args.line.now 12 _ c.requires (unfed_of _ _ c.has_feed.ensures c.if-has_feed.false)
          c.if-line-ne10.false,
      unpriced,
    )
