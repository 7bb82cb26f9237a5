-- `write_wilder_rsi` meets its contract: the lead, and then the cells from the seed on. Assumes nothing.
use native.Mathlib.Omega.{arith}
use borrow.Author.Rules.{rules}
use Rattle.averages_wilder.proofs.Indexed.{lead_indexed, then_indexed, only_indexed}
use Rattle.averages_wilder.proofs.write_wilder_rsi.Goals as goal

pub write_from_seed-requires : goal.write_from_seed-requires
write_from_seed-requires c =
    let s = c.args.series.now in
    (record {
      room = search rules;
      indexed = lead_indexed s c.fill_nan-first.ensures c.clear_bars.ensures (omega arith);
    })

pub returns-then-first-bars : goal.returns-then-first-bars
returns-then-first-bars c =
    let s = c.args.series.now in
    then_indexed s c.fill_nan-first.ensures c.clear_bars.ensures c.write_from_seed.ensures

pub returns-else-first-bars : goal.returns-else-first-bars
returns-else-first-bars c =
    let s = c.args.series.now in
    only_indexed s c.fill_nan-first.ensures c.clear_bars.ensures (omega arith)
