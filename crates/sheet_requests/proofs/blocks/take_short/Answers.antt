-- `take_short` meets its contract: a line feed among too few bytes breaks the line. Assumes nothing.
use native.Mathlib.Omega.{arith}
use mathlib.Core.List.{[]}
use lib.ListN.{length, drop, length-drop}
use Rattle.sheet_lines.specs.declared.reasons.Reason.TheVariants.{LineLength}
use Rattle.sheet_requests.proofs.Short.{fed_some, short_breaks, short_text_owed}
use Rattle.sheet_requests.proofs.Steps.{stops}
use Rattle.sheet_requests.proofs.blocks.take_short.Goals as goal

pub stop-requires : goal.stop-requires
stop-requires c =
    let (few, fed, placed, room) = c.requires in
    let rest = drop c.args.place.at c.args.block.now in
    let long = length-drop c.args.place.at c.args.block.now in
    let owed = short_text_owed c.args.place.sheet.stage rest (rw (← long) at few) fed in
    omega (arith, owed, placed.room, placed.within)

pub returns : goal.returns
returns c =
    let (few, fed, placed, room) = c.requires in
    let place = c.args.place in
    let block = c.args.block.now in
    let rest = drop place.at block in
    let long = length-drop place.at block in
    let short = rw (← long) at few in
    let owed = short_text_owed place.sheet.stage rest short fed in
    let made = c.stop.ensures in (
      λ series.
          stops (length block) place.sheet.counts LineLength made
          (λ more. short_breaks place.sheet.stage place.sheet.counts series rest more _ short fed)
          (omega (arith, fed_some rest fed, placed.within, owed, placed.room)),
      made.1,
      (made.0 []).place,
    )
