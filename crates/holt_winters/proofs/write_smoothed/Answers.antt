-- `write_smoothed` meets its contract: the first season, and then the later bars. Assumes nothing.
use native.Mathlib.Omega.{arith}
use Rattle.holt_winters.proofs.Stages.{first_stands, both_stages}
use borrow.Author.Rules.{rules}
use Rattle.holt_winters.proofs.write_smoothed.Goals as goal

pub write_later-requires : goal.write_later-requires
write_later-requires c =
    let done = c.write_first.ensures in
    (record { season_room = search rules; average_value = (c.mean_at-average.ensures, first_stands done) })

pub returns : goal.returns
returns c = both_stages _ _ _ c.write_first.ensures c.write_later.ensures (omega arith)
