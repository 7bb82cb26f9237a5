-- `sum_lead` meets its contract: each turn adds a tick, which an i64 holds, and writes a 0. Assumes nothing.
use lib.IntN.{pos}
use Rattle.cells.specs.Written.{Writing}
use Rattle.averages_ticks.specs.inner.Ticks.{TickSum}
use Rattle.averages_ticks.proofs.sum_lead.Given as goal

abbrev pub invariant-loop-i : goal.invariant-loop-i
invariant-loop-i l = Writing l.i (λ j. pos 0) l.initial.out l.out
    × TickSum l.series 0 l.i l.sum
