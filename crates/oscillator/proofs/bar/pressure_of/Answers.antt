-- `pressure_of` meets its contract: the smaller is told as the definition does. Assumes nothing.
use Rattle.oscillator.specs.Oscillator.{pressure}
use Rattle.oscillator.proofs.bar.pressure_of.Goals as goal

pub returns-then-last-low : goal.returns-then-last-low
unfolding pressure
returns-then-last-low c = rw (← c.last_close-last.ensures, c.if-last-low.true)

pub returns-else-last-low : goal.returns-else-last-low
unfolding pressure
returns-else-last-low c = rw (← c.last_close-last.ensures, c.if-last-low.false)
