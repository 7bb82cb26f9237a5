-- `write_means` meets its contract: the lead, the first mean, and the running means after it. Assumes nothing.
use native.Mathlib.Omega.{arith}
use Rattle.windows.proofs.Means.{led_means}
use Rattle.averages.specs.Sma.{sma_line}
use Rattle.averages.proofs.write_means.Goals as goal

pub returns : goal.returns
unfolding sma_line
returns c =
    led_means _ c.fill_nan.ensures c.requires.window c.requires.is c.slide_means.ensures
    (omega arith)
