-- The outer lines of bands and channels: k widths above a middle line and k below it, bar by bar. Assumes nothing.
use Rattle.std.specs.Prelude.{Float}
use Rattle.cells.specs.Line.{Line}
use Rattle.deviations.specs.Deviation.{upper_band, lower_band}

unfoldable pub upper_line : Float → Line → Line → Line
upper_line k middle width i = upper_band k (middle i) (width i)

unfoldable pub lower_line : Float → Line → Line → Line
lower_line k middle width i = lower_band k (middle i) (width i)
