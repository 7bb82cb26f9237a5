-- Changes from bar to bar, their gains and losses, and the relative strength index that is made of averages of them.
-- Assumes nothing.
use Rattle.std.specs.Prelude.{cond, zero, suc, Float}
use Rattle.std.specs.Float.{binary64}
use Rattle.std.specs.Float.Ieee.{neg, add, sub, div, lt, eq}
use Rattle.cells.specs.Line.{Line, plus_zero}
use Rattle.rounding.specs.Leaves.{plus_one}
use Rattle.rounding.specs.Literals.{hundred}

-- the cell of the bar before; d at bar 0, which has none
unfoldable pub earlier : Float → Line → Line
earlier d f zero = d
earlier d f (suc i) = f i

-- the value less that of the bar before; d at bar 0
unfoldable pub change : Float → Line → Line
change d f zero = d
change d f (suc i) = sub binary64 (f (suc i)) (f i)

-- a change where it is above 0, else 0.0; and the size of one below 0, else 0.0
abbrev pub gain : Float → Float
gain x = cond (lt plus_zero x) x plus_zero

abbrev pub loss : Float → Float
loss x = gain (neg x)

-- the gains of a line, bar by bar, and its losses: 0.0 at bar 0
unfoldable pub gains : Line → Line
gains f i = gain (change plus_zero f i)

unfoldable pub losses : Line → Line
losses f i = loss (change plus_zero f i)

-- 100 - 100 / (1 + up / down)
abbrev pub rsi_formula : Float → Float → Float
rsi_formula up down = sub binary64 hundred (div binary64 hundred (add binary64 plus_one (div binary64 up down)))

-- of an average gain and an average loss, and 100 where that loss is 0
unfoldable pub rsi : Float → Float → Float
rsi up down = cond (eq down plus_zero) hundred (rsi_formula up down)
