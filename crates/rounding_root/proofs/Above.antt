-- A float above zero is a number. Assumes nothing.
use mathlib.Core.Path.{◌≡◌}
use mathlib.Core.Bool.{true, false, not, false≢true}
use lib.IntN.{pos}
use lib.Dec.{T}
use lib.Ieee.{Float, nan, inf, fin, lt, is_nan}

abbrev pub Above : Float → Type 0
Above x = lt (fin false 0 (pos 0)) x ≡ true

pub above_is_number : (x : Float) → Above x → T (not (is_nan x))
unfolding lt is_nan
above_is_number nan h = absurd (false≢true h)
above_is_number (inf s) h = tt
above_is_number (fin s m e) h = tt
