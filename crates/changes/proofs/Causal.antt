-- Changes, gains and losses have no look-ahead. Assumes nothing.
use mathlib.Core.Path.{refl}
use Prim.Native.Nat.{zero, suc}
use native.Mathlib.Omega.{arith}
use lib.Ieee.{Float}
use Rattle.cells.specs.Line.{plus_zero, Causal}
use Rattle.changes.specs.Changes.{change, gains, losses}

pub causal_change : (d : Float) → Causal (change d)
unfolding change
causal_change d f g zero s = refl
causal_change d f g (suc i) s = rw (s (suc i) (omega arith), s i (omega arith))

pub causal_gains : Causal gains
unfolding gains
causal_gains f g b s = rw (causal_change plus_zero f g b s)

pub causal_losses : Causal losses
unfolding losses
causal_losses f g b s = rw (causal_change plus_zero f g b s)
