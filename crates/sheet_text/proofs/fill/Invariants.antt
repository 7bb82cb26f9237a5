-- `fill` meets its contract: the parts go onward, and what is printed last ends the sheet. Assumes nothing.
use mathlib.Core.Path.{◌≡◌}
use Prim.Native.Nat.{◌-◌}
use lib.ListN.{length}
use Rattle.sheet_requests.specs.inner.Lent.{Lent}
use Rattle.sheet_text.specs.inner.Standing.{text_bytes, Standing}
use Rattle.sheet_text.proofs.fill.Given as goal

abbrev pub invariant-loop-place : goal.invariant-loop-place
invariant-loop-place l =
    Standing l.input l.initial.out l.place l.series l.out × Lent l.series l.cells l.work × (length l.text ≡ text_bytes)

abbrev pub decreases-loop-place : goal.decreases-loop-place
decreases-loop-place l = length l.input - l.place.at
