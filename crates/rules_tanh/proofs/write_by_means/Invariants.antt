-- `write_by_means` meets its contract: the lead, and a few bars with each turn. Assumes nothing.
use Prim.Native.Nat.{◌-◌, ◌*◌, ◌≤◌, min}
use lib.ListN.{length}
use Rattle.cells.specs.Line.{line}
use Rattle.cells.specs.Written.{Writing}
use Rattle.rules_tanh.specs.Tanh.{tanh_of_means}
use Rattle.rules_tanh.proofs.write_by_means.Given as goal

abbrev pub invariant-loop-i : goal.invariant-loop-i
invariant-loop-i l =
    (min (2 * l.n - 2) (length l.means) ≤ l.i) × (l.i ≤ length l.means)
    × Writing l.i (tanh_of_means l.n (line l.means)) l.initial.out l.out

abbrev pub decreases-loop-i : goal.decreases-loop-i
decreases-loop-i l = length l.means - l.i
