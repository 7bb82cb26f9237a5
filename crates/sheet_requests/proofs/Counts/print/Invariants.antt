-- `print` meets its contract: each turn prints the line of one desk more. Assumes nothing.
use Prim.Native.Nat.{◌-◌}
use lib.ListN.{get_or}
use Rattle.sheet_requests.proofs.Desks.{Printed}
use Rattle.sheet_requests.proofs.Counts.print.Given as goal

abbrev pub invariant-loop-i : goal.invariant-loop-i
invariant-loop-i l = Printed l.at l.i (λ d. get_or l.self.refused (d - 1) 0) l.initial.text l.text
