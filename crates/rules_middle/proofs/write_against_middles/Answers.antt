-- `write_against_middles` meets its contract: each turn reads a mean that still stands and its range, and writes the
-- bar's cell. Assumes nothing.
use mathlib.Core.Path.{refl, ◌∙◌}
use native.Mathlib.Omega.{arith}
use borrow.Author.Rules.{rules}
use lib.Ieee.{of_bits}
use Rattle.cells.specs.Line.{plus_zero}
use Rattle.cells.proofs.Carried.{from_same}
use Rattle.cells.proofs.Leads.{lead_stands, lead_then, not_yet}
use Rattle.cells.proofs.Written.{one_more, writing_same}
use Rattle.rules_middle.proofs.Positions.{position_at}
use Rattle.rules_middle.proofs.write_against_middles.Goals as goal

pub loop-i-init : goal.loop-i-init
loop-i-init c = unfold of_bits in search (rules, lead_stands)

pub loop-i-preserved : goal.loop-i-preserved
loop-i-preserved c =
    let mean_is = not_yet c.loop-i.i c.loop-i.invariant (omega arith) in
    one_more c.loop-i.invariant
    (c.against_middle.ensures ∙ position_at _ _ _ _ _ mean_is refl refl (omega arith)) (omega arith)

pub returns : goal.returns
returns c =
    let lead = c.fill_lead-first.ensures in
    writing_same (lead_then lead c.loop-i.invariant (omega arith))
    (λ i l. from_same _ plus_zero _ _ i (λ b. rw (not_yet i lead.lead (omega arith))))
