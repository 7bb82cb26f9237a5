-- `changes_differ` meets its contract: the loop ends at the first change that differs. Assumes nothing.
use mathlib.Core.Path.{sym, ◌∙◌}
use mathlib.Core.Bool.{not}
use native.Mathlib.Omega.{arith}
use Rattle.values.proofs.All.{and_parts}
use Rattle.jurik.proofs.Fused.{differing_found}
use Rattle.jurik.proofs.changes_differ.Goals as goal

pub returns-then-is_nan-differing : goal.returns-then-is_nan-differing
returns-then-is_nan-differing c e =
    let both = and_parts (not c.is_nan.result) c.differing.result c.if-is_nan-differing.true in
    let number = rw c.is_nan.ensures.value at both.0 in
    differing_found _ _ _ c.price_change_at-first.ensures c.price_change_at.ensures
    number (sym c.differing.ensures ∙ both.1) (omega arith)
