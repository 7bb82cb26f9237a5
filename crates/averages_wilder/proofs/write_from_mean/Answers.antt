-- `write_from_mean` meets its contract: the first average is written, and each turn takes a step and writes the next
-- one. Assumes nothing.
use mathlib.Core.Path.{◌≡◌, refl, ◌∙◌}
use Prim.Native.Nat.{◌+◌, ◌-◌}
use native.Mathlib.Omega.{arith}
use Rattle.cells.proofs.Written.{one_more, step}
use Rattle.averages_wilder.proofs.Stages.{next_of}
use Rattle.averages_wilder.proofs.write_from_mean.Goals as goal

pub loop-i-init : goal.loop-i-init
loop-i-init c =
    let mean = c.first_mean-last.ensures in
    (mean, step (c.args.n - 1) c.args.n c.requires.writing mean (omega arith))

pub loop-i-preserved : goal.loop-i-preserved
loop-i-preserved c =
    let at = c.loop-i in
    let back : at.i + 1 - 1 ≡ at.i = omega arith in
    let last = c.step-last.ensures ∙ next_of _ _ _ at.i at.invariant.0 refl (omega arith) in
    (rw back last, one_more at.invariant.1 last (omega arith))
