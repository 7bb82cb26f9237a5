-- `count_passing` meets its contract: the loop counts the cells one by one. Assumes nothing.
use mathlib.Core.Path.{◌≡◌, refl, ◌∙◌, ap}
use mathlib.Core.Bool.{Bool, true, false, cond}
use Prim.Native.Nat.{◌≤◌}
use native.Mathlib.Nat.{zero-add}
use native.Mathlib.Omega.{arith}
use Rattle.std.specs.Int.{from_bool}
use Rattle.ranks.proofs.Counted.{none_counted, one_counted}
use Rattle.ranks.proofs.count_passing.Goals as goal

number : (t : Bool) → from_bool t ≡ cond t 1 0
number true = refl
number false = refl

few : (t : Bool) → from_bool t ≤ 1
few true = omega arith
few false = omega arith

pub loop-x-init : goal.loop-x-init
loop-x-init g c = (omega arith, λ test answers. none_counted)

pub loop-x-preserved : goal.loop-x-preserved
loop-x-preserved g c =
    let one = c.from-passed in (
      omega (arith, one.ensures, few c.passes.result),
      λ test answers. one_counted (c.loop-x.invariant.1 test answers)
          (rw zero-add (one.ensures ∙ number c.passes.result
          ∙ ap (λ t. cond t 1 0) (answers.as_test _ _ c.passes.ensures))),
    )
