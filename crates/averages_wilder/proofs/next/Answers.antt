-- `next` meets its contract: each average takes one step, with the bar's own gain or loss. Assumes nothing.
use mathlib.Core.Path.{◌≡◌, refl, ◌∙◌}
use native.Mathlib.Omega.{arith}
use borrow.Author.Rules.{rules}
use Rattle.changes.specs.Changes.{gain, loss}
use Rattle.changes.proofs.Bars.{gain_is, loss_is}
use Rattle.averages_wilder.specs.Wilder.{wilder_step}
use Rattle.averages_wilder.proofs.Stages.{next_of}
use Rattle.averages_wilder.proofs.next.Goals as goal

pub returns : goal.returns
returns c =
    let a = c.args in
    let last = c.requires.averaged in
    let change = c.change_at-change.result in
    let up : c.moved.result.gain ≡ wilder_step a.n a.last.gain (gain change) = search rules in
    let down : c.moved.result.loss ≡ wilder_step a.n a.last.loss (loss change) = search rules in
    record {
      gain =
          let own = gain_is _ _ c.change_at-change.ensures refl in
          up ∙ next_of _ _ _ _ last.gain own (omega arith);
      loss =
          let own = loss_is _ _ c.change_at-change.ensures refl in
          down ∙ next_of _ _ _ _ last.loss own (omega arith);
    }
