-- `next` meets its contract: each average blends its last cell with the bar's own gain or loss. Assumes nothing.
use mathlib.Core.Path.{◌≡◌, refl, ◌∙◌}
use native.Mathlib.Omega.{arith}
use borrow.Author.Rules.{rules}
use Rattle.cells.specs.Line.{line}
use Rattle.averages.specs.Blend.{blend}
use Rattle.changes.specs.Changes.{gain, loss, gains, losses}
use Rattle.changes.proofs.Bars.{gain_is, loss_is}
use Rattle.rsx.proofs.Stages.{next_of}
use Rattle.rsx.proofs.next.Goals as goal

pub returns : goal.returns
returns c =
    let a = c.args in
    let f = line a.close.now in
    let last = c.requires.averaged in
    let change = c.change_at-change.result in
    let up : c.moved.result.gain ≡ blend a.alpha a.last.gain (gain change) = search rules in
    let down : c.moved.result.loss ≡ blend a.alpha a.last.loss (loss change) = search rules in
    record {
      gain =
          let own = gain_is _ _ c.change_at-change.ensures refl in
          up ∙ next_of a.alpha a.i (gains f) last.gain own (omega arith);
      loss =
          let own = loss_is _ _ c.change_at-change.ensures refl in
          down ∙ next_of a.alpha a.i (losses f) last.loss own (omega arith);
    }
