-- `refuse_desk` meets its contract: the line has the refusal 15, and no count changes. Assumes nothing.
use mathlib.Core.Path.{refl}
use Rattle.sheet_requests.proofs.answers.refuse_desk.Goals as goal

pub returns : goal.returns
returns c = (
  λ series prices.
      rw c.requires.0
      (record { state = refl; text = c.print_head.ensures; place = refl }),
  refl,
  refl,
)
