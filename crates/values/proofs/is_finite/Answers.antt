-- `is_finite` meets its contract: the library's definition is the same. Assumes nothing.
use Rattle.std.proofs.Common.{◌≡◌, refl, ◌∙◌}
use lib.Ieee.{Float, nan, inf, fin}
use Rattle.std.specs.Float.{float_is_finite}
use Rattle.values.specs.Accepted.{finite}
use Rattle.values.proofs.is_finite.Goals as goal

same : (x : Float) → float_is_finite x ≡ finite x
unfolding float_is_finite finite
same nan = refl
same (inf s) = refl
same (fin s m d) = refl

pub returns : goal.returns
returns c = c.is_finite.ensures.value ∙ same c.args.x
