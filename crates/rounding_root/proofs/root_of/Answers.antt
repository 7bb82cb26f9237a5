-- `root_of` meets its contract: the closest whole root is the digits of the nearest float, and half the exponent its
-- field. Assumes nothing.
use mathlib.Core.Path.{sym, ◌∙◌}
use native.Mathlib.Omega.{arith}
use Rattle.rounding_root.proofs.Patterns.{no_nan, written}
use Rattle.rounding_root.proofs.Shifts.{evened}
use Rattle.rounding_root.proofs.Nearest.{nearest_is}
use Rattle.rounding_root.proofs.root_of.Goals as goal

pub closest-q-requires : goal.closest-q-requires
closest-q-requires c = let a = c.args in
    (evened a.p a.e c.requires.0).square

pub float_from_bits-result : goal.float_from_bits-result
float_from_bits-result c = no_nan _ (omega arith)

pub returns : goal.returns
returns c =
    let a = c.args in
    let even = evened a.p a.e c.requires.0 in
    let square = even.square in
    let rooted = c.closest-q.ensures in
    written _ _ rooted.digits (omega arith)
    ∙ sym (nearest_is _ _ _ even.same (omega arith) (omega arith) rooted.closest)
