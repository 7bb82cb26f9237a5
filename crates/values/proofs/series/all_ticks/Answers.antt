-- `all_ticks` meets its contract: the first number decides, or the quick test, or each number is tested. Assumes
-- nothing.
use Rattle.std.proofs.Common.{◌∙◌, arith}
use Rattle.values.specs.Accepted.{tick}
use Rattle.values.specs.inner.Fraction.{comes_back}
use Rattle.values.proofs.All.{all_same}
use Rattle.values.proofs.Fraction.{whole_tick}
use Rattle.values.proofs.Quick.{quick_up_to}
use Rattle.values.proofs.series.all_ticks.Goals as goal

pub returns-then-found-le-LARGEST_TICK_BITS : goal.returns-then-found-le-LARGEST_TICK_BITS
returns-then-found-le-LARGEST_TICK_BITS c =
    let s = c.args.s.now in
    let found = c.gather-found.ensures in
    let each = quick_up_to s found.0 c.shared_slice_known-2-1.given 24 (omega arith) (omega arith) in
    found.1 ∙ all_same comes_back tick s (λ i h. whole_tick _ (each i h))
