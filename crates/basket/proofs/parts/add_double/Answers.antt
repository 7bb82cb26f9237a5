-- `add_double` meets its contract: the work slice has the positions that the answer counts. Assumes nothing.
use Rattle.basket.proofs.Own.{double_room, double_added, double_touched}
use Rattle.basket.proofs.Weights.{weight_held}
use Rattle.basket.proofs.parts.add_double.Goals as goal

pub add_bars-requires : goal.add_bars-requires
add_bars-requires c =
    rw (weight_held c.args.contract.now.weight c.requires.light)
    (double_room c.requires c.double_sma_positions-given.ensures c.count_of-count.ensures)

pub returns : goal.returns
returns c = (
  double_added c.requires c.double_sma_positions-given.ensures c.count_of-count.ensures
      (rw (weight_held c.args.contract.now.weight c.requires.light) at c.add_bars.ensures),
  double_touched c.requires c.double_sma_positions-given.ensures c.count_of-count.ensures,
)
