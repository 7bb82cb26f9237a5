-- `slid` meets its contract: both sums slide by one bar. Assumes nothing.
use native.Mathlib.Omega.{arith}
use Rattle.oscillator.proofs.Sliding.{slid_sum}
use Rattle.oscillator.proofs.bar.slid.Goals as goal

pub returns : goal.returns
returns c =
    let a = c.args in
    let rows = c.requires.tick_rows in
    let last = c.requires.sums_of in
    record {
      over = slid_sum a.pressures.now a.n a.i c.shared_slice_known-1.given rows.ticks.0
          rows.window (omega arith) last.over;
      under = slid_sum a.ranges.now a.n a.i c.shared_slice_known-3-1.given rows.ticks.1
          rows.window (omega arith) last.under;
    }
