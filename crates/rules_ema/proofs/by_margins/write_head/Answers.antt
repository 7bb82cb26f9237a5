-- `write_head` meets its contract: the means of the first bars, and the mean of the last of them. Assumes nothing.
use mathlib.Core.Path.{◌≡◌}
use Prim.Native.Nat.{◌-◌, ◌*◌}
use native.Mathlib.Omega.{arith}
use Rattle.cells.specs.Line.{line}
use Rattle.windows.specs.inner.Means.{running_means}
use Rattle.rules_ema.proofs.SingleEma.{seed_of}
use Rattle.rules_ema.proofs.Head.{head_means}
use Rattle.rules_ema.proofs.by_margins.write_head.Goals as goal

pub returns : goal.returns
returns c =
    let a = c.args in
    let stood = head_means a.n (2 * a.n - 1) a.series.now c.write_running_means.ensures
    (c.requires.window.some, c.requires.inside) in
    let bar : 2 * a.n - 1 - 1 ≡ 2 * a.n - 2 = omega arith in
    record {
      cells = stood;
      first = rw (← bar) (seed_of a.n (running_means a.n (line a.series.now)) stood c.requires.room _
          c.mean_at.ensures (omega arith));
    }
