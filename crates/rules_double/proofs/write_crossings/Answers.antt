-- `write_crossings` meets its contract: each turn writes a cell from the two sums and slides them. Assumes nothing.
use mathlib.Core.Path.{◌≡◌, ◌∙◌}
use Prim.Native.Nat.{◌+◌, ◌-◌}
use native.Mathlib.Omega.{arith}
use Rattle.cells.proofs.Written.{step, one_more}
use Rattle.cells.specs.Line.{line}
use Rattle.windows.specs.Window.{add_then_subtract}
use Rattle.windows.specs.inner.Sums.{Running}
use Rattle.windows.proofs.Window.{next_running}
use Rattle.rules_double.proofs.Double.{double_at}
use Rattle.rules_double.proofs.write_crossings.Goals as goal

pub loop-i-init : goal.loop-i-init
loop-i-init c =
    let m = c.args.m in
    let bar : m - 1 + 1 ≡ m = omega arith in
    let short : Running add_then_subtract c.args.n (line c.args.series.now) (m - 1 + 1) c.running_sum-short.result =
    rw bar c.running_sum-short.ensures in
    let long : Running add_then_subtract m (line c.args.series.now) (m - 1 + 1) c.running_sum-long.result =
    rw bar c.running_sum-long.ensures in (
      step (m - 1) m c.requires.before (c.cross.ensures ∙ double_at (m - 1) short long (omega arith)) (omega arith),
      c.running_sum-short.ensures,
      c.running_sum-long.ensures,
    )

pub loop-i-preserved : goal.loop-i-preserved
loop-i-preserved c =
    let f = line c.args.series.now in
    let i = c.loop-i.i in
    let inv = c.loop-i.invariant in
    let short : Running add_then_subtract c.args.n f (i + 1) c.slide_sum-short.result =
    rw c.slide_sum-short.ensures (next_running inv.1 (omega arith)) in
    let long : Running add_then_subtract c.args.m f (i + 1) c.slide_sum-long.result =
    rw c.slide_sum-long.ensures (next_running inv.2 (omega arith)) in
    (one_more inv.0 (c.cross-in-loop-i.ensures ∙ double_at _ short long (omega arith)) (omega arith), short, long)
