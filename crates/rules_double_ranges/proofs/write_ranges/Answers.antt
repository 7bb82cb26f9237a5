-- `write_ranges` meets its contract: the lead, and the cells after it. Assumes nothing.
use Prim.Native.Nat.{◌≤◌}
use native.Mathlib.Omega.{arith}
use borrow.Author.Rules.{rules}
use lib.ListN.{length}
use Rattle.cells.specs.Line.{line}
use Rattle.cells.proofs.Leads.{up_to_bar, lead_then, lead_only}
use Rattle.checks.proofs.Two.{in_order_at}
use Rattle.exact_ticks.proofs.TickMeans.{tick_line}
use Rattle.rules_double_ranges.specs.Ranges.{ranges_line}
use Rattle.rules_double_ranges.proofs.Bars.{order_whole}
use Rattle.rules_double_ranges.proofs.write_ranges.Goals as goal

pub slide_ranges-requires : goal.slide_ranges-requires
unfolding ranges_line
slide_ranges-requires c =
    let p = c.requires in
    let r = p.ranges in
    let same = r.same in
    let room = r.room in
    let some = p.long.some in
    let first = c.fill_flat-first.ensures.first in
    let long = c.fill_flat-first.ensures.lead.long in
    let s = c.args.low.now in
    let t = c.args.high.now in
    let full : c.args.m ≤ length s = omega arith in
    let low = tick_line s (λ i l. c.shared_slice_known-1.given i) r.lows in
    let high = tick_line t (λ i l. c.shared_slice_known-2-1.given i) r.highs in
    record {
      lows = record { short = p.short; long = p.long; order = p.order; full = full; ticks = low };
      highs = record { short = p.short; long = p.long; order = p.order; full = omega arith; ticks = high };
      same = same;
      ranged = order_whole low high same (in_order_at (line s) (line t) (length s) r.order);
      room = omega arith;
      before = up_to_bar c.fill_flat-first.ensures _ (omega arith);
    }

pub returns-then-first-low : goal.returns-then-first-low
returns-then-first-low c = search (rules, lead_then)

pub returns-else-first-low : goal.returns-else-first-low
returns-else-first-low c = unfold ranges_line in search (rules, lead_only)
