-- `slide_spreads` meets its contract: each turn moves both sums on by two bars and writes their signs; then at most one
-- bar is left. Assumes nothing.
use mathlib.Core.Path.{◌≡◌, ◌∙◌}
use Prim.Native.Nat.{◌+◌, ◌-◌, ◌*◌}
use native.Mathlib.Omega.{arith}
use lib.ListN.{length}
use lib.Ieee.{of_bits}
use Rattle.cells.proofs.Written.{one_more, step}
use Rattle.rules_double.proofs.Spread.{after_one, after_two, decided, first_parts, next_parts, parts_next, spread_number}
use Rattle.rules_double.proofs.slide_spreads.Goals as goal

pub loop-k-init : goal.loop-k-init
unfolding of_bits
loop-k-init c =
    let none : c.args.m + 2 * 0 ≡ c.args.m = omega arith in
    rw none (first_parts c.requires.over_ticks c.requires.spread.is, c.requires.spread.is, c.requires.spread.before)

pub sign_of_number-requires : goal.sign_of_number-requires
sign_of_number-requires c =
    let o = c.requires.over_ticks in
    let i = c.args.m + 2 * c.loop-k.k in
    spread_number o (i + 1) (omega arith) (omega arith)
    (parts_next o i (omega arith) (omega arith) c.loop-k.invariant.0 c.change_at-one.ensures)

pub sign_of_number-requires-in-loop-k : goal.sign_of_number-requires-in-loop-k
sign_of_number-requires-in-loop-k c =
    let o = c.requires.over_ticks in
    let i = c.args.m + 2 * c.loop-k.k in
    spread_number o (i + 2) (omega arith) (omega arith)
    (after_two o i (omega arith) (omega arith) c.loop-k.invariant.1 c.change_at-one.ensures
    c.change_at-two.ensures)

pub loop-k-preserved : goal.loop-k-preserved
loop-k-preserved c =
    let o = c.requires.over_ticks in
    let i = c.args.m + 2 * c.loop-k.k in
    let j = c.args.m + 2 * (c.loop-k.k + 1) in
    let even = parts_next o i (omega arith) (omega arith) c.loop-k.invariant.0 c.change_at-one.ensures in
    let odd =
    after_two o i (omega arith) (omega arith) c.loop-k.invariant.1 c.change_at-one.ensures
    c.change_at-two.ensures in
    let next : i + 2 ≡ j = omega arith in
    let first = one_more c.loop-k.invariant.2
    (c.sign_of_number.ensures ∙ decided o i (i + 1) (omega arith) even)
    (omega arith) in (
      next_parts o (i + 1) j (omega arith) even c.change_at-two.ensures,
      rw (← next) odd,
      step (i + 1) j first (c.sign_of_number-in-loop-k.ensures ∙ decided o (i + 1) (i + 2) (omega arith) odd)
          (omega arith),
    )

pub sign_of_number-requires-then-bars-m-eq1 : goal.sign_of_number-requires-then-bars-m-eq1
sign_of_number-requires-then-bars-m-eq1 c =
    let o = c.requires.over_ticks in
    let i = c.args.m + 2 * c.loop-k.k in
    let last : length c.args.series.now - 1 ≡ i = omega arith in
    spread_number o (i + 1) (omega arith) (omega arith)
    (after_one o i (omega arith) (omega arith) c.loop-k.invariant.1 (rw last at c.change_at.ensures))

pub returns-then-bars-m-eq1 : goal.returns-then-bars-m-eq1
returns-then-bars-m-eq1 c =
    let o = c.requires.over_ticks in
    let i = c.args.m + 2 * c.loop-k.k in
    let last : length c.args.series.now - 1 ≡ i = omega arith in
    let next = after_one o i (omega arith) (omega arith) c.loop-k.invariant.1 (rw last at c.change_at.ensures) in
    rw last (step i _ c.loop-k.invariant.2 (c.sign_of_number-then-bars-m-eq1.ensures
    ∙ decided o i (i + 1) (omega arith) next)
    (omega arith))
