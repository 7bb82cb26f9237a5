-- `read_prices` meets its contract: each turn gathers one price more, or meets a broken line. Assumes nothing.
use Prim.Native.Nat.{◌+◌, ◌-◌, ◌*◌, ◌≤◌}
use lib.ListN.{length}
use Rattle.sheet_lines.specs.Header.{price_bytes}
use Rattle.sheet_requests.proofs.Prices.{PricesSoFar}
use Rattle.sheet_requests.proofs.blocks.read_prices.Given as goal

abbrev pub invariant-loop-i : goal.invariant-loop-i
invariant-loop-i l =
    (l.got ≤ l.end) × (l.end ≤ length l.initial.series) × (l.at + price_bytes * (l.end - l.got) ≤ length l.block)
    × PricesSoFar l.block l.at l.end l.got l.initial.series l.place l.i l.series
