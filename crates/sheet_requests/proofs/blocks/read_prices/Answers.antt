-- `read_prices` meets its contract: each turn gathers one price more, or meets a broken line. Assumes nothing.
use mathlib.Core.Path.{◌≡◌}
use Prim.Native.Nat.{ℕ}
use native.Mathlib.Omega.{arith}
use Rattle.sheet_lines.specs.Header.{price_bytes}
use Rattle.sheet_requests.proofs.Lines.{bytes_at}
use Rattle.sheet_requests.proofs.Prices.{none_read, one_read, one_broken}
use Rattle.sheet_requests.proofs.blocks.read_prices.Goals as goal

pub loop-i-init : goal.loop-i-init
loop-i-init c = (omega arith, omega arith, omega arith, none_read (omega arith))

pub returns-in-Err : goal.returns-in-Err
returns-in-Err c =
    let inv = c.loop-i.invariant in
    let a = c.args in
    let read = rw (bytes_at c.loop-i.place price_bytes a.block.now) at c.read_price_line.ensures in
    record {
      same = one_broken inv.3 read (omega (arith, inv.3.pace)) c.in-Err.is a.request (omega arith);
      pace = inv.3.pace;
      some = omega arith;
      forth = λ e. let z : ◌≡◌ {A = ℕ} 0 1 = cc in absurd (omega arith);
      there = λ reason e. omega (arith, inv.3.pace);
      most = omega arith;
      within = omega (arith, inv.3.pace);
      long = inv.3.long;
    }

pub loop-i-preserved : goal.loop-i-preserved
loop-i-preserved c =
    let inv = c.loop-i.invariant in
    let read = rw (bytes_at c.loop-i.place price_bytes c.args.block.now) at c.read_price_line.ensures in (
      omega arith,
      omega arith,
      omega arith,
      one_read inv.3 read (omega (arith, inv.3.pace)) c.in-Ok.is,
    )
