-- `is_closest` meets its contract: the two tests are the two sides of `Closest`. Assumes nothing.
use native.Mathlib.Omega.{arith}
use borrow.Author.Tests.{leb-true}
use Rattle.rounding_root.proofs.Search.{passed}
use Rattle.rounding_root.proofs.whole.is_closest.Goals as goal

pub returns-then-high-m : goal.returns-then-high-m
returns-then-high-m c =
    let a = c.args in
    λ e. passed a.m a.q (omega arith) (omega arith) (omega (arith, leb-true a.m c.high-then-high-m.result e))
