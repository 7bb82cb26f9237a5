-- Wilder's average and his relative strength index have no look-ahead. Assumes nothing.
use Prim.Native.Nat.{ℕ, ◌+◌, ◌-◌, ◌≤◌}
use native.Mathlib.Omega.{arith}
use lib.Ieee.{nan}
use Rattle.cells.specs.Line.{plus_zero, Causal}
use Rattle.cells.proofs.Line.{causal_then, causal_with, causal_from}
use Rattle.cells.proofs.Carried.{causal_carried}
use Rattle.windows.proofs.Window.{sum_from_same}
use Rattle.changes.proofs.Causal.{causal_gains, causal_losses}
use Rattle.averages_wilder.specs.Wilder.{wilder_step, wilder_seed, wilder}
use Rattle.averages_wilder.specs.WilderRsi.{wilder_cell, wilder_rsi_line}

pub causal_wilder : (n a : ℕ) → n ≤ a + 1 → Causal (wilder n a)
unfolding wilder
causal_wilder n a h =
    causal_carried nan (wilder_step n) a (wilder_seed n a)
    (λ f g s. rw (sum_from_same plus_zero f g (a + 1 - n) n (λ j l. s j (omega arith))))

pub causal_wilder_rsi : (n : ℕ) → Causal (wilder_rsi_line n)
unfolding wilder_rsi_line
causal_wilder_rsi n =
    let average = causal_wilder n n (omega arith) in
    causal_from n nan
    (λ f g b s l. causal_with wilder_cell (causal_then causal_gains average) (causal_then causal_losses average) f g b
    s)
