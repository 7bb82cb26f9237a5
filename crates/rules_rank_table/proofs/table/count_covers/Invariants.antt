-- `count_covers` meets its contract: each turn counts the rows that cover one number more. Assumes nothing.
use mathlib.Core.Path.{◌≡◌}
use mathlib.Core.List.{map}
use Prim.Native.Nat.{ℕ, ◌≤◌}
use lib.IntN.{pos, ◌-ℤ◌}
use Rattle.rules_rank_table.specs.inner.Stages.{row_of, Counted}
use Rattle.rules_rank_table.proofs.table.count_covers.Given as goal

abbrev pub invariant-loop-k : goal.invariant-loop-k
invariant-loop-k l = (j : ℕ) × (j ≤ 201) × (l.k ≡ pos j -ℤ pos 100) × Counted (map row_of l.rows) j l.once l.some
