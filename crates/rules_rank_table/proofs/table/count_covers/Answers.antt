-- `count_covers` meets its contract: each turn counts the rows that cover one number more. Assumes nothing.
use mathlib.Core.Path.{◌≡◌, refl, ◌∙◌}
use mathlib.Core.Bool.{Bool, true, false, cond}
use Prim.Native.Nat.{ℕ, ◌+◌, ◌^◌, ◌<◌, ◌≤◌}
use native.Mathlib.Numerals.{add-one}
use native.Mathlib.Omega.{arith}
use lib.Dec.{ltb}
use lib.IntN.{pos, negsuc, ◌-ℤ◌, ◌+ℤ◌}
use lib.Signed.{le_z, mag}
use mir.Syntax.{w32}
use mir.ValLaws.{to_z-of_z}
use Rattle.std.proofs.lemmas.Int.{ints}
use Rattle.cells.specs.Search.{every_bar}
use Rattle.rules_rank_table.proofs.table.count_covers.Goals as goal

-- the number at j, where they are counted from -100 on
next_number : (j : ℕ) → (pos j -ℤ pos 100) +ℤ pos 1 ≡ pos (j + 1) -ℤ pos 100
next_number j = omega (arith, ints)

more_left : (j : ℕ) → le_z (pos j -ℤ pos 100) (pos 100) ≡ true → j ≤ 200
more_left j e = grind (arith, ints)

none_left : (j : ℕ) → j ≤ 201 → le_z (pos j -ℤ pos 100) (pos 100) ≡ false → j ≡ 201
none_left j h e = grind (arith, ints)

small : (t : Bool) {a b c : ℕ} → a < c → b < c → mag (cond t (negsuc a) (pos b)) < c
small true h k = h
small false h k = k

held : (j : ℕ) → j ≤ 200 → mag ((pos j -ℤ pos 100) +ℤ pos 1) < 2 ^ 31
held j h = rw (next_number j) (small (ltb (j + 1) 100) (omega arith) (omega arith))

pub loop-k-init : goal.loop-k-init
loop-k-init c = unfold every_bar in (0, omega arith, refl, record { no_two = refl; no_gap = refl })

pub loop-k-preserved : goal.loop-k-preserved
unfolding every_bar
loop-k-preserved c =
    let (j, most, is, counted) = c.loop-k.invariant in
    let more = more_left j (rw is at c.loop-k-test.true) in
    let count = rw is at c.cover_count-count.ensures in
    let next = to_z-of_z w32 ((pos j -ℤ pos 100) +ℤ pos 1) (record { sfits = held j more }) ∙ next_number j in (
      j + 1,
      omega arith,
      rw is next,
      record { no_two = rw (add-one, count, counted.no_two); no_gap = rw (add-one, count, counted.no_gap) },
    )

pub returns : goal.returns
returns c =
    let (j, most, is, counted) = c.loop-k.invariant in
    let all = none_left j most (rw is at c.loop-k-test.false) in
    rw all at counted
