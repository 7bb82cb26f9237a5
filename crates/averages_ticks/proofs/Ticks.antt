-- Sums of whole ticks, as the loops of `tick_mean` make them: one tick in, one out, and an i64 holds them. Assumes
-- nothing.
use mathlib.Core.Path.{◌≡◌, refl, sym, ◌∙◌}
use mathlib.Core.Bool.{true}
use mathlib.Core.List.{List, [], ◌∷◌}
use Prim.Native.Nat.{ℕ, zero, suc, ◌+◌, ◌-◌, ◌*◌, ◌^◌, ◌<◌, ◌≤◌}
use native.Mathlib.Numerals.{add-one}
use native.Mathlib.Omega.{arith}
use lib.IntN.{ℤ, pos, nat_abs, ◌+ℤ◌, ◌-ℤ◌, +ℤ_assoc}
use lib.ListN.{length, get_or}
use lib.Dec.{T}
use lib.Ieee.{Float, nan, binary64, to_signed, in_signed}
use mir.Syntax.{w64}
use mir.Val.{SFits}
use Rattle.values.specs.Accepted.{tick, all}
use Rattle.values.proofs.All.{and_parts, all_at}
use Rattle.calls.specs.Answer.{Answer, answered, count_of}
use Rattle.calls.proofs.Room.{room, answered_room, answered_windows}
use Rattle.cells.specs.Line.{line}
use Rattle.cells.proofs.Line.{before_bar, from_bar_lem}
use Rattle.values.proofs.Ticks.{ticked}
use Rattle.cells.specs.Written.{Writing}
use Rattle.cells.proofs.Written.{writing_same}
use Rattle.averages_ticks.specs.TickMean.{to_tick, tick_mean_line}
use Rattle.rounding.specs.Whole.{total}
use Rattle.rounding_laws.proofs.Integers.{total_size, total_slides}
use Rattle.averages_ticks.proofs.Whole.{in_i64, held, kept}
use Rattle.averages_ticks.specs.inner.Ticks.{Summed, TickRoom, TickSum, Ticks}

tick_at : {s : List Float} (i : ℕ) → Ticks s → i < length s → tick (line s i) ≡ true
tick_at {s} i t h = all_at tick s i t.each h

-- each is an i64
pub castable_at : {s : List Float} (i : ℕ) → Ticks s → i < length s → T (in_signed binary64 63 (line s i))
castable_at i t h = (ticked _ (tick_at i t h)).castable

-- every cell of the line counts for at most 2 ^ 24, since a bar that is not there counts for nothing
near_at : (s : List Float) (i : ℕ) → all tick s ≡ true → nat_abs (to_signed 63 (get_or s i nan)) ≤ 2 ^ 24
unfolding to_signed
near_at [] i e = omega arith
near_at (x ∷ s) zero e = (ticked x (and_parts (tick x) (all tick s) e).0).near
near_at (x ∷ s) (suc i) e = near_at s i (and_parts (tick x) (all tick s) e).1

-- an i64 holds z, and there it is that sum
pub record HeldSum (s : List Float) (a k : ℕ) (z : ℤ) : Type 0 where
  pub fits : SFits w64 z
  pub sum : TickSum s a k (held z)

module _ {s : List Float} where
  pub no_ticks : (a : ℕ) → TickSum s a 0 (pos 0)
  unfolding total
  no_ticks a = record { is = refl }

  -- the same, counted in another way
  pub ticks_same : {a k b l : ℕ} {z : ℤ} → TickSum s a k z → (a ≡ b) × (k ≡ l) → TickSum s b l z
  ticks_same r (p, q) = rw (← p, ← q) r

  -- the next tick comes in
  tick_in : {a k : ℕ} {z : ℤ} (i : ℕ) → TickSum s a k z → i ≡ a + k → TickSum s a (k + 1) (z +ℤ to_signed 63 (line s i))
  unfolding total
  tick_in i r e = rw (add-one, e) (record { is = rw r.is })

  -- the first one goes out
  tick_out : {a k : ℕ} {z : ℤ} → TickSum s a (k + 1) z → TickSum s (a + 1) k (z -ℤ to_signed 63 (line s a))
  unfolding total
  tick_out {a} {k} {z} r =
      let tick : ℕ → ℤ = λ j. to_signed 63 (line s j) in
      let all : z ≡ total tick a k +ℤ tick (a + k) = rw add-one at r.is in
      record { is = rw all (+ℤ_assoc (total tick a k) (tick (a + k)) _ ∙ sym (total_slides tick a k)) }

  module _ (t : Ticks s) where
    -- the sum is small
    pub sum_small : {a k : ℕ} {z : ℤ} → TickSum s a k z → nat_abs z ≤ k * 2 ^ 24
    sum_small {a} {k} r = let size = total_size (λ j. to_signed 63 (line s j)) a k (2 ^ 24)
        (λ j l. near_at s (a + j) t.each) in rw r.is size

    -- so an i64 holds it
    pub hold : {a k : ℕ} {z : ℤ} → TickSum s a k z → k ≤ 2 ^ 12 → HeldSum s a k z
    hold {z = z} r h =
        let l = sum_small r in
        record { fits = in_i64 z (omega arith); sum = rw (kept z (omega arith)) r }

    same_at : (j : ℕ) → held (to_signed 63 (line s j)) ≡ to_signed 63 (line s j)
    same_at j = let l = near_at s j t.each in kept (to_signed 63 (line s j)) (omega arith)

    -- with the tick of bar i
    pub hold_in : {a k l : ℕ} {z : ℤ} (i : ℕ) → TickSum s a k z → (i ≡ a + k) × (k + 1 ≡ l) × (l ≤ 2 ^ 12)
        → HeldSum s a l (z +ℤ held (to_signed 63 (line s i)))
    hold_in i r (e, p, h) = rw (same_at i, ← p) (hold (tick_in i r e) (omega arith))

    -- and without that of bar a
    pub hold_out : {a b k l : ℕ} {z : ℤ} → TickSum s a l z → (a + 1 ≡ b) × (k + 1 ≡ l) × (l ≤ 2 ^ 12)
        → HeldSum s b k (z -ℤ held (to_signed 63 (line s a)))
    hold_out {a} {k = k} {z = z} r (e, p, h) =
        let all : TickSum s a (k + 1) z = rw p r in
        rw (same_at a, ← e) (hold (tick_out all) (omega arith))

-- the cells before bar n - 1
pub lead_cells : {s : List Float} {first : ℕ} {z : ℤ} {old now : List ℤ} (n : ℕ) → Summed s first z old now
    → first ≤ n - 1
    → Writing first (tick_mean_line n (line s)) old now
unfolding tick_mean_line
lead_cells n r h = writing_same r.lead (λ i l. sym (before_bar (n - 1) (pos 0) _ i (omega arith)))

-- the cell of bar i, from the sum of its window
pub tick_cell : {s : List Float} {z : ℤ} (n i : ℕ) → TickSum s (i + 1 - n) n z → n ≤ i + 1 → to_tick z n
    ≡ tick_mean_line n (line s) i
unfolding tick_mean_line
tick_cell n i r h = rw (r.is, from_bar_lem (n - 1) (pos 0) _ i (omega arith))

-- a call of whole ticks that was answered, where there are cells to be written
pub tick_room : (s : List Float) (n out : ℕ) {r : Answer} → r ≡ answered tick s (n ∷ []) out [] → 0 < count_of r
    → TickRoom s n out
tick_room s n out e h =
    let facts = answered_room tick s (n ∷ []) out [] e h in
    record {
      window = (answered_windows tick s (n ∷ []) out [] e h).0;
      room = facts.out_long;
      ticks = record { each = facts.values };
    }
