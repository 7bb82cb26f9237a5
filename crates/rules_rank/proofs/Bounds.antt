-- Every cell of `rank_positions` for n of 2 or more is a number from -1 to 1: each step of the formula stays within a
-- bound that rounding does not cross. n 1 gives NaN. Assumes nothing.
use mathlib.Core.Path.{◌≡◌, refl, ap}
use mathlib.Core.Bool.{Bool, true, false, cond}
use Prim.Native.Nat.{ℕ, ◌+◌, ◌-◌, ◌*◌, ◌^◌, ◌<◌, ◌≤◌}
use native.Mathlib.Nat.{mul-le-mul_right, le_of_mul-le-mul_right, div-lt_iff_lt-mul}
use native.Mathlib.Omega.{arith}
use lib.Dec.{ltb, lit≤, lit<}
use lib.IntN.{ℤ, pos}
use lib.Ieee.{Float, nan, binary64, up, down, unlike, round, sum, sub, mul, div, of_int}
use lib.Ieee.Back.{round_whole}
use lib.Ieee.Fits.{down_pos}
use Rattle.rounding_laws.proofs.Value.{shape, sub_at, div_at}
use Rattle.rounding_laws.proofs.Whole.{whole_value}
use Rattle.rounding.specs.Leaves.{two, half_up, round_to_whole}
use Rattle.rounding.specs.Literals.{half, hundred}
use Rattle.cells.specs.Line.{Line, plus_zero}
use Rattle.cells.proofs.Line.{from_bar_lem}
use Rattle.limits.specs.Limits.{longest_window}
use Rattle.exact_ticks.proofs.Bounds.{from_bar_holds}
use Rattle.windows.specs.Window.{over, mean}
use Rattle.ranks.specs.Counted.{below, count_from}
use Rattle.ranks.proofs.Counted.{count_from_most}
use Rattle.rules_rank.specs.Rank.{whole_rank, rank_of, below_now, rank_line}
use Rattle.rounding_order.proofs.Within.{
  Within,
  within_whole,
  within_half,
  doubled,
  Signed,
  times_within,
  FromMinusOneToOne,
  in_unit,
}

-- ---- the formula, step by step

module _ {c m : ℕ} (M : 0 < m) (most : m ≤ 2 ^ 53) (h : c ≤ m) where
  -- c / m lies from 0 to 1
  quotient_within : Within false 1 1 (over m (of_int binary64 (pos c)))
  quotient_within =
      let C = whole_value binary64 (pos c) (omega arith) in
      let D = whole_value binary64 (pos m) (omega arith) in
      let x = of_int binary64 (pos c) in
      let y = of_int binary64 (pos m) in
      rw (div_at x y false c 1 false m 1 (lit< tt) (lit< tt) M C D binary64)
      (within_whole false (c * 1) (m * 1) 1 (omega arith) (lit≤ tt) (omega arith))

-- less one half
half_within : {x : Float} → Within false 1 1 x → Signed 1 2 (sub binary64 x half)
unfolding sum
half_within {x} w =
    let a = w.count in
    let c = w.parts in
    let value = doubled x false a c w.value in
    rw (sub_at x half false (a * 2) false c (c * 2) (omega arith) value (refl, omega arith) binary64)
    (go (ltb (a * 2) c) refl)
  where
    go : (t : Bool) → ltb (w.count * 2) w.parts ≡ t
        → Signed 1 2 (cond t (round binary64 true (w.parts - w.count * 2) (w.parts * 2))
        (round binary64 false (w.count * 2 - w.parts) (w.parts * 2)))
    go true e = record {
      sign = true;
      within = within_half true (w.parts - w.count * 2) (w.parts * 2) (omega arith) (omega arith);
    }
    go false e = record {
      sign = false;
      within = within_half false (w.count * 2 - w.parts) (w.parts * 2) (omega arith) (omega arith);
    }

-- a whole number from 0 to 100, with a sign
pub record Hundredths (x : Float) : Type 0 where
  pub sign : Bool
  pub size : ℕ
  pub is : x ≡ round binary64 sign size 1
  pub most : size ≤ 100

half_up_most : (m : ℕ) (e : ℤ) → m * up e ≤ 100 * down e → half_up m e ≤ 100
half_up_most m e h =
    let d = down_pos e in
    let twice : 0 < 2 * down e = omega arith in
    let under : 2 * (m * up e) + down e < 101 * (2 * down e) = omega arith in
    let few : half_up m e < 101 = (div-lt_iff_lt-mul twice).1 under in
    omega arith

hundredths : {x : Float} → Signed 100 1 x → Hundredths (round_to_whole x)
unfolding round_to_whole
hundredths {x} w =
    let i = w.within in
    let (m, e, p, v) = shape x w.sign i.count i.parts i.value in
    let l = mul-le-mul_right (down e) i.size in
    let few : m * up e ≤ 100 * down e = le_of_mul-le-mul_right {k = i.parts} (omega arith) i.some in
    record { sign = w.sign; size = half_up m e; is = ap round_to_whole p; most = half_up_most m e few }

over_within : {x : Float} → Hundredths x → Signed 1 1 (div binary64 x hundred)
over_within {x} w =
    let s = w.sign in
    let k = w.size in
    let some : 0 < 1 = lit< tt in
    let value = round_whole binary64 s k (omega arith) in
    let x = round binary64 s k 1 in
    rw (w.is, div_at x hundred s k 1 false 100 1 some some (lit< tt) value (refl, refl) binary64) record {
      sign = unlike s false;
      within = within_whole _ (k * 1) (100 * 1) 1 (lit< tt) (lit≤ tt) (omega arith);
    }

-- ---- the rule

module _ {c m : ℕ} (M : 0 < m) (most : m ≤ 2 ^ 53) (h : c ≤ m) where
  -- the rank before the division by 100 is a whole number from -100 to 100
  pub whole_rank_within : Hundredths (whole_rank c m)
  unfolding whole_rank
  whole_rank_within =
      let less = half_within (quotient_within M most h) in
      let moved = times_within two 2 1 less (refl, refl) (lit≤ tt) (λ a c l. omega arith) in
      hundredths (times_within hundred 100 100 moved (refl, refl) (lit≤ tt) (λ a c l. omega arith))

  rank_of_within : Signed 1 1 (rank_of c m)
  rank_of_within = over_within whole_rank_within

-- every cell for a window of 2 bars or more
pub rank_within : (n : ℕ) (f : Line) (i : ℕ) → 2 ≤ n → n ≤ longest_window → FromMinusOneToOne (rank_line n f i)
unfolding rank_line below_now
rank_within n f i h l =
    let few = count_from_most (below (mean n f i)) (mean n f) (i + 1 - n) (n - 1) in
    from_bar_holds FromMinusOneToOne (2 * n - 2) _ i
    (in_unit {s = false} record { count = 0; parts = 1; some = lit< tt; value = (refl, refl); size = lit≤ tt })
    (λ _. in_unit (rank_of_within (omega arith) (omega arith) few).within)

-- a window of 1 bar has NaN at every bar
pub rank_of_one : (f : Line) (i : ℕ) → rank_line 1 f i ≡ nan
unfolding rank_line whole_rank below_now count_from round_to_whole sub mul div of_int round
rank_of_one f i = from_bar_lem 0 plus_zero _ i (omega arith)
