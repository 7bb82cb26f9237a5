-- Positions: every cell of an answered call of the sheet's rules and of the exponential rule is +1.0, -1.0 or +0.0, and
-- so none is a NaN; the cells of the min-max and the tanh rule and ranks lie from -1 to 1. Assumes nothing.
use Rattle.std.specs.Prelude.{◌≡◌, refl, ◌⊎◌, Bool, true, false, cond, ◌||◌, List, [], ◌∷◌, ℕ, ◌+◌, ◌-◌, ◌*◌, ◌^◌, ◌<◌, ◌≤◌, length, get_or, Float, Ok}
use Rattle.std.proofs.Common.{sym, inl, inr, le_refl, arith}
use Rattle.std.specs.Float.{nan}
use Rattle.std.specs.Float.Ieee.{binary64, add, sub, div, eq, le, is_nan}
use Rattle.rounding.specs.Leaves.{one, plus_one, minus_one, sign_of, two}
use Rattle.values.specs.Accepted.{accepted}
use Rattle.cells.specs.Line.{Line, plus_zero, line}
use Rattle.windows.specs.Window.{mean}
use Rattle.extremes.specs.Extreme.{larger, smaller, extreme}
use Rattle.rules_double.proofs.Open.{double_opened, double_room, double_whole}
use Rattle.rules_single.specs.Single.{single_line, SingleCall}
use Rattle.rules_double.specs.Double.{running_mean, double_line, DoubleCall}
use Rattle.rules_middle.specs.Middle.{mid_line, MidCall}
use Rattle.rounding_laws.proofs.Bounds.{AtMost, add_at_most, div_at_most, sub_at_most}
use Rattle.exact_ticks.proofs.Bounds.{
  from_bar_holds,
  Bounded,
  prices_bounded,
  mean_bounded,
  highest_bounded,
  lowest_bounded,
}
use Rattle.rules_double.proofs.Bounds.{running_mean_bounded}
use Rattle.rules_middle.proofs.Ticks.{two_is}
use Rattle.calls.proofs.Cells.{bar, cell_at}
use Rattle.rules_ema.specs.SingleEma.{first_usable, single_ema_from, single_ema_line, SingleEmaCall}
use Rattle.rules_ema.proofs.Bounds.{gap_bounded}
use Rattle.rules_mms.specs.Mms.{MmsCall}
use Rattle.rules_mms.proofs.Within.{mms_within}
use Rattle.rules_tanh.specs.Tanh.{TanhCall}
use Rattle.rules_tanh.proofs.Cells.{tanh_within}
use Rattle.rules_rank.specs.Rank.{RankCall}
use Rattle.rules_rank.proofs.Bounds.{rank_within}

-- long, short or flat
abbrev pub Position : Float → Type 0
Position x = (x ≡ plus_one) ⊎ ((x ≡ minus_one) ⊎ (x ≡ plus_zero))

pub no_nan : {x : Float} → Position x → is_nan x ≡ false
unfolding is_nan
no_nan (inl e) = rw e
no_nan (inr (inl e)) = rw e
no_nan (inr (inr e)) = rw e

-- ---- the lines

-- a finite number has a sign
sign_position : {b : ℕ} {x : Float} → AtMost b x → Position (sign_of x)
unfolding sign_of
sign_position p = rw p.is (go p.sign)
  where
    go : (s : Bool) → Position (one s)
    go true = inr (inl refl)
    go false = inl refl

flat_or : (t : Bool) (x : Float) → Position x → Position (cond t plus_zero x)
flat_or true x p = inr (inr refl)
flat_or false x p = p

module _ (f : Line) (i : ℕ) (h : Bounded (2 ^ 30) f i) where
  single_position : (n : ℕ) → 0 < n → n ≤ 2 ^ 12 → Position (single_line n f i)
  unfolding single_line
  single_position n N M =
      let average = mean_bounded n N M (mean n f) i (mean_bounded n N M f i h) i (le_refl i) in
      let gap : AtMost (2 ^ 31) (sub binary64 (f i) (mean n (mean n f) i)) = sub_at_most (h i (le_refl i)) average
      (omega arith) in
      from_bar_holds Position (2 * n - 2) _ i (inr (inr refl))
      (λ k. flat_or (eq (mean n (mean n f) i) plus_zero) _ (sign_position gap))

  double_position : (n m : ℕ) → 0 < n → n < m → m ≤ 2 ^ 12 → i < 2 ^ 16 → Position (double_line n m f i)
  unfolding double_line
  double_position n m N L M l =
      from_bar_holds Position (m - 1) _ i (inr (inr refl))
      (λ k.
      let short = running_mean_bounded n N (omega arith) f i h (omega arith) l in
      let long = running_mean_bounded m (omega arith) M f i h (omega arith) l in
      let gap : AtMost (2 ^ 48) (sub binary64 (running_mean n f i) (running_mean m f i)) = sub_at_most short long
      (omega arith) in
      sign_position gap)

  mid_position : (n : ℕ) → 0 < n → n ≤ 2 ^ 12 → Position (mid_line n f i)
  unfolding mid_line
  mid_position n N M =
      let average = mean n f i in
      let high = extreme larger n (mean n f) i in
      let low = extreme smaller n (mean n f) i in
      let means = mean_bounded n N M f i h in
      let both : AtMost (2 ^ 31) (add binary64 high low) = add_at_most (highest_bounded n N M (mean n f) i means)
      (lowest_bounded n N M (mean n f) i means) (omega arith) in
      let middle : AtMost (2 ^ 30) (div binary64 (add binary64 high low) two) = rw two_is
      (div_at_most both 2 (omega arith)) in
      let gap : AtMost (2 ^ 31) (sub binary64 average (div binary64 (add binary64 high low) two)) = sub_at_most
      (means i (le_refl i)) middle (omega arith) in
      from_bar_holds Position (2 * n - 2) _ i (inr (inr refl))
      (λ k. flat_or (eq high plus_zero || eq low plus_zero) _ (sign_position gap))

  ema_position : (l n : ℕ) → 0 < n → n ≤ 2 ^ 12 → i < 2 ^ 16 → Position (single_ema_line l n f i)
  unfolding single_ema_line single_ema_from
  ema_position l n N M L =
      let start = first_usable l (mean n f) + (n - 1) in
      from_bar_holds Position start _ i (inr (inr refl))
      (λ k. sign_position (gap_bounded n f i (N, M) h start k L))

-- ---- the statements

-- a number from -1 to 1, and so no NaN
abbrev pub FromMinusOneToOne : Float → Type 0
FromMinusOneToOne x = (le minus_one x ≡ true) × (le x plus_one ≡ true)

module _ (n : ℕ) (s : List Float) {out₀ out₁ : List Float} {k : ℕ} where
  -- Double: each of its cells is a position.
  pub double_writes_positions : (m : ℕ) → DoubleCall s n m out₀ (Ok k) out₁ → (i : ℕ) → i < k
      → Position (get_or out₁ i nan)
  double_writes_positions m c i h =
      let e = sym c.answer in
      let o = double_opened s n m (length out₀) k e (omega arith) in
      let whole = double_whole s n m (length out₀) k e (omega arith) in
      let r = double_room s n m (length out₀) k e in
      let M = o.long.narrow in
      rw (cell_at nan c (omega (arith, r.out_long)) i h)
      (double_position (line s) i (prices_bounded s i r.values (omega arith)) n m o.short.some o.order
      (omega arith) (omega (arith, r.short)))

  module _ {work₀ work₁ : List Float} where
    -- One average: likewise.
    pub single_writes_positions : SingleCall s n out₀ work₀ (Ok k) out₁ work₁ → (i : ℕ) → i < k
        → Position (get_or out₁ i nan)
    single_writes_positions c i h =
        let b = bar nan accepted s (n ∷ []) (length work₀ ∷ []) c.call i h in
        let M = b.each.0.narrow in
        rw b.cell (single_position (line s) i (prices_bounded s i b.values b.inside) n b.each.0.some
        (omega arith))

    -- Middle: likewise.
    pub mid_writes_positions : MidCall s n out₀ work₀ (Ok k) out₁ work₁ → (i : ℕ) → i < k
        → Position (get_or out₁ i nan)
    mid_writes_positions c i h =
        let b = bar nan accepted s (n ∷ []) (length work₀ ∷ []) c.call i h in
        let M = b.each.0.narrow in
        rw b.cell (mid_position (line s) i (prices_bounded s i b.values b.inside) n b.each.0.some
        (omega arith))

    -- Exponential: likewise.
    pub single_ema_writes_positions : SingleEmaCall s n out₀ work₀ (Ok k) out₁ work₁ → (i : ℕ) → i < k
        → Position (get_or out₁ i nan)
    single_ema_writes_positions c i h =
        let b = bar nan accepted s (n ∷ []) (length work₀ ∷ []) c.call i h in
        let M = b.each.0.narrow in
        rw b.cell (ema_position (line s) i (prices_bounded s i b.values b.inside) (length s) n
        b.each.0.some (omega arith) (let l = b.inside in let u = b.short in omega arith))

    -- Min-max: a number from -1 to 1.
    pub mms_writes_shares : (w : ℕ) → MmsCall s n w out₀ work₀ (Ok k) out₁ work₁ → (i : ℕ) → i < k
        → FromMinusOneToOne (get_or out₁ i nan)
    mms_writes_shares w c i h =
        let b = bar nan accepted s (n ∷ w ∷ []) (length work₀ ∷ []) c.call i h in
        let M = b.each.0.narrow in
        let W = b.each.1.0.narrow in
        let within = mms_within n w (line s) i (prices_bounded s i b.values b.inside)
        (b.each.0.some, omega arith) (b.each.1.0.some, omega arith) in
        rw b.cell (within.least, within.most)

    -- Tanh: likewise.
    pub tanh_writes_shares : TanhCall s n out₀ work₀ (Ok k) out₁ work₁ → (i : ℕ) → i < k
        → FromMinusOneToOne (get_or out₁ i nan)
    tanh_writes_shares c i h =
        let b = bar nan accepted s (n ∷ []) (length work₀ ∷ []) c.call i h in
        let M = b.each.0.narrow in
        let within = tanh_within n (line s) i (prices_bounded s i b.values b.inside)
        (b.each.0.some, omega arith) in
        rw b.cell (within.least, within.most)

    -- Rank: likewise, for a window of 2 bars or more.
    pub rank_writes_shares : 2 ≤ n → RankCall s n out₀ work₀ (Ok k) out₁ work₁ → (i : ℕ) → i < k
        → FromMinusOneToOne (get_or out₁ i nan)
    rank_writes_shares h c i l =
        let b = bar nan accepted s (n ∷ []) (length work₀ ∷ []) c.call i l in
        let within = rank_within n (line s) i h b.each.0.narrow in
        rw b.cell (within.least, within.most)
