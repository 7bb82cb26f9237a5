-- The spread of whole ticks: n · m times the short average less the long one. Each bar changes it by three products,
-- all of it is exact, and its sign is the position. Assumes nothing.
use mathlib.Core.Path.{◌≡◌, sym, ap, ◌∙◌}
use mathlib.Core.Bool.{true, false, cond}
use mathlib.Core.List.{List}
use Prim.Native.Nat.{ℕ, suc, ◌+◌, ◌-◌, ◌^◌, ◌<◌, ◌≤◌, zero-le}
use native.Mathlib.Nat.{zero-add, mul-le-mul}
use native.Mathlib.Omega.{arith}
use lib.IntN.{ℤ, pos, negsuc, nat_abs, ◌+ℤ◌, ◌-ℤ◌, ◌*ℤ◌, +ℤ_assoc, +ℤ_idr}
use lib.ListN.{length, set}
use lib.Ieee.{Float, binary64, add, sub, mul, of_int, is_nan}
use Rattle.rounding.specs.Leaves.{plus_one, minus_one, sign_of}
use Rattle.rounding.specs.Whole.{total, is_negative}
use Rattle.rounding.proofs.Signs.{sign_round}
use Rattle.rounding_laws.proofs.Integers.{
  abs_add,
  abs_minus,
  parts_add,
  parts_minus,
  parts_same,
  parts_times,
  total_slides,
}
use Rattle.rounding_laws.proofs.Products.{times, times_add, times_minus, add_times, minus_negative, total_parts}
use Rattle.rounding_laws.proofs.About.{zero_is}
use Rattle.rounding_laws.proofs.Value.{value_number}
use Rattle.rounding_laws.proofs.Whole.{whole_value, add_whole, sub_whole, mul_whole}
use Rattle.cells.specs.Line.{Line, plus_zero, minus_zero}
use Rattle.cells.specs.Written.{Writing}
use Rattle.cells.specs.inner.Leads.{Led}
use Rattle.cells.proofs.Leads.{up_to_bar}
use Rattle.cells.proofs.Written.{one_more, ends}
use Rattle.exact_ticks.proofs.Errors.{products}
use Rattle.exact_ticks.proofs.Exact.{sum_whole, window_size}
use Rattle.exact_ticks.proofs.RunningSums.{size_times}
use Rattle.windows.specs.Window.{sum_from, window_sum}
use Rattle.rules_double.specs.Double.{double_line}
use Rattle.rules_double.specs.inner.Ticks.{spread, change, BothFull}
use Rattle.rules_double.proofs.Ticks.{double_exact}

-- ---- integers

cancelled : (p q u v y z : ℤ) → p +ℤ (u +ℤ v -ℤ y) -ℤ (q +ℤ (u -ℤ z)) ≡ p -ℤ q +ℤ (v -ℤ y +ℤ z)
cancelled p q u v y z =
    parts_same (p +ℤ (u +ℤ v -ℤ y) -ℤ (q +ℤ (u -ℤ z))) (p -ℤ q +ℤ (v -ℤ y +ℤ z))
    (omega (
      arith,
      parts_minus (p +ℤ (u +ℤ v -ℤ y)) (q +ℤ (u -ℤ z)),
      parts_add p (u +ℤ v -ℤ y),
      parts_minus (u +ℤ v) y,
      parts_add u v,
      parts_add q (u -ℤ z),
      parts_minus u z,
      parts_add (p -ℤ q) (v -ℤ y +ℤ z),
      parts_minus p q,
      parts_add (v -ℤ y) z,
      parts_minus v y,
    ))

-- both windows move on by one bar: x comes in, y leaves the one of the sum a and z the one of the sum b
moved : (a b x y z : ℤ) (n d : ℕ)
    → (a +ℤ (x -ℤ y)) *ℤ pos (n + d) -ℤ (b +ℤ (x -ℤ z)) *ℤ pos n
    ≡ a *ℤ pos (n + d) -ℤ b *ℤ pos n +ℤ (x *ℤ pos d -ℤ y *ℤ pos (n + d) +ℤ z *ℤ pos n)
moved a b x y z n d =
    rw (
      times_add a (x -ℤ y) (n + d),
      times_minus x y (n + d),
      add_times x n d,
      times_add b (x -ℤ z) n,
      times_minus x z n,
    )
    (cancelled (a *ℤ pos (n + d)) (b *ℤ pos n) (x *ℤ pos n) (x *ℤ pos d) (y *ℤ pos (n + d)) (z *ℤ pos n))

-- the longer sum is the shorter one and a rest
pub parted : (a r : ℤ) (n d : ℕ) → a *ℤ pos d -ℤ r *ℤ pos n ≡ a *ℤ pos (n + d) -ℤ (r +ℤ a) *ℤ pos n
parted a r n d =
    parts_same (a *ℤ pos d -ℤ r *ℤ pos n) (a *ℤ pos (n + d) -ℤ (r +ℤ a) *ℤ pos n)
    (omega (
      arith,
      parts_minus (a *ℤ pos d) (r *ℤ pos n),
      parts_minus (a *ℤ pos (n + d)) ((r +ℤ a) *ℤ pos n),
      parts_times a d,
      parts_times r n,
      parts_times a (n + d),
      parts_times (r +ℤ a) n,
      times n (parts_add r a),
    ))

-- ---- whole numbers in f64

sign_whole : (z : ℤ) → sign_of (of_int binary64 z) ≡ cond (is_negative z) minus_one plus_one
unfolding of_int
sign_whole (pos a) = sign_round false a 1
sign_whole (negsuc a) = sign_round true (suc a) 1

added : {x y : Float} (a b : ℤ) → x ≡ of_int binary64 a → y ≡ of_int binary64 b → nat_abs a ≤ 2 ^ 53
    → nat_abs b ≤ 2 ^ 53
    → add binary64 x y ≡ of_int binary64 (a +ℤ b)
added a b p q h k = rw (p, q) (add_whole binary64 a b h k)

-- ---- every other bar

-- p and q are whole numbers whose sum is the spread of the bars before bar i
pub record InParts (n m : ℕ) (t : ℕ → ℤ) (i : ℕ) (p q : Float) : Type 0 where
  pub old : ℤ
  pub new : ℤ
  pub sum : old +ℤ new ≡ spread n m t i
  pub p_is : p ≡ of_int binary64 old
  pub q_is : q ≡ of_int binary64 new
  pub old_small : nat_abs old ≤ 2 ^ 53
  pub new_small : nat_abs new ≤ 2 ^ 38

-- ---- the spread

module _ {n m l : ℕ} {f : Line} {t : ℕ → ℤ} (o : BothFull n m l f t) where
  gap : n + (m - n) ≡ m
  gap = let l = o.order in omega arith

  -- the laws of exactness reach as far as the longest window
  short_narrow : n ≤ 2 ^ 12
  short_narrow = omega (arith, o.short.narrow)

  long_narrow : m ≤ 2 ^ 12
  long_narrow = omega (arith, o.long.narrow)

  pub spread_small : (i : ℕ) → m ≤ i → i ≤ l → nat_abs (spread n m t i) ≤ 2 ^ 53
  unfolding spread
  spread_small i h u =
      let a = total t (i - n) n in
      let b = total t (i - m) m in
      let x = window_size o.ticks (i - n) n (let r = o.order in omega arith) in
      let y = window_size o.ticks (i - m) m (omega arith) in
      let p = products (nat_abs a) (nat_abs b) n m x y short_narrow long_narrow in
      omega (
        arith,
        p,
        abs_minus (a *ℤ pos m) (b *ℤ pos n),
        size_times a m,
        size_times b n,
      )

  pub spread_number : (i : ℕ) {x : Float} → m ≤ i → i ≤ l → x ≡ of_int binary64 (spread n m t i)
      → is_nan x ≡ false
  spread_number i h u e = rw e (value_number _ _ _ _ (whole_value binary64 (spread n m t i) (spread_small i h u)))

  pub spread_next : (i : ℕ) → m ≤ i → spread n m t (i + 1) ≡ spread n m t i +ℤ change n m t i
  unfolding spread change
  spread_next i h =
      let r = o.order in
      let p : i + 1 - n ≡ i - n + 1 = omega arith in
      let q : i + 1 - m ≡ i - m + 1 = omega arith in
      let u : i - n + n ≡ i = omega arith in
      let v : i - m + m ≡ i = omega arith in
      rw (p, q, total_slides t (i - n) n, total_slides t (i - m) m, u, v)
      (rw gap at (moved (total t (i - n) n) (total t (i - m) m) (t i) (t (i - n)) (t (i - m)) n (m - n)))

  -- its sign is the position of the bar before
  pub decided : (i j : ℕ) {x : Float} → (m ≤ j) × (j ≤ l) × (i + 1 ≡ j) → x ≡ of_int binary64 (spread n m t j)
      → sign_of x ≡ double_line n m f i
  unfolding spread
  decided i j (h, u, bar) e =
      let a = total t (i + 1 - n) n in
      let b = total t (i + 1 - m) m in
      rw (
        e,
        ← bar,
        sign_whole (a *ℤ pos m -ℤ b *ℤ pos n),
        minus_negative (a *ℤ pos m) (b *ℤ pos n),
      )
      (sym (double_exact o.ticks n m i o.short.some o.order long_narrow (omega arith) (omega arith)))

  -- the lead, and after it the position of bar m - 1
  pub first_position : {r : ℕ} {old mid : List Float} {x y : Float} → Led (m - 1) l plus_zero r old mid → l ≤ length mid
      → x ≡ of_int binary64 (spread n m t m) → y ≡ sign_of x → Writing m (double_line n m f) mid (set mid (m - 1) y)
  unfolding double_line
  first_position w h e p =
      let u = o.full in
      let q = o.long.some in
      ends (one_more (up_to_bar w _ (omega arith)) (p ∙ decided (m - 1) m (omega arith) e) (omega arith)) (omega arith)

  -- ---- what a bar adds

  product_small : (i k : ℕ) → i < l → k ≤ 2 ^ 12 → nat_abs (t i *ℤ pos k) ≤ 2 ^ 36
  product_small i k u h = rw (size_times (t i) k) (omega (arith, mul-le-mul (o.ticks.small i u) h))

  product_exact : (i k : ℕ) → i < l → 0 < k → k ≤ 2 ^ 12 → mul binary64 (f i) (of_int binary64 (pos k))
      ≡ of_int binary64 (t i *ℤ pos k)
  product_exact i k u p h =
      rw (o.ticks.is i u) (mul_whole binary64 (t i) k (omega (arith, o.ticks.small i u)) (p, omega arith))

  module _ (i : ℕ) (h : m ≤ i) (u : i < l) where
    abbrev x : ℤ
    x = t i *ℤ pos (m - n)

    abbrev y : ℤ
    y = t (i - n) *ℤ pos m

    abbrev z : ℤ
    z = t (i - m) *ℤ pos n

    x_small : nat_abs x ≤ 2 ^ 36
    x_small = product_small i (m - n) u (let k = long_narrow in omega arith)

    y_small : nat_abs y ≤ 2 ^ 36
    y_small = product_small (i - n) m (omega arith) long_narrow

    z_small : nat_abs z ≤ 2 ^ 36
    z_small = product_small (i - m) n (omega arith) short_narrow

    pub change_small : nat_abs (change n m t i) ≤ 2 ^ 38
    unfolding change
    change_small = omega (arith, abs_add (x -ℤ y) z, abs_minus x y, x_small, y_small, z_small)

    pub change_exact : add binary64
        (sub binary64 (mul binary64 (f i) (of_int binary64 (pos (m - n))))
        (mul binary64 (f (i - n)) (of_int binary64 (pos m))))
        (mul binary64 (f (i - m)) (of_int binary64 (pos n)))
        ≡ of_int binary64 (change n m t i)
    unfolding change
    change_exact =
        let r = o.order in
        let k = long_narrow in
        rw (
          product_exact i (m - n) u (omega arith) (omega arith),
          product_exact (i - n) m (omega arith) o.long.some long_narrow,
          product_exact (i - m) n (omega arith) o.short.some short_narrow,
          sub_whole binary64 x y (omega (arith, x_small)) (omega (arith, y_small)),
        )
        (add_whole binary64 (x -ℤ y) z (omega (arith, abs_minus x y, x_small, y_small)) (omega (arith, z_small)))

  -- ---- the first spread, of two sums

  -- what was summed afresh is exact, and so is its product with a window's length
  scaled : (a k j : ℕ) {x : Float} → x ≡ sum_from minus_zero f a k → 0 < k → k ≤ 2 ^ 12 → a + k ≤ l → 0 < j → j ≤ 2 ^ 12
      → (mul binary64 x (of_int binary64 (pos j)) ≡ of_int binary64 (total t a k *ℤ pos j))
      × (nat_abs (total t a k *ℤ pos j) ≤ 2 ^ 48)
  scaled a k j e p q u r v =
      let size = window_size o.ticks a k u in
      let small : nat_abs (total t a k) ≤ 2 ^ 36 = omega (arith, size) in (
        rw (e, sum_whole o.ticks a k p u (omega arith))
            (mul_whole binary64 (total t a k) j (omega (arith, small)) (r, omega arith)),
        rw (size_times (total t a k) j) (omega (arith, mul-le-mul small v)),
      )

  pub first_exact : {a r : Float} → a ≡ window_sum n f (m - 1) → r ≡ window_sum (m - n) f (m - n - 1)
      → sub binary64 (mul binary64 a (of_int binary64 (pos (m - n)))) (mul binary64 r (of_int binary64 (pos n)))
      ≡ of_int binary64 (spread n m t m)
  unfolding spread window_sum
  first_exact {a} {r} p q =
      let g = o.order in
      let w = long_narrow in
      let u = o.full in
      let s₁ : m - 1 + 1 - n ≡ m - n = omega arith in
      let s₂ : m - n - 1 + 1 - (m - n) ≡ 0 = omega arith in
      let none : m - m ≡ 0 = omega arith in
      let whole : m - n + n ≡ m = omega arith in
      let short = scaled (m - n) n (m - n) (rw s₁ at p) o.short.some short_narrow (omega arith) (omega arith)
      (omega arith) in
      let rest = scaled 0 (m - n) n (rw s₂ at q) (omega arith) (omega arith) (omega arith) o.short.some
      short_narrow in
      let sum = total t (m - n) n in
      let old = total t 0 (m - n) in
      let long : total t 0 m ≡ old +ℤ sum = rw (whole, zero-add) at (total_parts t 0 (m - n) n) in
      rw (none, long, short.0, rest.0)
      (sub_whole binary64 (sum *ℤ pos (m - n)) (old *ℤ pos n) (omega (arith, short.1)) (omega (arith, rest.1))
      ∙ ap (of_int binary64) (rw gap at (parted sum old n (m - n))))

  -- ---- bar by bar

  pub after_one : (i : ℕ) {b c : Float} → m ≤ i → i < l → b ≡ of_int binary64 (spread n m t i)
      → c ≡ of_int binary64 (change n m t i) → add binary64 b c ≡ of_int binary64 (spread n m t (i + 1))
  after_one i h u e p =
      rw (spread_next i h)
      (added (spread n m t i) (change n m t i) e p (spread_small i h (omega arith)) (omega (arith, change_small i h u)))

  -- the spread as it is, and 0
  pub first_parts : {b : Float} → b ≡ of_int binary64 (spread n m t m) → InParts n m t m b plus_zero
  first_parts e = record {
    old = spread n m t m;
    new = pos 0;
    sum = +ℤ_idr (spread n m t m);
    p_is = e;
    q_is = sym (zero_is binary64);
    old_small = spread_small m (omega arith) o.full;
    new_small = zero-le;
  }

  -- what bar i adds completes it
  pub parts_next : (i : ℕ) {p q c : Float} → m ≤ i → i < l → InParts n m t i p q → c ≡ of_int binary64 (change n m t i)
      → add binary64 p (add binary64 q c) ≡ of_int binary64 (spread n m t (i + 1))
  parts_next i h u r e =
      let d = change n m t i in
      let small = change_small i h u in
      let new = added r.new d r.q_is e (omega (arith, r.new_small)) (omega (arith, small)) in
      added r.old (r.new +ℤ d) r.p_is new r.old_small (omega (arith, abs_add r.new d, r.new_small, small))
      ∙ ap (of_int binary64) (sym (+ℤ_assoc r.old r.new d) ∙ rw (spread_next i h, r.sum))

  -- the spread before bar i and what bar i adds are its parts before the next bar
  pub next_parts : (i j : ℕ) {p q : Float} → (m ≤ i) × (i < l) × (i + 1 ≡ j) → p ≡ of_int binary64 (spread n m t i)
      → q ≡ of_int binary64 (change n m t i) → InParts n m t j p q
  next_parts i j (h, u, bar) e f = record {
    old = spread n m t i;
    new = change n m t i;
    sum = rw (← bar) (sym (spread_next i h));
    p_is = e;
    q_is = f;
    old_small = spread_small i h (omega arith);
    new_small = change_small i h u;
  }

  -- two bars more
  pub after_two : (i : ℕ) {b c d : Float} → m ≤ i → i + 2 ≤ l → b ≡ of_int binary64 (spread n m t i)
      → c ≡ of_int binary64 (change n m t i) → d ≡ of_int binary64 (change n m t (i + 1))
      → add binary64 b (add binary64 c d) ≡ of_int binary64 (spread n m t (i + 2))
  after_two i h u e f g =
      let bar : i + 2 ≡ i + 1 + 1 = omega arith in
      rw bar (parts_next (i + 1) (omega arith) (omega arith) (next_parts i (i + 1) (omega arith) e f) g)
