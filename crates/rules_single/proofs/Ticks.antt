-- The one-average rule on whole ticks, decided by whole numbers, which running sums give exactly. Assumes nothing.
use mathlib.Core.Path.{◌≡◌, sym, ap, subst, ◌∙◌}
use mathlib.Core.Bool.{Bool, true, false, cond}
use mathlib.Core.List.{List}
use Prim.Native.Nat.{ℕ, ◌+◌, ◌-◌, ◌*◌, ◌^◌, ◌<◌, ◌≤◌, zero-le}
use native.Mathlib.Nat.{mul-le-mul, mul-pos}
use native.Mathlib.Omega.{arith}
use lib.Dec.{T, lit<}
use lib.IntN.{ℤ, pos, nat_abs, ◌*ℤ◌}
use lib.ListN.{length}
use lib.Signed.{lt_z}
use lib.Ieee.{Float, nan, binary64, mul, lt, eq, ne, of_int, fits}
use lib.Ieee.Compare.{differs_from_itself}
use lib.Ieee.Exact.{HasValue}
use Rattle.rounding.specs.Leaves.{plus_one, minus_one}
use Rattle.rounding_laws.proofs.Integers.{total_size, total_same}
use Rattle.rounding.specs.Whole.{is_negative}
use Rattle.rounding_laws.proofs.Whole.{whole_value, mul_whole}
use Rattle.rounding_laws.proofs.Units.{worth_whole, worth_negative}
use Rattle.rounding_laws.proofs.About.{about_whole, about_sign, about_order, about_some, zero_is}
use Rattle.cells.specs.Line.{Line, line, plus_zero}
use Rattle.cells.proofs.Line.{from_bar_lem}
use Rattle.calls.proofs.Room.{or_parts}
use Rattle.cells.proofs.RowWrites.{beside_first, beside_second}
use Rattle.cells.proofs.Written.{read_back}
use Rattle.windows.specs.Window.{window_total, mean}
use Rattle.exact_ticks.proofs.Exact.{TickLine, window_size}
use Rattle.exact_ticks.proofs.Errors.{mean_of_means_about}
use Rattle.windows.proofs.Window.{causal_mean}
use Rattle.rules_single.specs.Single.{against_mean, single_line}
use Rattle.rules_single.proofs.Single.{single_at}
use Rattle.exact_ticks.proofs.TickMeans.{tick_line}
use Rattle.exact_ticks.proofs.RunningSums.{running_sum_exact, running_sums_whole, size_times, some_abs, times_one}
use Rattle.windows.specs.inner.RunningSums.{running_sums}
use Rattle.rules_single.specs.inner.Tie.{tie}
use Rattle.rules_single.specs.inner.Ticks.{TickRows}

-- how far the laws reach, beyond the longest window: there sums of window sums are exact and decide
abbrev pub longest_exact : ℕ
longest_exact = 1022

module _ {l : ℕ} {f : Line} {t : ℕ → ℤ} (w : TickLine l f t) where
  pub single_exact : (n i : ℕ) → 0 < n → n ≤ longest_exact → 2 * n ≤ i + 2 → i < l
      → ¬ (window_total n (window_total n t) i ≡ pos 0) → ¬ (t i *ℤ pos (n * n) ≡ window_total n (window_total n t) i)
      → single_line n f i ≡ cond (lt_z (t i *ℤ pos (n * n)) (window_total n (window_total n t) i)) minus_one plus_one
  unfolding single_line
  single_exact n i N M b h z d =
      let sum = window_total n (window_total n t) i in
      let m = w.small i h in
      let p = about_whole binary64 (t i) (omega arith) in
      let q = mean_of_means_about w n N (omega arith) n N (omega arith) i (omega arith) h in
      let s : n * n * (2 ^ 34 + 2 ^ 26) < 2 ^ 53 * 2 = omega (arith, mul-le-mul M M) in
      let order = about_order p q (λ e. d (e ∙ times_one sum)) (omega arith) in
      rw (from_bar_lem (2 * n - 2) plus_zero _ i (omega arith), w.is i h, about_some q (some_abs sum z) s)
      (about_sign p q (worth_negative (worth_whole binary64 (t i) (omega arith))) (lit< tt)
      ∙ ap (λ (t : Bool). cond t minus_one plus_one) (order ∙ ap (lt_z (t i *ℤ pos (n * n))) (times_one sum)))

-- floats that differ are different whole numbers
apart : (a b : ℤ) → nat_abs b ≤ 2 ^ 53 → eq (of_int binary64 a) (of_int binary64 b) ≡ false → ¬ (a ≡ b)
unfolding ne
apart a b h e p =
    let x = of_int binary64 b in
    let other : ne x x ≡ true = rw (rw p at e) in
    subst (λ (y : Float). HasValue y (is_negative b) (nat_abs b) 1) (differs_from_itself x (rw other tt))
    (whole_value binary64 b h)

module _ {l : ℕ} {f : Line} {t : ℕ → ℤ} (w : TickLine l f t) (n : ℕ) (N : 0 < n) (M : n ≤ longest_exact) (i : ℕ)
    (p : 2 * n ≤ i + 2) (h : i < l) where
  abbrev D : ℤ
  D = window_total n (window_total n t) i

  square : n * n ≤ longest_exact * longest_exact
  square = mul-le-mul M M

  total_small : nat_abs D ≤ 2 ^ 53
  total_small =
      let d = total_size (window_total n t) (i + 1 - n) n (n * 2 ^ 24)
      (λ j m. window_size w (i + 1 - n + j + 1 - n) n (omega arith)) in
      omega (arith, square)

  total_exact : running_sums n (running_sums n f) i ≡ of_int binary64 D
  total_exact =
      running_sum_exact (running_sums_whole w n N (omega arith)) n N (omega (arith, square)) i (omega arith) h
      ∙ ap (of_int binary64) (total_same _ (window_total n t) (i + 1 - n) n
      (λ j m. from_bar_lem (n - 1) (pos 0) (window_total n t) (i + 1 - n + j) (omega arith)))

  scaled_small : nat_abs (t i *ℤ pos (n * n)) ≤ 2 ^ 53
  scaled_small = rw (size_times (t i) (n * n)) (omega (arith, mul-le-mul (w.small i h) square))

  scaled_exact : mul binary64 (f i) (of_int binary64 (pos (n * n))) ≡ of_int binary64 (t i *ℤ pos (n * n))
  scaled_exact = rw (w.is i h) (mul_whole binary64 (t i) (n * n) (omega (arith, w.small i h))
      (mul-pos N N, omega (arith, square)))

  -- where there is no tie, whole numbers decide
  pub no_tie : tie (mul binary64 (f i) (of_int binary64 (pos (n * n)))) (running_sums n (running_sums n f) i) ≡ false
      → single_line n f i
      ≡ cond (lt (mul binary64 (f i) (of_int binary64 (pos (n * n)))) (running_sums n (running_sums n f) i)) minus_one
      plus_one
  no_tie e =
      let parts = or_parts (eq (of_int binary64 (t i *ℤ pos (n * n))) (of_int binary64 D))
      (eq (of_int binary64 D) plus_zero) (rw (← scaled_exact, ← total_exact) e) in
      let some : ¬ (D ≡ pos 0) = apart D (pos 0) zero-le (rw (zero_is binary64) parts.1) in
      let other = apart (t i *ℤ pos (n * n)) D total_small parts.0 in
      let order =
      about_order (about_whole binary64 (t i *ℤ pos (n * n)) scaled_small) (about_whole binary64 D total_small)
      (λ q. other (sym (times_one (t i *ℤ pos (n * n))) ∙ q ∙ times_one D)) (lit< tt) in
      rw (scaled_exact, total_exact, order, times_one (t i *ℤ pos (n * n)), times_one D)
      (single_exact w n i N M p h some other)

module _ {n : ℕ} {s now : List Float} (r : TickRows n s now) (floats : (i : ℕ) → T (fits binary64 (line s i))) (i : ℕ)
    (p : 2 * n ≤ i + 2) (h : i < length s) where
  mean_cell : (j : ℕ) → j ≤ i → line now j ≡ mean n (line s) j
  mean_cell j l = read_back j nan r.rows (omega (arith, r.room)) ∙ beside_first (length s) _ _ j (omega arith)

  total_cell : line now (length s + i) ≡ running_sums n (running_sums n (line s)) i
  total_cell = read_back (length s + i) nan r.rows (omega (arith, r.room)) ∙ beside_second (length s) _ _ i

  -- the rounded average decides every bar
  pub by_average : against_mean (line s i) (mean n (line now) i) ≡ single_line n (line s) i
  by_average = single_at n (line s) i (causal_mean n (line now) (mean n (line s)) i mean_cell) (omega arith)

  -- and so does the total where there is no tie
  pub by_total : tie (mul binary64 (line s i) (of_int binary64 (pos (n * n)))) (line now (length s + i)) ≡ false
      → single_line n (line s) i ≡ cond (lt (mul binary64 (line s i) (of_int binary64 (pos (n * n))))
      (line now (length s + i))) minus_one plus_one
  by_total e =
      let M : n ≤ longest_exact = omega (arith, r.window.narrow) in
      rw total_cell (no_tie (tick_line s (λ j l. floats j) r.ticks) n r.window.some M i p h
      (rw (← total_cell) e))
