-- Sums and means of the last n cells, and running sums. Every operation is rounded once. Assumes nothing.
use mathlib.Core.Path.{◌≡◌, refl, ap, ◌∙◌}
use Prim.Native.Nat.{ℕ, zero, suc, ◌+◌, ◌-◌, ◌^◌, ◌<◌, ◌≤◌}
use native.Mathlib.Numerals.{add-one}
use native.Mathlib.Omega.{arith}
use lib.Dec.{T, le→leb}
use lib.IntN.{pos}
use lib.Ieee.{Float, binary64, add, in_float}
use Rattle.cells.specs.Line.{Line, plus_zero, minus_zero, Same, Causal}
use Rattle.cells.proofs.Line.{from_bar_lem, causal_from}
use Rattle.cells.specs.Recur.{recur}
use Rattle.cells.proofs.Recur.{recur_same}
use Rattle.windows.specs.Window.{mean, over, running_sum, sum_from, window_sum}
use Rattle.windows.specs.inner.Sums.{Running, Summing}

pub none_summed : {z : Float} {f : Line} {a : ℕ} → Summing z f a 0 z
unfolding sum_from
none_summed = record { is = refl }

pub one_added : {z : Float} {f : Line} {a k : ℕ} {x : Float} → Summing z f a k x
    → Summing z f a (k + 1) (add binary64 x (f (a + k)))
unfolding sum_from
one_added s = record { is = rw (add-one, s.is) }

-- the cell's bar, written in another way
pub added_at : {z : Float} {f : Line} {a k : ℕ} {x : Float} (i : ℕ) → Summing z f a k x → a + k ≡ i
    → Summing z f a (k + 1) (add binary64 x (f i))
added_at i s e = rw (← e) (one_added s)

-- a sum is a start for the cells that follow
sums_meet : (z : Float) (f : Line) (a k m : ℕ) → sum_from (sum_from z f a k) f (a + k) m ≡ sum_from z f a (k + m)
unfolding sum_from
sums_meet z f a k zero =
    let none : k + 0 ≡ k = omega arith in
    rw none
sums_meet z f a k (suc m) =
    let at : a + k + m ≡ a + (k + m) = omega arith in
    let more : k + suc m ≡ suc (k + m) = omega arith in
    rw (more, sums_meet z f a k m, at)

-- m cells more, from bar i on
pub more_added : {z : Float} {f : Line} {a k : ℕ} {x y : Float} (i m l : ℕ) → Summing z f a k x → y ≡ sum_from x f i m
    → (a + k ≡ i) × (k + m ≡ l)
    → Summing z f a l y
more_added {z} {f} {a} {k} i m l s e (p, q) = record { is = e ∙ rw (s.is, ← p, ← q) (sums_meet z f a k m) }

-- the window's sum at bar i, from the sum of its n cells, which start at bar a
pub window_sum_lem : (n i : ℕ) {f : Line} {a k : ℕ} {x : Float} → Summing minus_zero f a k x → (k ≡ n) × (a + n ≡ i + 1)
    → x ≡ window_sum n f i
unfolding window_sum
window_sum_lem n i {f} {a} s (p, q) =
    let start : i + 1 - n ≡ a = omega arith in
    rw (s.is, p, start)

-- the mean at bar i, from the window's sum there
pub mean_of : (n i : ℕ) (f : Line) {x : Float} → x ≡ window_sum n f i → n ≤ i + 1 → over n x ≡ mean n f i
unfolding mean
mean_of n i f e h = rw (e, from_bar_lem (n - 1) plus_zero _ i (omega arith))

module _ {slide : Float → Float → Float → Float} {f : Line} where
  -- the first n bars are summed afresh
  pub first_running : (n : ℕ) {x : Float} → x ≡ window_sum n f (n - 1) → 0 < n → Running slide n f n x
  unfolding running_sum window_sum recur
  first_running n e h =
      let start : n - 1 + 1 - n ≡ 0 = omega arith in
      let none : n - n ≡ 0 = omega arith in
      record { is = rw (e, start, none) }

  -- bar i comes in, and bar i - n goes out
  pub next_running : {n i : ℕ} {x : Float} → Running slide n f i x → n ≤ i
      → Running slide n f (i + 1) (slide x (f i) (f (i - n)))
  unfolding running_sum recur
  next_running {n} {i} r h =
      let one : i + 1 - n ≡ suc (i - n) = omega arith in
      let bar : n + (i - n) ≡ i = omega arith in
      record { is = rw (r.is, one, bar) }

  -- the bar, written in another way
  pub same_bar : {n i j : ℕ} {x : Float} → Running slide n f i x → i ≡ j → Running slide n f j x
  same_bar r e = rw (← e) r

-- a number of bars is a float
pub count_is_float : (n : ℕ) → n ≤ 2 ^ 53 → T (in_float binary64 (pos n))
unfolding in_float
count_is_float n h = le→leb n (2 ^ 53) h

-- ---- no look-ahead

pub sum_from_same : (z : Float) (f g : Line) (a k : ℕ) → ((j : ℕ) → j < a + k → f j ≡ g j) → sum_from z f a k
    ≡ sum_from z g a k
unfolding sum_from
sum_from_same z f g a zero h = refl
sum_from_same z f g a (suc k) h = rw (sum_from_same z f g a k (λ j l. h j (omega arith)), h (a + k) (omega arith))

pub causal_mean : (n : ℕ) → Causal (mean n)
unfolding mean window_sum
causal_mean n =
    causal_from (n - 1) plus_zero
    (λ f g b s l. ap (over n) (sum_from_same minus_zero f g (b + 1 - n) n (λ i m. s i (omega arith))))

-- the running sum at bar i, k bars after bar n - 1, needs nothing after it
pub running_sum_same : (slide : Float → Float → Float → Float) (n : ℕ) (f g : Line) (i k : ℕ) → 0 < n → n + k ≤ i + 1
    → Same f g i
    → running_sum slide n f k ≡ running_sum slide n g k
unfolding running_sum
running_sum_same slide n f g i k p h s =
    recur_same _ _ _ _ k (sum_from_same minus_zero f g 0 n (λ j l. s j (omega arith)))
    (λ j x l. rw (s (n + j) (omega arith), s j (omega arith)))
