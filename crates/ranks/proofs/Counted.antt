-- Counts of neighbouring cells: what equal cells and tests give, how many there are at most, and counting one by one.
-- Assumes nothing.
use mathlib.Core.Path.{◌≡◌, refl, ap, ◌∙◌}
use mathlib.Core.Bool.{Bool, true, false, cond}
use Prim.Native.Nat.{ℕ, zero, suc, ◌+◌, ◌-◌, ◌<◌, ◌≤◌}
use native.Mathlib.Nat.{add-zero, zero-add}
use native.Mathlib.Numerals.{add-one}
use native.Mathlib.Omega.{arith}
use mathlib.Core.List.{List}
use lib.ListN.{length, take, drop}
use lib.Ieee.{Float}
use Rattle.cells.specs.Line.{Line, line}
use Rattle.cells.proofs.Parts.{lent_long, lent_cell}
use Rattle.ranks.specs.Counted.{count_from}
use Rattle.ranks.specs.inner.Counting.{Counting}

-- equal cells are counted alike, by tests that agree on them
pub count_from_same : (t u : Float → Bool) (f g : Line) (a k : ℕ) → ((j : ℕ) → j < a + k → t (f j) ≡ u (g j))
    → count_from t f a k ≡ count_from u g a k
unfolding count_from
count_from_same t u f g a zero h = refl
count_from_same t u f g a (suc k) h =
    rw (count_from_same t u f g a k (λ j l. h j (omega arith)), h (a + k) (omega arith))

-- equal cells that stand elsewhere
count_from_moved : (test : Float → Bool) (f g : Line) (a k : ℕ) → ((j : ℕ) → j < k → f j ≡ g (a + j))
    → count_from test f 0 k ≡ count_from test g a k
unfolding count_from
count_from_moved test f g a zero h = refl
count_from_moved test f g a (suc k) h =
    rw (count_from_moved test f g a k (λ j l. h j (omega arith)), zero-add, h k (omega arith))

-- at most all of them
pub count_from_most : (t : Float → Bool) (f : Line) (a k : ℕ) → count_from t f a k ≤ k
unfolding count_from
count_from_most t f a zero = omega arith
count_from_most t f a (suc k) = go (t (f (a + k))) (count_from_most t f a k)
  where
    go : (p : Bool) → count_from t f a k ≤ k → cond p (suc (count_from t f a k)) (count_from t f a k) ≤ suc k
    go true h = omega arith
    go false h = omega arith

module _ {test : Float → Bool} {f : Line} {a : ℕ} where
  -- none is looked at yet
  pub none_counted : Counting test f a 0 0
  unfolding count_from
  none_counted = record { is = refl; most = omega arith }

  -- one more
  pub one_counted : {k x y : ℕ} → Counting test f a k x → y ≡ cond (test (f (a + k))) 1 0
      → Counting test f a (k + 1) (x + y)
  unfolding count_from
  one_counted {k} {x} {y} c e =
      let t = test (f (a + k)) in record { is = rw (add-one, c.is, e) (go t _); most = few t e }
    where
      go : (t : Bool) (n : ℕ) → n + cond t 1 0 ≡ cond t (suc n) n
      go true n = add-one n
      go false n = add-zero n

      few : (t : Bool) → y ≡ cond t 1 0 → x + y ≤ k + 1
      few true h = omega arith
      few false h = omega arith

-- the cells of a series from index a on, lent
pub counted_part : {test : Float → Bool} {x : ℕ} (s : List Float) (a k : ℕ)
    → let part = take (a + k - a) (drop a s) in
    Counting test (line part) 0 (length part) x → a + k ≤ length s → Counting test (line s) a k x
counted_part {test} {x} s a k c h =
    let part = take (a + k - a) (drop a s) in
    let long : length part ≡ k = lent_long a (a + k) s h ∙ (let e : a + k - a ≡ k = omega arith in e) in
    let most = c.most in
    record {
      is = c.is ∙ ap (count_from test (line part) 0) long
          ∙ count_from_moved test (line part) (line s) a k (λ j l. lent_cell a (a + k - a) j s (omega arith));
      most = omega arith;
    }

-- the last cell changes nothing where it does not pass
pub last_failed : (test : Float → Bool) (f : Line) (a k : ℕ) → test (f (a + k)) ≡ false
    → count_from test f a (suc k) ≡ count_from test f a k
unfolding count_from
last_failed test f a k e = rw e
