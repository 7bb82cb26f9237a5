-- So many more of a count, at once. Assumes nothing.
use mathlib.Core.Path.{◌≡◌, refl, ◌∙◌}
use mathlib.Core.Bool.{Bool, true, false}
use Prim.Native.Nat.{ℕ, zero, suc, ◌+◌, ◌<◌, ◌≤◌}
use native.Mathlib.Omega.{arith}
use borrow.Author.Tests.{ltb-true, ltb-false, lt-ltb, le-ltb}
use lib.Dec.{ltb}
use Rattle.sheet_requests.specs.Counts.{most_count, one_more, many_more}

one_fits : (n : ℕ) → n + 1 ≤ most_count → one_more n ≡ n + 1
one_fits n h = rw (lt-ltb n most_count (omega arith))

one_full : (n : ℕ) → most_count ≤ n → one_more n ≡ n
one_full n h = rw (le-ltb n most_count h)

-- they fit
pub more_fits : (k n : ℕ) → n + k ≤ most_count → many_more k n ≡ n + k
more_fits zero n h = omega arith
more_fits (suc k) n h =
    let less : n + k ≤ most_count = omega arith in
    rw (more_fits k n less) (one_fits (n + k) (omega arith) ∙ omega arith)

-- the count is full already
pub more_full : (k n : ℕ) → most_count ≤ n → many_more k n ≡ n
more_full zero n h = refl
more_full (suc k) n h = rw (more_full k n h) (one_full n h)

-- they fill it
pub more_fill : (k n : ℕ) → n ≤ most_count → most_count ≤ n + k → many_more k n ≡ most_count
more_fill zero n h l = omega arith
more_fill (suc k) n h l = go (ltb (n + k) most_count) (ltb-true _ _) (ltb-false _ _) (more_fill k n h)
  where
    go : (t : Bool) → (t ≡ true → n + k < most_count) → (t ≡ false → most_count ≤ n + k)
        → (most_count ≤ n + k → many_more k n ≡ most_count) → one_more (many_more k n) ≡ most_count
    go true f g next =
        let less = f refl in
        let fits : n + k ≤ most_count = omega arith in
        rw (more_fits k n fits) (one_fits (n + k) (omega arith) ∙ omega arith)
    go false f g next = rw (next (g refl)) (one_full most_count (omega arith))
