-- A line feed among the columns of a price breaks them. Assumes nothing.
use mathlib.Core.Path.{◌≡◌, refl, sym, ◌∙◌}
use mathlib.Core.Bool.{Bool, true, false, not, cond, ◌&&◌, true≢false, false≢true}
use mathlib.Core.List.{List, [], ◌∷◌}
use Prim.Native.Nat.{ℕ, ◌+◌, ◌-◌, ◌*◌}
use native.Mathlib.Omega.{arith}
use borrow.Author.Tests.{eqb-true}
use lib.Dec.{eqb}
use lib.Ieee.{Float}
use Rattle.std.proofs.Common.{Some, None}
use Rattle.sheet_lines.specs.Reason.{no_feed}
use Rattle.sheet_lines.specs.Read.{
  unpadded,
  is_digit,
  number_after,
  number,
  signed,
  read_price,
  positive,
  negative,
}

-- a line feed is no digit
digits_fed : (digits : List ℕ) (v : ℕ) → no_feed digits ≡ false → number_after v digits ≡ None
digits_fed [] v e = absurd (false≢true (sym e))
digits_fed (b ∷ rest) v e = go (is_digit b) (eqb b 10) (eqb-true b 10) refl e (digits_fed rest (10 * v + (b - 48)))
  where
    go : (d t : Bool) → (t ≡ true → b ≡ 10) → is_digit b ≡ d → not t && no_feed rest ≡ false
        → (no_feed rest ≡ false → number_after (10 * v + (b - 48)) rest ≡ None)
        → cond d (number_after (10 * v + (b - 48)) rest) None ≡ None
    go false t f i e next = refl
    go true false f i e next = next e
    go true true f i e next = absurd (true≢false (sym i ∙ rw (f refl)))

number_fed : (digits : List ℕ) → no_feed digits ≡ false → number digits ≡ None
unfolding number
number_fed [] e = refl
number_fed (b ∷ rest) e = digits_fed (b ∷ rest) 0 e

-- blanks in front have no line feed
unpadded_fed : (columns : List ℕ) → no_feed columns ≡ false → no_feed (unpadded columns) ≡ false
unpadded_fed [] e = e
unpadded_fed (b ∷ rest) e = go (eqb b 32) (eqb-true b 32) refl e (unpadded_fed rest)
  where
    go : (t : Bool) → (t ≡ true → b ≡ 32) → eqb b 32 ≡ t → no_feed (b ∷ rest) ≡ false
        → (no_feed rest ≡ false → no_feed (unpadded rest) ≡ false)
        → no_feed (cond t (unpadded rest) (b ∷ rest)) ≡ false
    go true f i e next = next (rw (f refl) at e)
    go false f i e next = e

signed_fed : (columns : List ℕ) → no_feed columns ≡ false → signed columns ≡ None
unfolding signed
signed_fed [] e = refl
signed_fed (b ∷ rest) e = go (eqb b 45) (eqb-true b 45)
  where
    go : (t : Bool) → (t ≡ true → b ≡ 45) → cond t (negative (number rest)) (positive (number (b ∷ rest))) ≡ None
    go true f = rw (number_fed rest (rw (f refl) at e))
    go false f = rw (number_fed (b ∷ rest) e)

price_fed : (columns : List ℕ) → no_feed columns ≡ false → read_price columns ≡ None
unfolding read_price
price_fed columns e = signed_fed (unpadded columns) (unpadded_fed columns e)

pub priced_unfed : (columns : List ℕ) (x : Float) → read_price columns ≡ Some x → no_feed columns ≡ true
priced_unfed columns x e = go (no_feed columns) (price_fed columns)
  where
    go : (t : Bool) → (t ≡ false → read_price columns ≡ None) → t ≡ true
    go true h = refl
    go false h = let none : read_price columns ≡ None = h refl in let z : ◌≡◌ {A = ℕ} 0 1 = cc in absurd (omega arith)
