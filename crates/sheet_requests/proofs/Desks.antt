-- What the test of a desk says, and the lines of the counts one after another. Assumes nothing.
use mathlib.Core.Path.{◌≡◌, refl}
use mathlib.Core.Bool.{Bool, true, false, ◌&&◌, false≢true}
use mathlib.Core.List.{List}
use Prim.Native.Nat.{ℕ, ◌+◌, ◌*◌, ◌≤◌}
use native.Mathlib.Nat.{add-zero}
use native.Mathlib.Numerals.{add-one}
use native.Mathlib.Omega.{arith}
use borrow.Author.Tests.{leb-true}
use lib.Dec.{leb}
use Rattle.sheet_lines.specs.Printed.{count_line}
use Rattle.sheet_lines.specs.inner.Adds.{Adds}
use Rattle.sheet_lines.proofs.Printing.{add_none, add_more}
use Rattle.sheet_requests.specs.Counts.{desks, is_desk, count_lines}

-- desks 1 to 16
pub desk_between : (desk : ℕ) → is_desk desk ≡ true → (1 ≤ desk) × (desk ≤ desks)
desk_between desk e = go (leb 1 desk) (leb desk desks) e (leb-true _ _) (leb-true _ _)
  where
    go : (s t : Bool) → s && t ≡ true → (s ≡ true → 1 ≤ desk) → (t ≡ true → desk ≤ desks)
        → (1 ≤ desk) × (desk ≤ desks)
    go true true e f g = (f refl, g refl)
    go true false e f g = absurd (false≢true e)
    go false t e f g = absurd (false≢true e)

-- the lines of the first i desks
pub record Printed (at i : ℕ) (count : ℕ → ℕ) (old now : List ℕ) : Type 0 where
  pub text : Adds at (count_lines i count) (at + 17 * i) old now

module _ {at : ℕ} {count : ℕ → ℕ} {old : List ℕ} where
  pub none_printed : Printed at 0 count old old
  unfolding count_lines
  none_printed = record { text = rw add-zero add_none }

  pub one_printed : {i n : ℕ} {mid now : List ℕ} → Printed at i count old mid → n ≡ count (i + 1)
      → Adds (at + 17 * i) (count_line (i + 1) n) (at + 17 * i + 17) mid now → Printed at (i + 1) count old now
  unfolding count_lines
  one_printed {i} p e w =
      let next : at + 17 * (i + 1) ≡ at + 17 * i + 17 = omega arith in
      record { text = rw (next, add-one) (add_more p.text (rw (e, add-one) at w) refl) }
