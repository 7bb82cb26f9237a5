-- What so many bytes say as a line, by its line feed. Assumes nothing.
use mathlib.Core.Path.{◌≡◌, refl, sym, ◌∙◌}
use mathlib.Core.Bool.{Bool, true, false, not, ◌&&◌, false≢true}
use mathlib.Core.List.{List}
use Prim.Native.Nat.{ℕ, ◌+◌, ◌<◌}
use native.Mathlib.Omega.{arith}
use borrow.Author.Tests.{eq-eqb, ne_eqb, lt-leb}
use lib.ListN.{length, take, get_or}
use Rattle.std.proofs.Common.{Result, Err}
use Rattle.sheet_lines.specs.declared.reasons.Reason.{Reason}
use Rattle.sheet_lines.specs.declared.reasons.Reason.TheVariants.{LineLength}
use Rattle.sheet_lines.specs.Reason.{no_feed, of_columns}

-- ---- a test for a line feed

pub fed_of : (r t : Bool) → r ≡ not t → r ≡ true → t ≡ false
fed_of r true e d = absurd (false≢true (sym e ∙ d))
fed_of r false e d = refl

pub unfed_of : (r t : Bool) → r ≡ not t → r ≡ false → t ≡ true
unfed_of r true e d = refl
unfed_of r false e d = absurd (false≢true (sym d ∙ e))

unclean : (t : Bool) → t && false ≡ false
unclean true = refl
unclean false = refl

-- ---- w columns and a byte more

module _ {A : Type 0} (line : List ℕ) (w : ℕ) (said : Result A Reason) (h : length line ≡ w + 1) where
  long : w < length line
  long = omega arith

  pub no_end : (get_or line w 0 ≡ 10 → ⊥) → of_columns w line said ≡ Err LineLength
  no_end e = rw (eq-eqb _ _ h, ne_eqb _ _ e, lt-leb (length line) w long)

  pub feed_within : no_feed (take w line) ≡ false → of_columns w line said ≡ Err LineLength
  feed_within e = rw (e, unclean _, lt-leb (length line) w long)

  pub all_columns : no_feed (take w line) ≡ true → get_or line w 0 ≡ 10 → of_columns w line said ≡ said
  all_columns e d = rw (eq-eqb _ _ h, eq-eqb _ _ d, e)
