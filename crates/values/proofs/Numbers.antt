-- Accepted values are numbers, and so are their differences. Assumes nothing.
use Rattle.std.proofs.Common.{◌≡◌, ℕ, ◌<◌, true, false, T, List, length, get_or, sym, refl, subst, true≢false}
use lib.Ieee.{Float, nan, inf, fin, binary64, sub, lt, eq, le, is_nan}
use lib.Ieee.Scale.{finite}
use Rattle.rounding.proofs.Signs.{difference_number}
use Rattle.values.specs.Accepted.{accepted, all}
use Rattle.values.proofs.All.{all_at}

pub accepted_finite : (x : Float) → accepted x ≡ true → finite x ≡ true
unfolding accepted le lt eq
accepted_finite nan e = absurd (true≢false (sym e))
accepted_finite (inf true) e = absurd (true≢false (sym e))
accepted_finite (inf false) e = absurd (true≢false (sym e))
accepted_finite (fin s m d) e = refl

-- the difference of two, each of its own series
pub values_apart : (s t : List Float) (i j : ℕ) → all accepted s ≡ true → all accepted t ≡ true → i < length s
    → j < length t → is_nan (sub binary64 (get_or s i nan) (get_or t j nan)) ≡ false
values_apart s t i j p q h k = difference_number _ _ (number s i p h) (number t j q k)
  where
    number : (s : List Float) (i : ℕ) → all accepted s ≡ true → i < length s → T (finite (get_or s i nan))
    number s i p h = subst T (sym (accepted_finite (get_or s i nan) (all_at accepted s i p h))) tt
