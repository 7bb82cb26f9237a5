-- A pass that copies numbers leaves them as they stand. Assumes nothing.
use mathlib.Core.Path.{◌≡◌, refl, sym}
use mathlib.Core.Bool.{cond}
use mathlib.Core.List.{List}
use Prim.Native.Nat.{ℕ}
use lib.Ieee.{Float, nan, inf, fin, is_nan}
use Rattle.cells.specs.Line.{Line, line}
use Rattle.cells.specs.Written.{Writing}
use Rattle.cells.proofs.Written.{stood}
use Rattle.jurik.specs.Jurik.{copied, is_number}

-- a copy of numbers is the line as it is
copied_numbers : (f : Line) (i : ℕ) → f i ≡ copied is_number nan f i
unfolding copied is_nan
copied_numbers f i = go (f i)
  where
    go : (x : Float) → x ≡ cond (is_number x) x nan
    go nan = refl
    go (inf s) = refl
    go (fin s m e) = refl

pub copied_stands : (k : ℕ) (s : List Float) → Writing k (copied is_number nan (line s)) s s
copied_stands k s = stood nan (λ i h. sym (copied_numbers (line s) i))
