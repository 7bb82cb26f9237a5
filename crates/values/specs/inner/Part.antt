-- A test of some cells of a line. Assumes nothing.
use Rattle.std.specs.Prelude.{◌≡◌, ℕ, zero, suc, ◌+◌, ◌^◌, Bool, true, not, ◌&&◌, ◌==◌, to_bits, T, Float}
use Rattle.std.specs.Float.{binary64}
use Rattle.std.specs.Float.Ieee.{fits}
use Rattle.cells.specs.Line.{Line}

-- whether the k cells from index a on pass
unfoldable pub pass_from : (Float → Bool) → Line → ℕ → ℕ → Bool
pass_from p f a zero = true
pass_from p f a (suc k) = pass_from p f a k && p (f (a + k))

-- t tells that
pub record Passing (p : Float → Bool) (f : Line) (a k : ℕ) (t : Bool) : Type 0 where
  pub is : t ≡ pass_from p f a k

-- a closure of which `gives x r` says that r may be its result answers as the test does, of every number but -0.0
pub record Answers (test : Float → Bool) (gives : Float → Bool → Type 0) : Type 0 where
  pub as_test : (x : Float) (r : Bool) → T (fits binary64 x) → gives x r
      → r && not (to_bits binary64 x == 2 ^ 63) ≡ test x
