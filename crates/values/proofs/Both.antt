-- A test in two parts: one that is true of a good number, and bits of which a good number has none. Assumes nothing.
use Rattle.std.proofs.Common.{◌≡◌, ℕ, zero, suc, ◌+◌, Bool, true, ◌&&◌, eqb, refl, ◌∙◌, arith, ne_eqb}
use lib.Bits.{bit_or, or_add_and, and_le_r}
use lib.Ieee.{Float}
use Rattle.cells.specs.Line.{Line}
use Rattle.values.specs.inner.Part.{Passing}
use Rattle.values.proofs.All.{and_turns}
use Rattle.values.proofs.Part.{none_passing, one_passing}

-- the k numbers from index a on pass if `good` is true and no bit is set: what the loops keep
pub record Tested (p : Float → Bool) (f : Line) (a k : ℕ) (good : Bool) (bits : ℕ) : Type 0 where
  pub both : Passing p f a k (good && eqb bits 0)

-- no bit is set in either
neither : (a b : ℕ) → eqb (bit_or a b) 0 ≡ eqb a 0 && eqb b 0
neither zero b = refl
neither (suc a) b = rw (ne_eqb (suc a) 0 (λ e. omega arith))
    (ne_eqb (bit_or (suc a) b) 0 (λ e. omega (arith, or_add_and (suc a) b, and_le_r (suc a) b)))

module _ {p : Float → Bool} {f : Line} {a : ℕ} where
  pub none_tested : Tested p f a 0 true 0
  none_tested = record { both = none_passing }

  -- the next number
  pub one_tested : {good : Bool} {bits k : ℕ} (t : Bool) (b i : ℕ) → Tested p f a k good bits → t && eqb b 0 ≡ p (f i)
      → a + k ≡ i
      → Tested p f a (k + 1) (good && t) (bit_or bits b)
  one_tested {good} {bits} t b i r e g =
      record {
        both = record {
          is = rw (neither bits b) (and_turns good t (eqb bits 0) (eqb b 0) ∙ (one_passing i r.both e g).is);
        };
      }
