-- The lines of the positions, one after another, and that an answer prints those of its output. Assumes nothing.
use mathlib.Core.Path.{◌≡◌, refl}
use mathlib.Core.List.{List}
use Prim.Native.Nat.{ℕ, zero, suc, ◌+◌, ◌*◌, ◌<◌, ◌≤◌}
use native.Mathlib.Nat.{add-zero}
use native.Mathlib.Numerals.{add-one}
use native.Mathlib.Omega.{arith}
use lib.ListN.{length, take}
use lib.Seq.{length-take-le, get_or-take}
use lib.Ieee.{Float, nan}
use Rattle.calls.specs.Answer.{Answer, count_of}
use Rattle.cells.specs.Line.{Line, line}
use Rattle.cells.specs.Written.{written}
use Rattle.cells.proofs.Written.{getd_written}
use Rattle.sheet_lines.specs.inner.Adds.{Adds}
use Rattle.sheet_lines.proofs.Printing.{add_none, add_more}
use Rattle.sheet_lines.specs.declared.Request.{Request}
use Rattle.sheet_lines.specs.Printed.{position_line, position_lines, answer_text}

-- the text of the first i positions of f
pub record Printed (at i : ℕ) (f : Line) (old now : List ℕ) : Type 0 where
  pub text : Adds at (position_lines i f) (at + 5 * i) old now

module _ {at : ℕ} {f : Line} {old : List ℕ} where
  pub none_printed : Printed at 0 f old old
  unfolding position_lines
  none_printed = record { text = rw add-zero add_none }

  pub one_printed : {i : ℕ} {x : Float} {mid now : List ℕ} → Printed at i f old mid → x ≡ f i
      → Adds (at + 5 * i) (position_line x) (at + 5 * i + 5) mid now → Printed at (i + 1) f old now
  unfolding position_lines
  one_printed {i} p e w =
      let next : at + 5 * (i + 1) ≡ at + 5 * i + 5 = omega arith in
      record { text = rw (next, add-one, ← e) (add_more p.text w refl) }

-- lines that agree print the same
pub positions_same : (k : ℕ) (f g : Line) → ((i : ℕ) → i < k → f i ≡ g i) → position_lines k f ≡ position_lines k g
unfolding position_lines
positions_same zero f g h = refl
positions_same (suc k) f g h = rw (positions_same k f g (λ i l. h i (omega arith)), h k (omega arith))

-- the first cells of a slice print what the slice does there
pub first_positions : (k : ℕ) (cells : List Float) → k ≤ length cells
    → position_lines (length (take k cells)) (line (take k cells)) ≡ position_lines k (line cells)
first_positions k cells h =
    rw (length-take-le k cells h)
    (positions_same k (line (take k cells)) (line cells) (λ i l. get_or-take k cells i nan l))

-- an answer prints what its output holds
pub text_same : (r : Request) (a : Answer) (f : Line) (old : List Float) → count_of a ≤ length old
    → answer_text r a (line (written (count_of a) f old)) ≡ answer_text r a f
unfolding answer_text
text_same r a f old h =
    rw (positions_same (count_of a) (line (written (count_of a) f old)) f
    (λ i l. getd_written (count_of a) f old i nan l (omega arith)))
