-- A line feed among bytes that are too few for a line breaks the line, whatever follows. Assumes nothing.
use mathlib.Core.Path.{◌≡◌, refl}
use mathlib.Core.Bool.{Bool, true, false, not, ◌&&◌, true≢false}
use mathlib.Core.List.{List, [], ◌∷◌, ◌++◌}
use Prim.Native.Nat.{ℕ, ◌<◌, ◌≤◌}
use native.Mathlib.Omega.{arith}
use lib.Dec.{eqb}
use lib.ListN.{length, take}
use lib.Ieee.{Float}
use Rattle.sheet_lines.specs.declared.reasons.Reason.TheVariants.{LineLength}
use Rattle.sheet_lines.specs.Reason.{no_feed}
use Rattle.sheet_lines.specs.Printed.{head_bytes}
use Rattle.sheet_requests.specs.declared.Counts.{Counts}
use Rattle.sheet_requests.specs.Sheet.{lines, State, broken, outcome}
use Rattle.sheet_requests.specs.inner.Place.{state_of, next_line_bytes, text_owed, finally}
use Rattle.sheet_requests.specs.declared.blocks.Stage.{Stage}
use Rattle.sheet_requests.specs.declared.blocks.Stage.TheVariants.{Waiting, Collecting, Stopped}
use Rattle.sheet_requests.proofs.Strict.{header_reader, price_reader}
use Rattle.sheet_requests.proofs.Lines.{First, Reader, too_short}

-- the first line ends among the bytes `rest`
record Early (rest more : List ℕ) : Type 0 where
  line : First (rest ++ more)
  early : length line.first ≤ length rest
  fed : no_feed line.first ≡ false

early_line : (rest more : List ℕ) → no_feed rest ≡ false → Early rest more
unfolding lines
early_line [] more e = absurd (true≢false e)
early_line (b ∷ rest) more e = go (eqb b 10) refl e (early_line rest more)
  where
    go : (t : Bool) → eqb b 10 ≡ t → not t && no_feed rest ≡ false → (no_feed rest ≡ false → Early rest more)
        → Early (b ∷ rest) more
    go true d e next =
        record {
          line = record {
            first = b ∷ [];
            others = lines (rest ++ more);
            is = rw d;
            prefix = refl;
            short = omega arith;
            ended = λ h. rw d;
          };
          early = omega arith;
          fed = rw d;
        }
    go false d e next =
        let f = next e in
        record {
          line = record {
            first = b ∷ f.line.first;
            others = f.line.others;
            is = rw (d, f.line.is);
            prefix = rw f.line.prefix;
            short = omega (arith, f.line.short);
            ended = λ h. rw (d, f.fed);
          };
          early = omega (arith, f.early);
          fed = rw (d, f.fed);
        }

-- so few bytes with a line feed are a line of another length
pub fed_short : {s : State} {w : ℕ} {counts : Counts} → Reader s w counts
    → (rest more : List ℕ) (others : List (List ℕ)) → no_feed rest ≡ false → length rest ≤ w
    → outcome s (lines (rest ++ more)) ≡ finally (broken counts LineLength) others
fed_short reader rest more others e h =
    let f = early_line rest more e in
    too_short reader f.line others (omega (arith, f.early)) f.fed

pub fed_some : (rest : List ℕ) → no_feed rest ≡ false → 0 < length rest
fed_some [] e = absurd (true≢false e)
fed_some (b ∷ rest) e = omega arith

-- in every stage
pub short_breaks : (stage : Stage) (counts : Counts) (series : List Float) (rest more : List ℕ)
    (others : List (List ℕ)) → length rest < next_line_bytes stage → no_feed rest ≡ false
    → outcome (state_of stage counts series) (lines (rest ++ more)) ≡ finally (broken counts LineLength) others
short_breaks Waiting counts series rest more others h e =
    fed_short (header_reader counts) rest more others e (omega arith)
short_breaks (Collecting r got) counts series rest more others h e =
    fed_short (price_reader counts r (take got series)) rest more others e (omega arith)
short_breaks (Stopped reason) counts series rest more others h e = absurd (omega (arith, fed_some rest e))

-- and its refusal has room
pub short_text_owed : (stage : Stage) (rest : List ℕ) → length rest < next_line_bytes stage → no_feed rest ≡ false
    → head_bytes ≤ text_owed stage
short_text_owed Waiting rest h e = omega arith
short_text_owed (Collecting r got) rest h e = omega arith
short_text_owed (Stopped reason) rest h e = absurd (omega (arith, fed_some rest e))
