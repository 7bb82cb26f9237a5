-- What the loop that reads a block goes by. Assumes nothing.
use mathlib.Core.Path.{◌≡◌, ◌∙◌}
use mathlib.Core.Bool.{Bool, true, false, not}
use mathlib.Core.List.{List, ◌++◌, append_assoc}
use Prim.Native.Nat.{ℕ, ◌+◌, ◌-◌, ◌<◌, ◌≤◌}
use native.Mathlib.Omega.{arith}
use lib.ListN.{length, take, drop, length-drop}
use lib.Seq.{take_all, drop-length}
use lib.Ieee.{Float}
use Rattle.sheet_lines.specs.declared.reasons.Reason.TheVariants.{LineLength}
use Rattle.sheet_lines.specs.Reason.{no_feed}
use Rattle.sheet_lines.proofs.LineLength.{fed_of, unfed_of}
use Rattle.sheet_requests.specs.declared.blocks.Place.{Place}
use Rattle.sheet_requests.specs.Sheet.{lines, outcome}
use Rattle.sheet_requests.specs.declared.blocks.Sheet.{Sheet}
use Rattle.sheet_requests.specs.declared.blocks.Stage.{Stage}
use Rattle.sheet_requests.specs.declared.blocks.Stage.TheVariants.{Waiting, Collecting, Stopped}
use Rattle.sheet_requests.specs.inner.Place.{state_of, text_owed, answer_if_complete, Incomplete, SteppedInRoom}
use Rattle.sheet_requests.specs.inner.Taken.{text_room, Placed, total, Taken}
use Rattle.sheet_text.specs.inner.Block.{Fed}
use Rattle.sheet_requests.specs.inner.Lent.{Lent}

-- What the loop that reads a block keeps.
pub record Feeding (block : List ℕ) (p : Place) (series work : List Float) (text : List ℕ)
    (q : Place) (series' out' work' : List Float) (text' : List ℕ) : Type 0 where
  pub same : (more : List ℕ) → total block p series text more ≡ total block q series' text' more
  pub placed : Placed block q
  pub lent : Lent series' out' work'
  pub clear : work' ≡ work
  pub long : length text' ≡ length text

-- what a request owes has room in the text of a block of its own
pub text_owed_few : (stage : Stage) → Incomplete stage → text_owed stage ≤ text_room
text_owed_few Waiting s = omega arith
text_owed_few (Collecting r got) s = omega arith
text_owed_few (Stopped reason) s = omega arith

-- From p to q nothing is lost: all that it comes to is the same, whatever follows the block.
pub record Onward (block : List ℕ) (p : Place) (series : List Float) (text : List ℕ) (q : Place) (series' : List Float)
    (text' : List ℕ) : Type 0 where
  pub same : (more : List ℕ) → total block p series text more ≡ total block q series' text' more
  pub placed : Placed block q
  pub forth : p.at < q.at

-- reading lines and answering the request that then has all its prices goes onward
pub onward : {block : List ℕ} {p r q : Place} {series series' : List Float} {text text' text'' : List ℕ}
    → Taken block p series text r series' text'
    → SteppedInRoom (answer_if_complete r.sheet.stage r.sheet.counts series') series' r.at r.filled q text'
    text''
    (r.filled + text_owed r.sheet.stage)
    → Onward block p series text q series' text''
onward taken answered =
    let made = answered.made in
    record {
      same = λ more. taken.same more ∙ rw (made.state, made.place, made.text.text, append_assoc);
      placed = record {
        incomplete = answered.incomplete;
        within = omega (arith, taken.within, made.place);
        room = omega (arith, answered.few, taken.room, made.place);
      };
      forth = omega (arith, taken.forth, made.place);
    }

-- ---- a line feed among the bytes that are left

module _ (block : List ℕ) (at : ℕ) {r : Bool} (is : r ≡ not (no_feed (take (length block - at) (drop at block)))) where
  all : take (length block - at) (drop at block) ≡ drop at block
  all = take_all (length block - at) (drop at block) (omega (arith, length-drop at block))

  pub fed_rest : r ≡ true → no_feed (drop at block) ≡ false
  fed_rest e = rw all at (fed_of r _ is e)

  pub unfed_rest : r ≡ false → no_feed (drop at block) ≡ true
  unfed_rest e = rw all at (unfed_of r _ is e)

-- a short line was met, and the block is read to its end
pub stopped : {q r : Place} {series' : List Float} {text' text'' : List ℕ} (sheet : Sheet) (block : List ℕ)
    (series : List Float)
    → ((more : List ℕ) → outcome (state_of sheet.stage sheet.counts series) (lines (block ++ more))
    ≡ total block q series' text' more)
    → Taken block q series' text' r series' text'' → r.sheet.stage ≡ Stopped LineLength → r.at ≡ length block
    → Fed sheet block series r series' text''
stopped sheet block series same taken stage end =
    record {
      same = λ more. same more ∙ taken.same more ∙ rw stage;
      placed = record { incomplete = rw stage tt; within = taken.within; room = taken.room };
      few = rw stage (omega (arith, end));
      unended = rw (end, drop-length block);
    }
