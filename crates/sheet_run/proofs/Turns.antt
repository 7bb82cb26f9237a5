-- What the turns come to: turns one after another, and then the end, make the whole sheet. Assumes nothing.
use mathlib.Core.Path.{◌≡◌, refl, sym, ap, ◌∙◌}
use mathlib.Core.Bool.{true}
use mathlib.Core.List.{List, [], ◌++◌, append_assoc, append-nil}
use Prim.Native.Nat.{ℕ, ◌-◌}
use native.Mathlib.Omega.{arith}
use lib.ListN.{length, take, take-append-drop}
use lib.Seq.{slice, length-slice, take-take}
use lib.Ieee.{Float}
use Rattle.sheet_lines.specs.Reason.{no_feed}
use Rattle.sheet_requests.specs.declared.status.Status.TheVariants.{Done}
use Rattle.sheet_requests.specs.Sheet.{lines, Outcome, printing, outcome, whole, sheet, broken_at}
use Rattle.sheet_requests.specs.Whole.{Reached}
use Rattle.sheet_run.specs.declared.carried.Carried.{Carried}
use Rattle.sheet_run.specs.declared.Closed.{Closed}
use Rattle.sheet_run.specs.inner.Start.{start}
use Rattle.sheet_run.specs.inner.Buffers.{block_bytes}
use Rattle.sheet_run.specs.Run.{status_of}
use Rattle.sheet_run.specs.Turn.{state_after, unread, Carrying, Turned, Closes}

pub start_carrying : Carrying start
start_carrying =
    record { between = record { incomplete = tt; few = omega arith }; some = omega arith; within = omega arith }

-- After some turns `input` is all that was read, and `out` all that was handed over to be written.
pub record Turns (input out : List ℕ) (c : Carried) (block : List ℕ) (series : List Float) : Type 0 where
  pub reached : Reached input out (state_after c series) (unread c block)
  pub unended : no_feed (unread c block) ≡ true

-- before the first turn
pub no_turn : (block : List ℕ) (series : List Float) → Turns [] [] start block series
unfolding whole
no_turn block series =
    record { reached = record { same = λ more. refl }; unended = refl }

-- a turn more: the bytes that came in it, and the text that it handed over
pub one_turn : {input out : List ℕ} {p q : Carried} {block block' : List ℕ} {series series' : List Float}
    {text : List ℕ}
    → Turns input out p block series → Turned p block series q block' series' text
    → Turns (input ++ slice (p.end - p.place.at) q.end block') (out ++ take q.place.filled text) q block'
    series'
one_turn {input} {out} {p} {q} {block} {block'} {series} w t =
    let kept = p.end - p.place.at in
    let new = slice kept q.end block' in
    let left = unread p block in
    let all : take q.end block' ≡ left ++ new =
    sym (take-append-drop kept (take q.end block'))
    ∙ rw (take-take kept q.end block' (omega (arith, t.end)), t.kept) in
    let steps : (more : List ℕ) → outcome (state_after p series) (lines ((left ++ new) ++ more))
    ≡ outcome (state_after p series) (lines (take q.end block' ++ more)) =
    λ more. ap (λ (t : List ℕ). outcome (state_after p series) (lines (t ++ more))) (sym all) in
    record {
      reached = record {
        same = λ more. rw (
          append_assoc input new more,
          w.reached.same (new ++ more),
          ← append_assoc left new more,
          steps more ∙ t.steps more,
          append_assoc,
        );
      };
      unended = t.unended;
    }

-- the end: where all was read and written, the text that was handed over is the sheet of
-- the input, and the line that is told is the one where the input breaks
module _ {input out : List ℕ} {c : Carried} {block : List ℕ} {series : List Float} {r : Closed} {text : List ℕ}
    (turns : Turns input out c block series) (closes : Closes c r text) (long : length block ≡ block_bytes)
    (carrying : Carrying c) (done : status_of c ≡ Done) where
  rest_long : length (unread c block) ≡ c.end - c.place.at
  rest_long = length-slice c.place.at c.end block (omega (arith, carrying.within))

  all : whole input ≡ printing out (outcome (state_after c series) (lines (unread c block)))
  all = rw (append-nil, append-nil) at (turns.reached.same [])

  pub whole_sheet : out ++ take r.output.bytes text ≡ sheet input
  whole_sheet =
      let last = closes.prints series (unread c block) rest_long turns.unended in
      rw (last, done) (sym (ap (λ (o : Outcome). o.text) all))

  pub right_fault : r.fault ≡ broken_at input
  right_fault =
      closes.tells series (unread c block) rest_long turns.unended ∙ sym (ap (λ (o : Outcome). o.fault) all)
