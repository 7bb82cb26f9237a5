-- A part of the input fed, and what it prints written behind what is written. Assumes nothing.
use mathlib.Core.Path.{◌≡◌, refl, sym, ap, ◌∙◌}
use mathlib.Core.Bool.{true}
use mathlib.Core.List.{List, [], ◌++◌, append_assoc, append-nil}
use Prim.Native.Nat.{ℕ, ◌+◌, ◌-◌, ◌<◌, ◌≤◌}
use native.Mathlib.Omega.{arith}
use lib.ListN.{length, take, drop, get_or, length-append, length-drop, take-append-drop, get_or-append}
use lib.Seq.{length-take-le, take_all, drop-append-le, drop-drop, get_or-append-add, get_or-take}
use lib.Ieee.{Float}
use Rattle.cells.specs.Written.{Writing}
use Rattle.cells.proofs.Written.{none_written, stands, then_written}
use Rattle.sheet_lines.specs.Header.{header_bytes}
use Rattle.sheet_lines.specs.Reason.{no_feed}
use Rattle.sheet_requests.specs.declared.blocks.Place.{Place}
use Rattle.sheet_requests.specs.declared.blocks.Stage.{Stage}
use Rattle.sheet_requests.specs.declared.blocks.Stage.TheVariants.{Waiting, Collecting, Stopped}
use Rattle.sheet_requests.specs.inner.Place.{state_of, beginning, next_line_bytes}
use Rattle.sheet_requests.specs.inner.Finished.{Finished}
use Rattle.sheet_requests.specs.declared.status.Status.TheVariants.{Done}
use Rattle.sheet_text.specs.inner.Block.{Fed}
use Rattle.sheet_requests.specs.Sheet.{lines, Outcome, outcome, whole, sheet}
use Rattle.sheet_text.specs.SheetText.{sheet_room, bytes_of}
use Rattle.sheet_text.specs.inner.Standing.{part_bytes, text_bytes, Copied, Standing, Parted}
use Rattle.sheet_text.proofs.Bound.{sheet_few}

-- after k bytes come the first n bytes of a text
module _ {whole : List ℕ} {k n : ℕ} (done text rest : List ℕ) (is : whole ≡ done ++ (take n text ++ rest))
    (long : length done ≡ k) (fits : n ≤ length text) where
  pub reaches : k + n ≤ length whole
  reaches =
      rw (is, length-append done (take n text ++ rest), length-append (take n text) rest, length-take-le n text fits)
      (omega arith)

  pub byte : (i : ℕ) → i < n → get_or text i 0 ≡ bytes_of whole (k + i)
  byte i l =
      rw (
        is,
        ← long,
        get_or-append-add done (take n text ++ rest) i 0,
        get_or-append (take n text) rest 0 i (rw (length-take-le n text fits) l),
        get_or-take n text i 0 l,
      )

-- the bytes of a part, which starts at a
abbrev pub part_of : ℕ → ℕ → List ℕ → List ℕ
part_of a e input = take (e - a) (drop a input)

pub length_part : (a e : ℕ) (input : List ℕ) → e ≤ length input → length (part_of a e input) ≡ e - a
length_part a e input h = length-take-le (e - a) (drop a input) (rw (length-drop a input) (omega arith))

-- the part of the input from p to `end` is fed, up to q
module _ {input old : List ℕ} {p q : Place} {series series' : List Float} {text out : List ℕ} (end : ℕ)
    (w : Standing input old p series out)
    (fed : Fed p.sheet (part_of p.at end input) series q series' text)
    (fit : (p.at ≤ end) × (end ≤ length input) × (end ≤ p.at + part_bytes) × (length text ≡ text_bytes)) where
  long_block : length (part_of p.at end input) ≡ end - p.at
  long_block = length_part p.at end input fit.1

  -- what follows the part
  abbrev after : List ℕ
  after = drop (end - p.at) (drop p.at input)

  apart : part_of p.at end input ++ after ≡ drop p.at input
  apart = take-append-drop (end - p.at) (drop p.at input)

  rest_is : drop q.at (part_of p.at end input) ++ after ≡ drop (p.at + q.at) input
  rest_is =
      sym (drop-append-le q.at (part_of p.at end input) after fed.placed.within)
      ∙ ap (λ (t : List ℕ). drop q.at t) apart ∙ drop-drop q.at p.at input

  -- what is still to come
  abbrev others : Outcome
  others = outcome (state_of q.sheet.stage q.sheet.counts series') (lines (drop (p.at + q.at) input))

  same_after : sheet input ≡ w.done ++ (take q.filled text ++ others.text)
  same_after =
      let fed_same = fed.same after in
      w.same ∙ ap (λ (o : Outcome). w.done ++ o.text) (rw (apart, rest_is) at fed_same)

  -- up to the end of the input no line feed is left
  all_fed : end ≡ length input → no_feed (drop (p.at + q.at) input) ≡ true
  all_fed e =
      let all : part_of p.at end input ≡ drop p.at input =
      take_all (end - p.at) (drop p.at input) (rw (length-drop p.at input) (omega arith)) in
      rw (← drop-drop q.at p.at input, ← all) fed.unended

  pub up_to : p.at + q.at ≤ end
  up_to = omega (arith, fit.0, rw long_block at fed.placed.within)

  pub text_fits : q.filled ≤ length text
  text_fits = omega (arith, fed.placed.room, up_to, fit.2, fit.3)

  -- what it prints has room in the output
  pub out_fits : p.filled + q.filled ≤ length input + sheet_room
  out_fits = omega (arith, reaches w.done text others.text same_after w.long text_fits, sheet_few input)

  pub parted : {out' : List ℕ} → Copied text q.filled p.filled out out'
      → Parted input old p end
      (record { sheet = q.sheet; at = p.at + q.at; filled = p.filled + q.filled }) series' out'
  parted copied =
      record {
        standing = record {
          done = w.done ++ take q.filled text;
          same = rw append_assoc same_after;
          long = rw (length-append, length-take-le q.filled text text_fits, w.long);
          within = omega (arith, up_to, fit.1);
          incomplete = fed.placed.incomplete;
          written = copied.is (bytes_of (sheet input)) old w.written
              (byte w.done text others.text same_after w.long text_fits);
        };
        more = omega arith;
        upto = up_to;
        few = omega (arith, rw long_block at fed.few, up_to, fit.0);
        unended = all_fed;
      }

-- ---- from part to part

-- what is written stands there, for the next part too
pub stand_on : {input old : List ℕ} {p : Place} {series : List Float} {out : List ℕ}
    → Standing input old p series out → Standing input out p series out
stand_on w =
    record {
      done = w.done;
      same = w.same;
      long = w.long;
      within = w.within;
      incomplete = w.incomplete;
      written = stands w.written;
    }

pub stand_over : {input old : List ℕ} {p q : Place} {end : ℕ} {series series' : List Float} {out out' : List ℕ}
    → Standing input old p series out → Parted input out p end q series' out' → Standing input old q series' out'
stand_over v t =
    let w = t.standing in
    record {
      done = w.done;
      same = w.same;
      long = w.long;
      within = w.within;
      incomplete = w.incomplete;
      written = then_written v.written w.written t.more;
    }

-- before the first byte
pub stand_first : (input : List ℕ) (series : List Float) (out : List ℕ)
    → Standing input out (record { sheet = beginning; at = 0; filled = 0 }) series out
unfolding whole
stand_first input series out =
    record { done = []; same = refl; long = refl; within = omega arith; incomplete = tt; written = none_written }

-- no line is longer
pub next_line_few : (stage : Stage) → next_line_bytes stage ≤ header_bytes
next_line_few Waiting = omega arith
next_line_few (Collecting r got) = omega arith
next_line_few (Stopped reason) = omega arith

-- a part that is full goes onward
pub goes_on : {input old : List ℕ} {p q : Place} {end : ℕ} {series : List Float} {out : List ℕ}
    → Parted input old p end q series out → end ≡ p.at + part_bytes → p.at < q.at
goes_on {q = q} t e = omega (arith, t.few, t.upto, next_line_few q.sheet.stage)

-- ---- the end

module _ {input old : List ℕ} {p : Place} {series : List Float} {out text : List ℕ} {r : ℕ}
    (w : Standing input old p series out)
    (last : Finished Done p.sheet (length input - p.at) r text)
    (unended : no_feed (drop p.at input) ≡ true) where
  all_of : sheet input ≡ w.done ++ (take r text ++ [])
  all_of =
      w.same
      ∙ ap (λ (t : List ℕ). w.done ++ t)
      (sym (last.is series (drop p.at input) (length-drop p.at input) unended) ∙ sym (append-nil _))

  pub end_fits : p.filled + r ≤ length input + sheet_room
  end_fits = omega (arith, reaches w.done text [] all_of w.long last.within, sheet_few input)

  all_of_it : p.filled + r ≡ length (sheet input)
  all_of_it =
      rw (all_of, append-nil, length-append w.done (take r text), length-take-le r text last.within, w.long)

  pub all_written : {out' : List ℕ} → Copied text r p.filled out out'
      → (p.filled + r ≡ length (sheet input)) × Writing (p.filled + r) (bytes_of (sheet input)) old out'
  all_written copied = (
    all_of_it,
    copied.is (bytes_of (sheet input)) old w.written (byte w.done text [] all_of w.long last.within),
  )
