-- `sheet_text` meets its contract: a short output is refused, and else the whole sheet is written. Assumes nothing.
use mathlib.Core.Path.{◌≡◌, refl, ap}
use mathlib.Core.List.{List}
use Prim.Native.Nat.{ℕ, ◌≤◌, ◌<◌, ◌+◌}
use native.Mathlib.Omega.{arith}
use borrow.Author.Rules.{rules}
use borrow.Author.Tests.{le-leb, lt-leb}
use lib.ListN.{length, replicate}
use lib.Ieee.{Float, binary64, of_bits}
use Rattle.std.specs.Prelude.{Ok, Err}
use Rattle.calls.specs.declared.Refusal.TheVariants.{OutputTooShort}
use Rattle.cells.specs.Line.{plus_zero}
use Rattle.cells.specs.Written.{Writing}
use Rattle.sheet_requests.specs.Answer.{work_cells, clear_work}
use Rattle.sheet_requests.specs.Sheet.{sheet}
use Rattle.sheet_text.specs.SheetText.{sheet_room, bytes_of, SheetCall}
use Rattle.sheet_text.proofs.sheet_text.Goals as goal
use Rattle.sheet_text.proofs.sheet_text.Goals.{Else-out-input}

zero : of_bits binary64 0 ≡ plus_zero
unfolding of_bits
zero = refl

clear : replicate work_cells (of_bits binary64 0) ≡ clear_work
unfolding clear_work
clear = ap (λ (x : Float). replicate work_cells x) zero

too_short : (input out : List ℕ) → length out < length input + sheet_room
    → SheetCall input out (Err OutputTooShort) out
too_short input out h = record { answer = rw (lt-leb (length input + sheet_room) (length out) h); cells = refl }

long-enough : (input out : List ℕ) {r : ℕ} {out' : List ℕ} → length input + sheet_room ≤ length out
    → (r ≡ length (sheet input)) × Writing r (bytes_of (sheet input)) out out' → SheetCall input out (Ok r) out'
long-enough input out h (e, w) =
    record { answer = rw (le-leb (length input + sheet_room) (length out) h, e); cells = w.is }

-- neither test failed
room : (c : Else-out-input) →
    length c.args.input.now + sheet_room ≤ length c.args.out.now
room c = omega (arith, c.if-out-input.false, c.if-out-lt-SHEET_ROOM.false)

pub returns-then-out-lt-SHEET_ROOM : goal.returns-then-out-lt-SHEET_ROOM
returns-then-out-lt-SHEET_ROOM c =
    too_short c.args.input.now c.args.out.now (omega (arith, c.if-out-lt-SHEET_ROOM.true))

pub returns-then-out-input : goal.returns-then-out-input
returns-then-out-input c =
    too_short c.args.input.now c.args.out.now (omega (arith, c.if-out-input.true, c.if-out-lt-SHEET_ROOM.false))

pub fill-requires : goal.fill-requires
fill-requires c = (
  record { series_long = search rules; out_long = search rules; work_clear = clear },
  search rules,
  room (goal.at.fill-requires c).Else-out-input,
)

pub returns : goal.returns
returns c =
    long-enough c.args.input.now c.args.out.now (room (goal.at.returns c).Else-out-input) c.fill.ensures
