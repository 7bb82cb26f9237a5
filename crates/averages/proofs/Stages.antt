-- What the functions under the averages ask of each other. Assumes nothing.
use mathlib.Core.Path.{◌≡◌, refl}
use mathlib.Core.Bool.{Bool, true, false}
use mathlib.Core.List.{List, [], ◌∷◌}
use Prim.Native.Nat.{ℕ, ◌<◌}
use lib.ListN.{length}
use lib.Ieee.{Float}
use Rattle.calls.specs.Answer.{Answer, unless, answered, count_of}
use Rattle.std.specs.Prelude.{Ok, Err}
use Rattle.calls.specs.declared.Refusal.TheVariants.{ValueNotAccepted}
use Rattle.calls.proofs.Room.{room, answered_room, answered_windows}
use Rattle.calls.specs.Call.{Call}
use Rattle.calls.proofs.Call.{refused, counted}
use Rattle.cells.specs.Line.{Line}
use Rattle.cells.specs.Written.{Writing}
use Rattle.windows.specs.inner.Windows.{WindowRoom}
use Rattle.values.specs.Accepted.{accepted, all}

-- ---- a call whose lengths are in order: the values decide

module _ (s : List Float) {t : Bool} (e : t ≡ all accepted s) where
  pub values_pass : {f : Line} {old now : List Float} → t ≡ true → Writing (length s) f old now
      → Call (unless (all accepted s) ValueNotAccepted (Ok (length s))) f old (Ok (length s)) now
  values_pass p w = counted (rw (← e, p)) w

  pub values_fail : {f : Line} {old : List Float} → t ≡ false
      → Call (unless (all accepted s) ValueNotAccepted (Ok (length s))) f old (Err ValueNotAccepted) old
  values_fail p = refused (rw (← e, p)) refl

-- ---- a call with one window

-- where there are cells to be written, there is room for them, and a window
pub window_room : (ok : Float → Bool) (s : List Float) (n out : ℕ) {r : Answer} → r ≡ answered ok s (n ∷ []) out []
    → 0 < count_of r
    → WindowRoom n (length s) out
window_room ok s n out e h = record {
  window = (answered_windows ok s (n ∷ []) out [] e h).0;
  room = (answered_room ok s (n ∷ []) out [] e h).out_long;
}
