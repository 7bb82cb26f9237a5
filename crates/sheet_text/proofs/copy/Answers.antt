-- `copy` meets its contract: each byte is written behind those before it. Assumes nothing.
use mathlib.Core.Path.{◌≡◌, refl}
use mathlib.Core.List.{List}
use Prim.Native.Nat.{ℕ, ◌+◌, ◌<◌}
use native.Mathlib.Nat.{add-zero}
use native.Mathlib.Omega.{arith}
use lib.ListN.{length, get_or, set, length-set}
use Rattle.cells.proofs.Written.{step}
use Rattle.sheet_text.specs.inner.Standing.{Copied}
use Rattle.sheet_text.proofs.copy.Goals as goal

module _ {text : List ℕ} {at : ℕ} {old : List ℕ} where
  none-copied : Copied text 0 at old old
  none-copied = record { is = λ f first w h. rw add-zero w }

  one-copied : {i : ℕ} {now : List ℕ} → Copied text i at old now → at + i < length old
      → Copied text (i + 1) at old (set now (at + i) (get_or text i 0))
  one-copied {i} c l =
      record {
        is = λ f first w h.
            step (at + i) (at + (i + 1)) (c.is f first w (λ j k. h j (omega arith))) (h i (omega arith))
            (omega (arith, w.long));
      }

pub loop-i-init : goal.loop-i-init
loop-i-init c = (refl, none-copied)

pub loop-i-preserved : goal.loop-i-preserved
loop-i-preserved c =
    let (long, copied) = c.loop-i.invariant in
    (simp length-set long, one-copied copied (omega arith))

pub returns : goal.returns
returns c =
    let (long, copied) = c.loop-i.invariant in
    let all : c.loop-i.i ≡ c.args.count = omega arith in
    rw (← all) copied
