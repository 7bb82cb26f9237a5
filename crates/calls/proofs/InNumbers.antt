-- From a call to its numbers, and back. Assumes nothing.
use mathlib.Core.Path.{◌≡◌, refl, sym, ◌∙◌}
use native.Mathlib.Omega.{arith}
use Rattle.calls.specs.declared.Refusal.{Refusal}
use Rattle.calls.specs.declared.Refusal.TheVariants.{
  SeriesTooLong,
  LengthsDiffer,
  OutputTooShort,
  WorkTooShort,
  ValueNotAccepted,
  ParameterNotFinite,
  WindowTooLong,
  SeriesTooShort,
  WindowsOutOfOrder,
  BrokenLine,
  LowAboveHigh,
  CoveredTwice,
  NotCovered,
  PositionUnknown,
  WeightTooLarge,
}
use Rattle.calls.specs.Answer.{Answer, number, refusal_of, count_of}
use Rattle.std.specs.Prelude.{Ok, Err}
use Rattle.calls.specs.declared.numbers.CAnswer.{CAnswer}
use Rattle.calls.specs.Numbers.{Numbers, InNumbers}

pub told : {P : Answer → Type 0} {a : Answer} {r : CAnswer} → P a → Numbers a r → InNumbers P r
told {a = a} c n = record { answer = a; call = c; numbers = n }

-- every refusal has a number other than 0
numbered : (q : Refusal) → number q ≡ 0 → ⊥
numbered SeriesTooLong e = omega arith
numbered LengthsDiffer e = omega arith
numbered OutputTooShort e = omega arith
numbered WorkTooShort e = omega arith
numbered ValueNotAccepted e = omega arith
numbered ParameterNotFinite e = omega arith
numbered WindowTooLong e = omega arith
numbered SeriesTooShort e = omega arith
numbered WindowsOutOfOrder e = omega arith
numbered BrokenLine e = omega arith
numbered LowAboveHigh e = omega arith
numbered CoveredTwice e = omega arith
numbered NotCovered e = omega arith
numbered PositionUnknown e = omega arith
numbered WeightTooLarge e = omega arith

answered_with_lem : (a : Answer) → refusal_of a ≡ 0 → a ≡ Ok (count_of a)
answered_with_lem (Ok k) e = refl
answered_with_lem (Err q) e = absurd (numbered q e)

-- Refusal 0 says that the call was answered with as many cells as the count: its contract holds of that answer.
pub accepted_call : {P : Answer → Type 0} {r : CAnswer} → InNumbers P r → r.refusal ≡ 0 → P (Ok r.count)
accepted_call {P} {r} c e =
    let n = c.numbers in
    let a : c.answer ≡ Ok r.count = answered_with_lem c.answer (sym n.refusal ∙ e) ∙ rw n.count in
    rw a at c.call
