-- The contract of a call in numbers, as C programs see it. Assumes nothing.
use Rattle.std.specs.Prelude.{◌≡◌}
use Rattle.calls.specs.Answer.{Answer, refusal_of, count_of}
use Rattle.calls.specs.declared.numbers.CAnswer.{CAnswer}

-- r holds the numbers of an answer
pub record Numbers (answer : Answer) (r : CAnswer) : Type 0 where
  pub refusal : r.refusal ≡ refusal_of answer
  pub count : r.count ≡ count_of answer

-- r holds, in numbers, the answer of a call whose contract is P
pub record InNumbers (P : Answer → Type 0) (r : CAnswer) : Type 0 where
  pub answer : Answer
  pub call : P answer
  pub numbers : Numbers answer r
