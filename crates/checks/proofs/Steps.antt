-- The table of refusals, step by step: a refusal stands and ends the call, and after a count comes what is next.
-- Assumes nothing.
use Rattle.std.specs.Prelude.{◌≡◌, Bool, true, false, Ok, Err, ℕ}
use Rattle.std.proofs.Common.{refl, ◌∙◌}
use Rattle.calls.specs.declared.Refusal.{Refusal}
use Rattle.calls.specs.Answer.{Answer, and_then, unless, empty_if}

module _ (next : Answer) {due r x : Answer} (e : r ≡ due) where
  pub stopped : {q : Refusal} → r ≡ Err q → x ≡ Err q → x ≡ and_then due next
  stopped p h = rw (← e, p) h

  pub went_on : {k : ℕ} → r ≡ Ok k → x ≡ next → x ≡ and_then due next
  went_on p h = rw (← e, p) h

-- three steps, one after the other
pub and_then_assoc : (a b c : Answer) → and_then (and_then a b) c ≡ and_then a (and_then b c)
and_then_assoc (Ok k) b c = refl
and_then_assoc (Err q) b c = refl

module _ (q : Refusal) (next : Answer) {t : Bool} where
  pub refused_there : t ≡ false → Err q ≡ unless t q next
  refused_there p = rw p

  pub let_pass : {x : Answer} → t ≡ true → x ≡ next → x ≡ unless t q next
  let_pass p h = rw p h

-- a test with a refusal of its own, before what is next
unless_first : (t : Bool) (q : Refusal) (k : ℕ) (next : Answer) → and_then (unless t q (Ok k)) next ≡ unless t q next
unless_first true q k next = refl
unless_first false q k next = refl

module _ (t : Bool) (q : Refusal) (k : ℕ) (next : Answer) {r x : Answer} (e : r ≡ unless t q (Ok k)) where
  pub stopped_there : {p : Refusal} → r ≡ Err p → x ≡ Err p → x ≡ unless t q next
  stopped_there p h = stopped next e p h ∙ unless_first t q k next

  pub passed_there : {j : ℕ} → r ≡ Ok j → x ≡ next → x ≡ unless t q next
  passed_there p h = went_on next e p h ∙ unless_first t q k next

module _ (next : Answer) {t : Bool} where
  pub emptied : t ≡ true → Ok 0 ≡ empty_if t next
  emptied p = rw p

  pub not_empty : {x : Answer} → t ≡ false → x ≡ next → x ≡ empty_if t next
  not_empty p h = rw p h
