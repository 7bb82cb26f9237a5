-- The rules' calls as the contract of a request's call, and how many positions an answer has. Assumes nothing.
use mathlib.Core.Path.{◌≡◌, refl, ap, ◌∙◌}
use mathlib.Core.Bool.{Bool, true, false, cond}
use mathlib.Core.List.{List, [], ◌∷◌}
use Prim.Native.Nat.{ℕ, zero, suc, ◌≤◌}
use native.Mathlib.Omega.{arith}
use borrow.Author.Tests.{eqb-true, ne_eqb}
use lib.Dec.{leb, ltb, eqb}
use lib.ListN.{length, replicate, length-replicate}
use lib.Ieee.{Float}
use Rattle.calls.specs.declared.Refusal.{Refusal}
use Rattle.calls.specs.declared.Refusal.TheVariants.{WindowTooLong, WindowsOutOfOrder}
use Rattle.calls.specs.Answer.{Answer, any_zero, count_of, unless, and_then, empty_if, checked, windowed, answered}
use Rattle.std.specs.Prelude.{Option, Some, None, Ok, Err}
use Rattle.limits.specs.Limits.{longest_window}
use Rattle.values.specs.Accepted.{accepted, all}
use Rattle.calls.specs.Call.{Call, WorkCall}
use Rattle.cells.specs.Line.{line, plus_zero}
use Rattle.cells.specs.Written.{written}
use Rattle.rules_single.specs.Single.{single_line}
use Rattle.rules_double.specs.Double.{double_line, double_answer}
use Rattle.rules_middle.specs.Middle.{mid_line}
use Rattle.rules.specs.ByNumber.{by_rule}
use Rattle.sheet_lines.specs.declared.Request.{Request}
use Rattle.sheet_lines.specs.declared.rule.Rule.{Rule}
use Rattle.sheet_lines.specs.declared.rule.Rule.TheVariants.{Single, Double, Middle}
use Rattle.sheet_lines.specs.Rule.{rule_number, rule_of}
use Rattle.sheet_lines.specs.Header.{most_bars}
use Rattle.sheet_requests.specs.Answer.{
  work_cells,
  clear_work,
  rule_answer,
  rule_line,
  rule_cleared,
  RequestCall,
}

-- a number that gives a rule is the rule's own
numbered : (n : ℕ) (rule : Rule) → Some rule ≡ rule_of n → n ≡ rule_number rule
numbered n rule e = go (eqb n 1) (eqb n 2) (eqb n 3) (eqb-true n 1) (eqb-true n 2) (eqb-true n 3) e
  where
    go : (s t u : Bool) → (s ≡ true → n ≡ 1) → (t ≡ true → n ≡ 2) → (u ≡ true → n ≡ 3)
        → Some rule ≡ cond s (Some Single) (cond t (Some Double) (cond u (Some Middle) None))
        → n ≡ rule_number rule
    go true t u f g h e = let same : rule ≡ Single = cc in rw same (f refl)
    go false true u f g h e = let same : rule ≡ Double = cc in rw same (g refl)
    go false false true f g h e = let same : rule ≡ Middle = cc in rw same (h refl)
    go false false false f g h e = let z : ◌≡◌ {A = ℕ} 0 1 = cc in absurd (omega arith)

-- a number that is neither that of one average nor that of double
pub record Other (n : ℕ) : Type 0 where
  pub not_single : n ≡ 1 → ⊥
  pub not_double : n ≡ 2 → ⊥

-- the middle rule's number, and one that is no rule's
pub middle_other : (n : ℕ) → Some Middle ≡ rule_of n → Other n
middle_other n e =
    let is = numbered n Middle e in
    record { not_single = λ d. omega (arith, is); not_double = λ d. omega (arith, is) }

none_same : {rule : Rule} → ◌≡◌ {A = Option Rule} None (Some rule) → ⊥
none_same e = let z : ◌≡◌ {A = ℕ} 0 1 = cc in absurd (omega arith)

pub none_other : (n : ℕ) → None ≡ rule_of n → Other n
none_other n e = record { not_single = λ d. none_same (rw d at e); not_double = λ d. none_same (rw d at e) }

-- the three rules' contracts, as the contract of a request's call
module _ {r : Request} {prices out₀ work₀ : List Float} {a : Answer} {out₁ work₁ : List Float} where
  pub by_single : Some Single ≡ rule_of r.rule
      → WorkCall (answered accepted prices (r.n ∷ []) most_bars (work_cells ∷ [])) (single_line r.n (line prices)) out₀
      (length prices) work₀ a out₁ work₁
      → RequestCall r prices out₀ work₀ a out₁ work₁
  unfolding rule_answer rule_line rule_cleared
  by_single e w =
      let is = numbered r.rule Single e in
      record { call = rw is w.call; work = rw is w.work }

  pub by_double : Some Double ≡ rule_of r.rule
      → Call (double_answer prices r.n r.m most_bars) (double_line r.n r.m (line prices)) out₀ a out₁
      → work₁ ≡ work₀ → RequestCall r prices out₀ work₀ a out₁ work₁
  unfolding rule_answer rule_line rule_cleared
  by_double e w k =
      let is = numbered r.rule Double e in
      record { call = rw is w; work = rw is k }

  pub by_middle : Other r.rule
      → WorkCall (answered accepted prices (r.n ∷ []) most_bars (work_cells ∷ [])) (mid_line r.n (line prices)) out₀
      (length prices) work₀ a out₁ work₁
      → RequestCall r prices out₀ work₀ a out₁ work₁
  unfolding rule_answer rule_line rule_cleared
  by_middle other w =
      let one = ne_eqb r.rule 1 other.not_single in
      let two = ne_eqb r.rule 2 other.not_double in
      record { call = rw (one, two) w.call; work = rw (one, two) w.work }

-- a slice that is clear stays so
clear_again : (k n : ℕ) → written k (λ i. plus_zero) (replicate n plus_zero) ≡ replicate n plus_zero
clear_again zero n = refl
clear_again (suc k) zero = refl
clear_again (suc k) (suc n) = ap (λ (t : List Float). plus_zero ∷ t) (clear_again k n)

pub clear_long : {work : List Float} → work ≡ clear_work → length work ≡ work_cells
unfolding clear_work
clear_long e = ap length e ∙ length-replicate work_cells plus_zero

pub stays_clear : {r : Request} {prices out₀ work₀ : List Float} {a : Answer} {out₁ work₁ : List Float}
    → RequestCall r prices out₀ work₀ a out₁ work₁ → work₀ ≡ clear_work → work₁ ≡ work₀
unfolding clear_work
stays_clear {r} {prices} {a = a} w e = w.work ∙ rw e (clear_again (rule_cleared r prices a) work_cells)

-- an answer has at most n positions
record AtMost (n : ℕ) (a : Answer) : Type 0 where
  few : count_of a ≤ n

-- as many as there are
all_most : (n : ℕ) → AtMost n (Ok n)
all_most n = record { few = omega arith }

unless_most : {n : ℕ} (t : Bool) (q : Refusal) (next : Answer) → AtMost n next → AtMost n (unless t q next)
unless_most true q next h = h
unless_most false q next h = record { few = omega arith }

empty_if_most : {n : ℕ} (t : Bool) (next : Answer) → AtMost n next → AtMost n (empty_if t next)
empty_if_most true next h = record { few = omega arith }
empty_if_most false next h = h

and_then_most : {n : ℕ} (a next : Answer) → AtMost n next → AtMost n (and_then a next)
and_then_most (Ok k) next h = h
and_then_most (Err q) next h = record { few = omega arith }

windowed_most : {n : ℕ} (l : ℕ) (windows : List ℕ) (next : Answer) → AtMost n next → AtMost n (windowed l windows next)
unfolding windowed
windowed_most l windows next h =
    unless_most (all (λ k. leb k longest_window) windows) WindowTooLong (empty_if (any_zero (l ∷ windows)) next)
    (empty_if_most (any_zero (l ∷ windows)) next h)

answered_most : (ok : Float → Bool) (s : List Float) (windows : List ℕ) (output : ℕ) (work : List ℕ)
    → AtMost (length s) (answered ok s windows output work)
unfolding answered checked windowed
answered_most ok s windows output work =
    and_then_most (checked ok (s ∷ []) (output ∷ []) work) _
    (windowed_most (length s) windows (Ok (length s)) (all_most (length s)))

double_most : (s : List Float) (n m output : ℕ) → AtMost (length s) (double_answer s n m output)
unfolding double_answer
double_most s n m output =
    and_then_most (checked accepted (s ∷ []) (output ∷ []) []) _
    (windowed_most (length s) (n ∷ m ∷ []) _
    (unless_most (ltb n m) WindowsOutOfOrder (Ok (length s)) (all_most (length s))))

by_rule_most : {n : ℕ} (rule : ℕ) (one two three : Answer) → AtMost n one → AtMost n two → AtMost n three
    → AtMost n (by_rule rule one two three)
by_rule_most {n} rule one two three a b c = go (eqb rule 1) (eqb rule 2)
  where
    go : (s t : Bool) → AtMost n (cond s one (cond t two three))
    go true t = a
    go false true = b
    go false false = c

pub rule_most : (r : Request) (prices : List Float) → count_of (rule_answer r prices) ≤ length prices
unfolding rule_answer
rule_most r prices =
    (by_rule_most r.rule _ _ _ (answered_most _ prices _ most_bars _)
    (double_most prices r.n r.m most_bars) (answered_most _ prices _ most_bars _)).few
