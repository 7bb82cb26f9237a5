-- The sheet of an input is made of the answers to its requests, and of the counts of the desks. Assumes nothing.
use mathlib.Core.Path.{◌≡◌, refl, sym, ◌∙◌}
use mathlib.Core.Bool.{Bool, true, false, cond, ◌&&◌, true≢false}
use mathlib.Core.List.{List, [], ◌∷◌, ◌++◌, append_assoc}
use Prim.Native.Nat.{ℕ, zero, suc, ◌+◌, ◌-◌, ◌<◌, ◌≤◌, min}
use native.Mathlib.Nat.{min-eq_left, min-eq_right}
use native.Mathlib.Omega.{arith}
use borrow.Author.Tests.{leb-true, leb-false, le-leb, eqb-true, eqb-false}
use lib.Dec.{leb, eqb}
use lib.ListN.{length, get_or, replicate, length-set}
use lib.Seq.{get_or-set_same, get_or-set_other}
use lib.Ieee.{Float}
use Rattle.calls.specs.Answer.{Answer}
use Rattle.std.specs.Prelude.{Ok, Err}
use Rattle.std.proofs.Common.{Option, Result, Ok, Err}
use Rattle.sheet_lines.specs.declared.Request.{Request}
use Rattle.sheet_lines.specs.declared.reasons.Reason.{Reason}
use Rattle.sheet_lines.specs.Header.{read_header, read_price_line}
use Rattle.sheet_requests.specs.declared.Counts.{Counts}
use Rattle.sheet_requests.specs.declared.status.Fault.{Fault}
use Rattle.sheet_requests.specs.Answer.{rule_answer}
use Rattle.sheet_requests.specs.Counts.{
  desks,
  is_desk,
  most_count,
  one_more,
  many_more,
  none_yet,
  after,
  after_lines,
  count_lines,
}
use Rattle.sheet_requests.specs.Sheet.{
  State,
  waiting,
  collecting,
  stopped,
  Complete,
  Step,
  quiet,
  broken,
  counted_after,
  completed,
  with_prices,
  begun,
  priced,
  lines,
  ending,
  outcome,
  whole,
  sheet,
  broken_at,
}
use Rattle.sheet_requests.specs.inner.Place.{finally}
use Rattle.sheet_requests.specs.ByDesk.{
  requests_from,
  requests_of,
  answers_of,
  broken_text,
  only,
  of_desk,
  is_refusal,
  refused_by_rule,
  refusals,
  desk_count,
}
use Rattle.sheet_requests.proofs.Counting.{more_fits, more_fill}
use Rattle.sheet_requests.proofs.Desks.{desk_between}
use Rattle.sheet_requests.proofs.Lines.{outcome_stopped}

-- ---- one request more

-- a request that is among these, if the test says so
pub refusals_cons : (t : Bool) (q : Complete) (l : List Complete)
    → refusals (cond t (q ∷ l) l) ≡ cond (t && refused_by_rule q) 1 0 + refusals l
refusals_cons true q l = go (refused_by_rule q)
  where
    go : (u : Bool)
        → length (cond u (q ∷ only refused_by_rule l) (only refused_by_rule l)) ≡ cond u 1 0 + refusals l
    go true = omega arith
    go false = omega arith
refusals_cons false q l = omega arith

more_first : (k n : ℕ) → many_more k (one_more n) ≡ one_more (many_more k n)
more_first zero n = refl
more_first (suc k) n = rw (more_first k n)

more_or_none : (t : Bool) (k n : ℕ) → many_more (cond t 1 0 + k) n ≡ many_more k (cond t (one_more n) n)
more_or_none true k n =
    let next : 1 + k ≡ suc k = omega arith in
    rw next (sym (more_first k n))
more_or_none false k n =
    let none : 0 + k ≡ k = omega arith in
    rw none

-- a request that is counted counts for its own desk
one_counted : (c : Counts) (r : Request) (prices : List Float) (d : ℕ) → length c.refused ≡ desks
    → (1 ≤ d) × (d ≤ desks)
    → get_or (counted_after c r prices).refused (d - 1) 0
    ≡ cond (eqb r.desk d && is_refusal (rule_answer r prices)) (one_more (get_or c.refused (d - 1) 0))
    (get_or c.refused (d - 1) 0)
one_counted c r prices d long (low, high) = go (is_desk r.desk) refl (rule_answer r prices) (eqb r.desk d) refl
  where
    ours : r.desk ≡ d → is_desk r.desk ≡ true
    ours e = rw (e, le-leb 1 d low, le-leb d desks high)

    go : (t : Bool) → is_desk r.desk ≡ t → (a : Answer) (u : Bool) → eqb r.desk d ≡ u
        → get_or (cond t (after c r a) c).refused (d - 1) 0
        ≡ cond (u && is_refusal a) (one_more (get_or c.refused (d - 1) 0)) (get_or c.refused (d - 1) 0)
    go false i a true e = absurd (true≢false (sym (ours (eqb-true r.desk d e)) ∙ i))
    go false i a false e = refl
    go true i (Ok k) true e = refl
    go true i (Ok k) false e = refl
    go true i (Err q) true e =
        rw (eqb-true r.desk d e) (get_or-set_same c.refused (d - 1) _ 0 (omega (arith, long)))
    go true i (Err q) false e =
        let (some, most) = desk_between r.desk i in
        get_or-set_other c.refused (r.desk - 1) (d - 1) _ 0 (λ z. eqb-false r.desk d e (omega arith))

still_long : (c : Counts) (r : Request) (prices : List Float) → length c.refused ≡ desks
    → length (counted_after c r prices).refused ≡ desks
still_long c r prices long = go (is_desk r.desk) (rule_answer r prices)
  where
    go : (t : Bool) (a : Answer) → length (cond t (after c r a) c).refused ≡ desks
    go true (Ok k) = long
    go true (Err q) = length-set c.refused (r.desk - 1) _ ∙ long
    go false a = long

-- ---- the counts after requests

-- the count of a desk, after these requests
abbrev count_from : List ℕ → List Complete → ℕ → ℕ
count_from refused requests d = many_more (refusals (only (of_desk d) requests)) (get_or refused (d - 1) 0)

counts_same : (k : ℕ) (f g : ℕ → ℕ) → ((d : ℕ) → (1 ≤ d) × (d ≤ k) → f d ≡ g d) → count_lines k f ≡ count_lines k g
unfolding count_lines
counts_same zero f g h = refl
counts_same (suc k) f g h =
    rw (counts_same k f g (λ d l. h d (omega arith)), h (suc k) (omega arith))

first_counted : (c : Counts) (r : Request) (prices : List Float) (rest : List Complete) → length c.refused ≡ desks
    → count_lines desks (count_from (counted_after c r prices).refused rest)
    ≡ count_lines desks (count_from c.refused (record { request = r; prices = prices } ∷ rest))
first_counted c r prices rest long =
    counts_same desks _ _ (λ d l.
    rw (
      one_counted c r prices d long l,
      refusals_cons (eqb r.desk d) (record { request = r; prices = prices }) (only (of_desk d) rest),
      more_or_none (eqb r.desk d && is_refusal (rule_answer r prices)) (refusals (only (of_desk d) rest))
          (get_or c.refused (d - 1) 0),
    ))

-- ---- what the lines print

-- the counts of a state, and what it prints for a line that breaks its columns
abbrev refused_in : State → List ℕ
refused_in (waiting c) = c.refused
refused_in (collecting c r prices) = c.refused
refused_in (stopped c reason) = c.refused

abbrev owed : State → Option Fault → List ℕ
owed (waiting c) fault = broken_text fault
owed (collecting c r prices) fault = broken_text fault
owed (stopped c reason) fault = []

-- the answers to the requests, what is owed for a broken line, and the counts
abbrev all_of : List Complete → List ℕ → List ℕ → List ℕ
all_of requests broken refused = answers_of requests ++ (broken ++ count_lines desks (count_from refused requests))

abbrev Tells : State → List (List ℕ) → Type 0
Tells s ls =
    length (refused_in s) ≡ desks
    → (outcome s ls).text ≡ all_of (requests_from s ls) (owed s (outcome s ls).fault) (refused_in s)

-- the same of a step that is made before the lines
abbrev TellsAfter : List ℕ → Step → List (List ℕ) → Type 0
TellsAfter refused t ls =
    (finally t ls).text
    ≡ all_of (t.completes ++ requests_from t.state ls) (broken_text (finally t ls).fault) refused

no_more : (c : Counts) (reason : Reason) (ls : List (List ℕ)) → requests_from (stopped c reason) ls ≡ []
unfolding requests_from
no_more c reason [] = refl
no_more c reason (line ∷ rest) = no_more c reason rest

broken_tells : (c : Counts) (reason : Reason) (ls : List (List ℕ)) → TellsAfter c.refused (broken c reason) ls
unfolding ending
broken_tells c reason ls = rw (outcome_stopped (after_lines 1 c) reason ls, no_more (after_lines 1 c) reason ls)

module _ (ls : List (List ℕ)) (next : (s : State) → Tells s ls) where
  with_prices_tells : (c : Counts) (r : Request) (prices : List Float) → length c.refused ≡ desks
      → TellsAfter c.refused (with_prices c r prices) ls
  unfolding with_prices
  with_prices_tells c r prices long = go (eqb (length prices) r.bars)
    where
      go : (t : Bool) → TellsAfter c.refused (cond t (completed c r prices) (quiet (collecting c r prices))) ls
      go true =
          rw (
            next (waiting (counted_after c r prices)) (still_long c r prices long),
            first_counted c r prices (requests_from (waiting (counted_after c r prices)) ls) long,
            append_assoc,
          )
      go false = next (collecting c r prices) long

tells : (s : State) (ls : List (List ℕ)) → Tells s ls
unfolding outcome requests_from ending
tells (waiting c) [] long = refl
tells (collecting c r prices) [] long = refl
tells (stopped c reason) [] long = refl
tells (stopped c reason) (line ∷ rest) long = tells (stopped c reason) rest long
tells (waiting c) (line ∷ rest) long = go (read_header line) (λ s. tells s rest)
  where
    go : (h : Result Request Reason) → ((s : State) → Tells s rest) → TellsAfter c.refused (begun c h) rest
    go (Ok r) next = with_prices_tells rest next (after_lines 1 c) r [] long
    go (Err reason) next = broken_tells c reason rest
tells (collecting c r prices) (line ∷ rest) long = go (read_price_line line) (λ s. tells s rest)
  where
    go : (p : Result Float Reason) → ((s : State) → Tells s rest) → TellsAfter c.refused (priced c r prices p) rest
    go (Ok x) next = with_prices_tells rest next (after_lines 1 c) r (prices ++ (x ∷ [])) long
    go (Err reason) next = broken_tells c reason rest

-- ---- from the first line on

from_none : (k : ℕ) → many_more k 0 ≡ min most_count k
from_none k = go (leb k most_count) (leb-true _ _) (leb-false _ _)
  where
    go : (t : Bool) → (t ≡ true → k ≤ most_count) → (t ≡ false → most_count < k) → many_more k 0 ≡ min most_count k
    go true f g =
        let few = f refl in
        more_fits k 0 (omega arith) ∙ rw (min-eq_right few) (omega arith)
    go false f g =
        let many : most_count ≤ k = omega (arith, g refl) in
        more_fill k 0 (omega arith) (omega arith) ∙ rw (min-eq_left many)

none_at : (n i : ℕ) → get_or {A = ℕ} (replicate n 0) i 0 ≡ 0
none_at zero i = refl
none_at (suc n) zero = refl
none_at (suc n) (suc i) = none_at n i

pub sheet_is : (input : List ℕ) → sheet input
    ≡ answers_of (requests_of input) ++ (broken_text (broken_at input) ++ count_lines desks (desk_count input))
unfolding whole
sheet_is input =
    tells (waiting none_yet) (lines input) refl
    ∙ rw (counts_same desks (count_from none_yet.refused (requests_of input)) (desk_count input)
    (λ d l. rw (none_at desks (d - 1)) (from_none (refusals (only (of_desk d) (requests_of input))))))
