-- The sheet of an input has at most `sheet_room` bytes more than the input. Assumes nothing.
use mathlib.Core.Path.{◌≡◌, refl, ap, ◌∙◌}
use mathlib.Core.Bool.{Bool, true, false, cond, ◌&&◌}
use mathlib.Core.List.{List, [], ◌∷◌, ◌++◌}
use Prim.Native.Nat.{ℕ, zero, suc, ◌+◌, ◌*◌, ◌/◌, ◌≤◌}
use native.Mathlib.Numerals.{add-one}
use native.Mathlib.Omega.{arith}
use borrow.Author.Tests.{eqb-true}
use lib.Dec.{eqb}
use lib.ListN.{length, take, get_or, length-append}
use lib.Ieee.{Float, lt}
use Rattle.calls.specs.Answer.{Answer, count_of, refusal_of}
use Rattle.cells.specs.Line.{Line, plus_zero}
use Rattle.std.proofs.Common.{Result, Ok, Err}
use Rattle.sheet_lines.specs.Print.{leading, print_field}
use Rattle.sheet_lines.specs.declared.Request.{Request}
use Rattle.sheet_lines.specs.Header.{header_bytes, price_bytes, read_header, read_price_line}
use Rattle.sheet_lines.specs.Printed.{
  broken_line,
  no_such_desk,
  head_line,
  position_line,
  position_lines,
  answer_text,
  count_line,
}
use Rattle.sheet_lines.specs.declared.reasons.Reason.{Reason}
use Rattle.sheet_lines.specs.declared.reasons.Reason.TheVariants.{InputEnds}
use Rattle.sheet_lines.specs.Reason.{no_feed, columned, clean}
use Rattle.sheet_requests.specs.declared.Counts.{Counts}
use Rattle.sheet_requests.specs.Answer.{rule_answer, rule_line}
use Rattle.sheet_requests.specs.Counts.{desks, is_desk, none_yet, refused_of, after_lines, count_lines, closing}
use Rattle.sheet_requests.specs.Sheet.{
  State,
  waiting,
  collecting,
  stopped,
  Step,
  quiet,
  lengthen,
  lines,
  broken,
  completed,
  with_prices,
  begun,
  priced,
  step,
  ending,
  outcome,
  whole,
  sheet,
}
use Rattle.sheet_requests.proofs.Answered.{rule_most}
use Rattle.sheet_text.specs.SheetText.{sheet_room}

-- ---- how long the lines are

length_snoc : (xs : List ℕ) (b : ℕ) → length (xs ++ (b ∷ [])) ≡ length xs + 1
length_snoc xs b = length-append xs (b ∷ [])

length_leading : (w n : ℕ) → length (leading w n) ≡ w
length_leading zero n = refl
length_leading (suc w) n = length_snoc (leading w (n / 10)) _ ∙ rw (length_leading w (n / 10), add-one)

length_field : (w n : ℕ) → length (print_field w n) ≡ w
unfolding print_field
length_field zero n = refl
length_field (suc w) n = length_snoc (leading w (n / 10)) _ ∙ rw (length_leading w (n / 10), add-one)

length_head : (d r q c : ℕ) → length (head_line d r q c) ≡ 19
unfolding head_line
length_head d r q c = simp (length-append, length_field)

length_count : (d n : ℕ) → length (count_line d n) ≡ 17
unfolding count_line
length_count d n = simp (length-append, length_field)

length_counts : (k : ℕ) (count : ℕ → ℕ) → length (count_lines k count) ≡ 17 * k
unfolding count_lines
length_counts zero count = refl
length_counts (suc k) count =
    rw (
      length-append (count_lines k count) (count_line (suc k) (count (suc k))),
      length_counts k count,
      length_count (suc k) (count (suc k)),
    )
    (omega arith)

length_position : (x : Float) → length (position_line x) ≡ 5
length_position x = go (lt plus_zero x) (lt x plus_zero)
  where
    go : (s t : Bool)
        → length {A = ℕ} (cond s (32 ∷ 32 ∷ 32 ∷ 49 ∷ 10 ∷ [])
        (cond t (32 ∷ 32 ∷ 45 ∷ 49 ∷ 10 ∷ []) (32 ∷ 32 ∷ 32 ∷ 48 ∷ 10 ∷ [])))
        ≡ 5
    go true t = refl
    go false true = refl
    go false false = refl

length_positions : (k : ℕ) (f : Line) → length (position_lines k f) ≡ 5 * k
unfolding position_lines
length_positions zero f = refl
length_positions (suc k) f =
    rw (length-append (position_lines k f) (position_line (f k)), length_positions k f, length_position (f k))
    (omega arith)

-- ---- how long the lines read are

columned_long : (w : ℕ) (line : List ℕ) → columned w line ≡ true → length line ≡ w + 1
columned_long w line e = go (eqb (length line) (w + 1)) (eqb-true _ _) e
  where
    go : (t : Bool) → (t ≡ true → length line ≡ w + 1) → t && eqb (get_or line w 0) 10 ≡ true → length line ≡ w + 1
    go true f e = f refl
    go false f e = absurd (omega (arith, ap (λ (b : Bool). cond {A = ℕ} b 1 0) e))

-- ---- what is printed for the lines

-- how many bytes the lines have
abbrev pub all : List (List ℕ) → ℕ
all [] = 0
all (line ∷ rest) = length line + all rest

all_lines : (input : List ℕ) → all (lines input) ≡ length input
unfolding lines
all_lines [] = refl
all_lines (b ∷ rest) = go (eqb b 10) (lines rest) (all_lines rest)
  where
    longer : (ls : List (List ℕ)) → all (lengthen b ls) ≡ all ls + 1
    longer [] = refl
    longer (first ∷ others) = omega arith

    go : (t : Bool) (ls : List (List ℕ)) → all ls ≡ length rest
        → all (cond t ((b ∷ []) ∷ ls) (lengthen b ls)) ≡ length (b ∷ rest)
    go true ls e = omega arith
    go false ls e = rw (longer ls) (omega arith)

-- what a state may still print beyond a byte for each byte that it reads
abbrev owing : State → ℕ
owing (waiting c) = 291
owing (collecting c r prices) = 310 + 5 * length prices
owing (stopped c reason) = 272

-- a request with these prices is answered, or waits
with_prices_few : (c : Counts) (r : Request) (prices : List Float)
    → length (with_prices c r prices).prints + owing (with_prices c r prices).state ≤ 310 + 5 * length prices
unfolding with_prices answer_text
with_prices_few c r prices = go (eqb (length prices) r.bars)
  where
    a : Answer
    a = rule_answer r prices

    text : List ℕ
    text =
        head_line r.desk r.rule (refusal_of a) (count_of a)
        ++ position_lines (count_of a) (rule_line r prices)

    long : (t : Bool)
        → length (cond t text (head_line r.desk r.rule no_such_desk 0)) ≤ 19 + 5 * length prices
    long true =
        rw (
          length-append (head_line r.desk r.rule (refusal_of a) (count_of a))
              (position_lines (count_of a) (rule_line r prices)),
          length_head,
          length_positions,
        )
        (omega (arith, rule_most r prices))
    long false = omega (arith, length_head r.desk r.rule no_such_desk 0)

    go : (t : Bool) →
        let s : Step = cond t (completed c r prices) (quiet (collecting c r prices)) in
        length s.prints + owing s.state ≤ 310 + 5 * length prices
    go true = omega (arith, long (is_desk r.desk))
    go false = omega arith

broken_few : (c : Counts) (reason : Reason) → length (broken c reason).prints ≡ 19
broken_few c reason = length_head 0 0 broken_line 0

clean_long : {A : Type 0} (columns : ℕ) (line : List ℕ) (said : Result A Reason) (reason : Reason) {x : A}
    → cond (clean columns line) said (Err reason) ≡ Ok x → length line ≡ columns + 1
clean_long {A} columns line said reason {x} e =
    go (columned columns line) (no_feed (take columns line)) (columned_long columns line) e
  where
    go : (t u : Bool) → (t ≡ true → length line ≡ columns + 1) → cond (t && u) said (Err reason) ≡ Ok x
        → length line ≡ columns + 1
    go true u f d = f refl
    go false u f d = let z : ◌≡◌ {A = ℕ} 0 1 = cc in absurd (omega arith)

asked_long : (line : List ℕ) (r : Request) → read_header line ≡ Ok r → length line ≡ header_bytes
unfolding read_header
asked_long line r e = clean_long 26 line _ _ e

priced_long : (line : List ℕ) (x : Float) → read_price_line line ≡ Ok x → length line ≡ price_bytes
unfolding read_price_line
priced_long line x e = clean_long 12 line _ _ e

-- a line prints no more than it and the state before it allow
stepped : (s : State) (line : List ℕ)
    → length (step s line).prints + owing (step s line).state ≤ owing s + length line
stepped (stopped c reason) line = omega arith
stepped (waiting c) line = go (read_header line) (asked_long line)
  where
    go : (h : Result Request Reason) → ((r : Request) → h ≡ Ok r → length line ≡ header_bytes)
        → length (begun c h).prints + owing (begun c h).state ≤ 291 + length line
    go (Ok r) f = omega (arith, with_prices_few (after_lines 1 c) r [], f r refl)
    go (Err reason) f = omega (arith, broken_few c reason)
stepped (collecting c r prices) line = go (read_price_line line) (priced_long line)
  where
    go : (p : Result Float Reason) → ((x : Float) → p ≡ Ok x → length line ≡ price_bytes)
        → length (priced c r prices p).prints + owing (priced c r prices p).state
        ≤ 310 + 5 * length prices + length line
    go (Ok x) f =
        omega (
          arith,
          with_prices_few (after_lines 1 c) r (prices ++ (x ∷ [])),
          length-append prices (x ∷ []),
          f x refl,
        )
    go (Err reason) f = omega (arith, broken_few c reason)

ends_few : (s : State) → length (ending s).text ≤ owing s
unfolding ending
ends_few (waiting c) = omega (arith, length_counts desks (refused_of c))
ends_few (collecting c r prices) =
    omega (
      arith,
      length-append (broken c InputEnds).prints (closing (after_lines 1 c)),
      broken_few c InputEnds,
      length_counts desks (refused_of (after_lines 1 c)),
    )
ends_few (stopped c reason) = omega (arith, length_counts desks (refused_of c))

outcome_few : (s : State) (ls : List (List ℕ)) → length (outcome s ls).text ≤ owing s + all ls
unfolding outcome
outcome_few s [] = omega (arith, ends_few s)
outcome_few s (line ∷ rest) =
    omega (
      arith,
      length-append (step s line).prints (outcome (step s line).state rest).text,
      stepped s line,
      outcome_few (step s line).state rest,
    )

-- the sheet of any input has room
pub sheet_few : (input : List ℕ) → length (sheet input) ≤ length input + sheet_room
unfolding whole
sheet_few input = omega (arith, outcome_few (waiting none_yet) (lines input), all_lines input)
