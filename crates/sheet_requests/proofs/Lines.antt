-- Reading so many bytes as a line is the same as reading the input's first line: a line
-- of another length breaks its columns either way, for the same reason. Assumes nothing.
use mathlib.Core.Path.{◌≡◌, refl, sym, ap, ◌∙◌}
use mathlib.Core.Bool.{Bool, true, false, not, cond, ◌&&◌, false≢true}
use mathlib.Core.List.{List, [], ◌∷◌, ◌++◌, append_assoc}
use Prim.Native.Nat.{ℕ, zero, suc, ◌+◌, ◌-◌, ◌<◌, ◌≤◌}
use native.Mathlib.Omega.{arith}
use borrow.Author.Tests.{eqb-true, ne_eqb, leb-true, le-leb}
use lib.Dec.{leb, eqb}
use lib.ListN.{length, take, drop, get_or, take-append-drop, length-append, length-drop}
use lib.Seq.{slice, drop-drop, take_all, take-suc, take-append-le, length-take-le}
use Rattle.sheet_lines.specs.declared.reasons.Reason.{Reason}
use Rattle.sheet_lines.specs.declared.reasons.Reason.TheVariants.{LineLength, InputEnds}
use Rattle.sheet_lines.specs.Reason.{no_feed, clean, cut_short}
use Rattle.cells.proofs.Kept.{take_drop}
use Rattle.sheet_requests.specs.declared.Counts.{Counts}
use Rattle.sheet_requests.specs.inner.Place.{finally}
use Rattle.sheet_requests.specs.Sheet.{lengthen, lines, State, stopped, broken, step, ending, outcome}

-- ---- lines

-- bytes up to a line feed are a line
lines_feed : (v more : List ℕ) → no_feed v ≡ true → lines (v ++ (10 ∷ more)) ≡ (v ++ (10 ∷ [])) ∷ lines more
unfolding lines
lines_feed [] more h = refl
lines_feed (b ∷ v) more h = go (eqb b 10) h (λ e. lines_feed v more e)
  where
    go : (t : Bool) → not t && no_feed v ≡ true
        → (no_feed v ≡ true → lines (v ++ (10 ∷ more)) ≡ (v ++ (10 ∷ [])) ∷ lines more)
        → cond t ((b ∷ []) ∷ lines (v ++ (10 ∷ more))) (lengthen b (lines (v ++ (10 ∷ more))))
        ≡ (b ∷ (v ++ (10 ∷ []))) ∷ lines more
    go false e next = rw (next e)
    go true e next = absurd (false≢true e)

-- the first line of some bytes, which begin with it; where others follow, it ends with a line feed
pub record First (bytes : List ℕ) : Type 0 where
  pub first : List ℕ
  pub others : List (List ℕ)
  pub is : lines bytes ≡ first ∷ others
  pub prefix : take (length first) bytes ≡ first
  pub short : length first ≤ length bytes
  pub ended : length first < length bytes → no_feed first ≡ false

alone : (b : ℕ) (t : Bool) → eqb b 10 ≡ t → First (b ∷ [])
unfolding lines
alone b true e =
    record {
      first = b ∷ [];
      others = [];
      is = rw e;
      prefix = refl;
      short = omega arith;
      ended = λ h. absurd (omega arith);
    }
alone b false e =
    record {
      first = b ∷ [];
      others = [];
      is = rw e;
      prefix = refl;
      short = omega arith;
      ended = λ h. absurd (omega arith);
    }

before : (b : ℕ) {rest : List ℕ} (t : Bool) → eqb b 10 ≡ t → First rest → First (b ∷ rest)
unfolding lines
before b {rest} true e f =
    record {
      first = b ∷ [];
      others = lines rest;
      is = rw e;
      prefix = refl;
      short = omega arith;
      ended = λ h. rw e;
    }
before b false e f =
    record {
      first = b ∷ f.first;
      others = f.others;
      is = rw (e, f.is);
      prefix = ap (λ (t : List ℕ). b ∷ t) f.prefix;
      short = omega (arith, f.short);
      ended = λ h. rw (e, f.ended (omega arith));
    }

pub first_line : (b : ℕ) (rest : List ℕ) → First (b ∷ rest)
first_line b [] = alone b (eqb b 10) refl
first_line b (c ∷ rest) = before b (eqb b 10) refl (first_line c rest)

-- so many bytes of a block from a place on
pub bytes_at : (at w : ℕ) (block : List ℕ) → take (at + w - at) (drop at block) ≡ slice at (at + w) block
bytes_at at w block = let same : at + w - at ≡ w = omega arith in rw (same, take_drop at w block)

-- ---- what the lines come to from a state on

pub outcome_stopped : (counts : Counts) (reason : Reason) (rest : List (List ℕ))
    → outcome (stopped counts reason) rest ≡ ending (stopped counts reason)
unfolding outcome
outcome_stopped counts reason [] = refl
outcome_stopped counts reason (line ∷ rest) = outcome_stopped counts reason rest

-- nothing that follows a broken line is read
pub finally_broken : (counts : Counts) (reason : Reason) (rest other : List (List ℕ))
    → finally (broken counts reason) rest ≡ finally (broken counts reason) other
finally_broken counts reason rest other = rw (outcome_stopped _ reason rest, outcome_stopped _ reason other)

-- a line that is long enough, or has a line feed, is not cut short
pub not_cut : (w : ℕ) (line : List ℕ) → (length line ≤ w → no_feed line ≡ false) → cut_short w line ≡ false
not_cut w line h = go (leb (length line) w) (leb-true _ _)
  where
    go : (t : Bool) → (t ≡ true → length line ≤ w) → t && no_feed line ≡ false
    go true f = h (f refl)
    go false f = refl

no_feed_take : (k : ℕ) (bytes : List ℕ) → no_feed bytes ≡ true → no_feed (take k bytes) ≡ true
no_feed_take zero bytes e = refl
no_feed_take (suc k) [] e = refl
no_feed_take (suc k) (b ∷ bytes) e = go (not (eqb b 10)) e (no_feed_take k bytes)
  where
    go : (t : Bool) → t && no_feed bytes ≡ true → (no_feed bytes ≡ true → no_feed (take k bytes) ≡ true)
        → t && no_feed (take k bytes) ≡ true
    go true e next = next e
    go false e next = absurd (false≢true e)

-- A state whose lines have w columns: a line that is not clean breaks it, for its length or since the input ends there.
pub record Reader (s : State) (w : ℕ) (counts : Counts) : Type 0 where
  pub breaks : (line : List ℕ) → clean w line ≡ false
      → step s line ≡ broken counts (cond (cut_short w line) InputEnds LineLength)

module _ {s : State} {w : ℕ} {counts : Counts} (reader : Reader s w counts) where
  -- why a line that is not clean breaks
  abbrev why : List ℕ → Reason
  why line = cond (cut_short w line) InputEnds LineLength

  -- an unclean first line
  unclean : {bytes : List ℕ} (f : First bytes) (rest : List (List ℕ)) → clean w f.first ≡ false
      → outcome s (lines bytes) ≡ finally (broken counts (why f.first)) rest
  unfolding outcome
  unclean f rest e = rw (f.is, reader.breaks f.first e) (finally_broken counts (why f.first) f.others rest)

  -- an unclean line that is not cut short has another length
  other_length : (line : List ℕ) → clean w line ≡ false → (length line ≤ w → no_feed line ≡ false)
      → why line ≡ LineLength
  other_length line e h = rw (not_cut w line h)

  -- a first line with a line feed that comes too early breaks for its length
  pub too_short : {bytes : List ℕ} (f : First bytes) (rest : List (List ℕ)) → length f.first ≤ w
      → no_feed f.first ≡ false → outcome s (lines bytes) ≡ finally (broken counts LineLength) rest
  too_short f rest h e =
      let short : length f.first ≡ w + 1 → ⊥ = λ z. omega arith in
      let bad : clean w f.first ≡ false = rw (ne_eqb _ _ short) in
      unclean f rest bad ∙ rw (other_length f.first bad (λ l. e))

  -- a line that is clean is whole and unbroken
  clean_true : (line : List ℕ) → clean w line ≡ true
      → (length line ≡ w + 1) × (get_or line w 0 ≡ 10) × (no_feed (take w line) ≡ true)
  clean_true line e = go (eqb (length line) (w + 1)) (eqb (get_or line w 0) 10) e (eqb-true _ _) (eqb-true _ _)
    where
      go : {P Q : Type 0} (a b : Bool) → (a && b) && no_feed (take w line) ≡ true → (a ≡ true → P) → (b ≡ true → Q)
          → P × Q × (no_feed (take w line) ≡ true)
      go true true e p q = (p refl, q refl, e)
      go true false e p q = absurd (false≢true e)
      go false b e p q = absurd (false≢true e)

  whole_line : (line : List ℕ) → (length line ≡ w + 1) × (get_or line w 0 ≡ 10) → line ≡ take w line ++ (10 ∷ [])
  whole_line line (p, q) =
      let all : take (suc w) line ≡ line = take_all (suc w) line (omega arith) in
      sym all ∙ rw (← q) (take-suc line w 0 (omega arith))

  -- a clean line is the first one
  clean_first : (rest more : List ℕ) → clean w (take (w + 1) rest) ≡ true
      → lines (rest ++ more) ≡ take (w + 1) rest ∷ lines (drop (w + 1) rest ++ more)
  clean_first rest more e =
      let line = take (w + 1) rest in
      let after = drop (w + 1) rest ++ more in
      let (p, q, r) = clean_true line e in
      let whole = whole_line line (p, q) in
      let apart : rest ++ more ≡ line ++ after =
      ap (λ (t : List ℕ). t ++ more) (sym (take-append-drop (w + 1) rest))
      ∙ append_assoc line (drop (w + 1) rest) more in
      let fed : line ++ after ≡ take w line ++ (10 ∷ after) = ap (λ (t : List ℕ). t ++ after) whole
      ∙ append_assoc (take w line) (10 ∷ []) after in
      ap lines (apart ∙ fed) ∙ lines_feed (take w line) after r ∙ ap (λ (t : List ℕ). t ∷ lines after) (sym whole)

  -- where so many bytes are no clean line, neither is the first line
  unclean_first : (rest more : List ℕ) (f : First (rest ++ more)) → w + 1 ≤ length rest
      → clean w (take (w + 1) rest) ≡ false
      → clean w f.first ≡ false
  unclean_first rest more f h e = go (clean w f.first) refl
    where
      go : (t : Bool) → clean w f.first ≡ t → t ≡ false
      go false d = refl
      go true d =
          let long = (clean_true f.first d).0 in
          let same : take (w + 1) rest ≡ f.first = sym (take-append-le (w + 1) rest more h)
          ∙ rw (← long) f.prefix in
          absurd (false≢true (sym e ∙ rw same d))

  -- and both break for their length
  same_reason : (rest more : List ℕ) (f : First (rest ++ more)) → w + 1 ≤ length rest
      → clean w (take (w + 1) rest) ≡ false → why f.first ≡ why (take (w + 1) rest)
  same_reason rest more f h e =
      let long = length-take-le (w + 1) rest h in
      let ended : length f.first ≤ w → no_feed f.first ≡ false =
      λ l. f.ended (omega (arith, length-append rest more)) in
      other_length f.first (unclean_first rest more f h e) ended
      ∙ sym (other_length (take (w + 1) rest) e (λ l. absurd (omega arith)))

  -- the next w columns and the byte after them are the next line
  pub next_line : (rest more : List ℕ) → w + 1 ≤ length rest
      → outcome s (lines (rest ++ more)) ≡ finally (step s (take (w + 1) rest)) (lines (drop (w + 1) rest ++ more))
  unfolding outcome
  next_line [] more h = absurd (omega arith)
  next_line (b ∷ bytes) more h = go (clean w (take (w + 1) (b ∷ bytes))) refl
    where
      rest : List ℕ
      rest = b ∷ bytes

      go : (t : Bool) → clean w (take (w + 1) rest) ≡ t
          → outcome s (lines (rest ++ more)) ≡ finally (step s (take (w + 1) rest)) (lines (drop (w + 1) rest ++ more))
      go true e = rw (clean_first rest more e)
      go false e =
          let f = first_line b (bytes ++ more) in
          rw (reader.breaks (take (w + 1) rest) e, ← same_reason rest more f h e)
          (unclean f (lines (drop (w + 1) rest ++ more)) (unclean_first rest more f h e))

  -- the same of the bytes from a place of a block on
  pub line_at : (block more : List ℕ) (at : ℕ) → at + (w + 1) ≤ length block → outcome s (lines (drop at block ++ more))
      ≡ finally (step s (slice at (at + (w + 1)) block)) (lines (drop (at + (w + 1)) block ++ more))
  line_at block more at h =
      let room : w + 1 ≤ length (drop at block) = rw length-drop (omega arith) in
      next_line (drop at block) more room ∙ rw (take_drop at (w + 1) block, drop-drop (w + 1) at block)

  -- bytes that are too few for a line, and have no line feed, break it: the input ends there
  pub cut_line : (b : ℕ) (bytes : List ℕ) (rest : List (List ℕ)) → length (b ∷ bytes) ≤ w → no_feed (b ∷ bytes) ≡ true
      → outcome s (lines (b ∷ bytes)) ≡ finally (broken counts InputEnds) rest
  cut_line b bytes rest h e =
      let f = first_line b bytes in
      let short : length f.first ≡ w + 1 → ⊥ = λ e. omega (arith, f.short) in
      let few : length f.first ≤ w = omega (arith, f.short) in
      let bad : clean w f.first ≡ false = rw (ne_eqb _ _ short) in
      let unfed : no_feed f.first ≡ true = rw (← f.prefix) (no_feed_take (length f.first) (b ∷ bytes) e) in
      unclean f rest bad ∙ rw (le-leb _ _ few, unfed)
