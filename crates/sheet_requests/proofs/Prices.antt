-- What the loop that reads a request's prices goes by. Assumes nothing.
use mathlib.Core.Path.{◌≡◌, refl, ◌∙◌}
use mathlib.Core.List.{List, ◌++◌}
use Prim.Native.Nat.{ℕ, suc, ◌+◌, ◌-◌, ◌*◌, ◌<◌, ◌≤◌}
use native.Mathlib.Numerals.{add-one}
use native.Mathlib.Omega.{arith}
use borrow.Author.Tests.{eq-eqb, ne_eqb}
use lib.ListN.{length, take, drop, set, length-set}
use lib.Seq.{slice, length-take-le, take-suc-set}
use lib.Ieee.{Float}
use Rattle.std.proofs.Common.{Result, Ok, Err}
use Rattle.sheet_lines.specs.declared.reasons.Reason.{Reason}
use Rattle.sheet_lines.specs.declared.Request.{Request}
use Rattle.sheet_lines.specs.Header.{price_bytes, read_price_line}
use Rattle.sheet_requests.specs.declared.Counts.{Counts}
use Rattle.sheet_requests.specs.Counts.{after_lines}
use Rattle.sheet_requests.specs.Sheet.{collecting, quiet, broken, completed, with_prices, priced, lines, outcome}
use Rattle.sheet_requests.specs.inner.Place.{finally}
use Rattle.sheet_requests.proofs.Lines.{finally_broken, line_at}
use Rattle.sheet_requests.proofs.Strict.{price_reader}

module _ (counts : Counts) (r : Request) (series : List Float) (got : ℕ) (h : got ≤ length series) where
  -- some price is missing: the request waits for it
  pub waits : (got ≡ r.bars → ⊥)
      → with_prices counts r (take got series) ≡ quiet (collecting counts r (take got series))
  unfolding with_prices
  waits e = rw (length-take-le got series h, ne_eqb _ _ e)

  -- all are there
  pub all_there : got ≡ r.bars → with_prices counts r (take got series) ≡ completed counts r (take r.bars series)
  unfolding with_prices
  all_there e = rw (length-take-le got series h, eq-eqb _ _ e, e)

-- The prices from `got` to i are those of the lines from `at`
-- to `place`, of any request that has room for `end` prices.
pub record PricesSoFar (block : List ℕ) (at end got : ℕ) (old : List Float) (place i : ℕ)
    (now : List Float) : Type 0 where
  pub same : (r : Request) → end ≤ r.bars → (counts : Counts) (more : List ℕ)
      → outcome (collecting counts r (take got old)) (lines (drop at block ++ more))
      ≡ finally (with_prices (after_lines (i - got) counts) r (take i now)) (lines (drop place block ++ more))
  pub pace : place ≡ at + price_bytes * (i - got)
  pub long : length now ≡ length old

module _ {block : List ℕ} {at end got : ℕ} {old : List Float} where
  pub none_read : (got < end) × (end ≤ length old) → PricesSoFar block at end got old at got old
  none_read (h, l) =
      record {
        same = λ r e counts more.
            let none : got - got ≡ 0 = omega arith in
            rw (none, waits counts r old got (omega arith) (λ z. omega arith));
        pace = omega arith;
        long = refl;
      }

  module _ {place i : ℕ} {now : List Float} {read : Result Float Reason}
      (w : PricesSoFar block at end got old place i now)
      (is : read ≡ read_price_line (slice place (place + price_bytes) block))
      (fit : (place + price_bytes ≤ length block) × (got ≤ i) × (i < end) × (end ≤ length old)) where
    -- what the next line is read as
    next : (r : Request) → end ≤ r.bars → (counts : Counts) (more : List ℕ)
        → outcome (collecting counts r (take got old)) (lines (drop at block ++ more))
        ≡ finally (priced (after_lines (i - got) counts) r (take i now) read)
        (lines (drop (place + price_bytes) block ++ more))
    next r e counts more =
        let (p, q, h, l) = fit in
        let before = after_lines (i - got) counts in
        rw (w.same r e counts more, waits before r now i (omega (arith, w.long)) (λ z. omega arith), is)
        (line_at (price_reader before r (take i now)) block more place p)

    pub one_read : {x : Float} → read ≡ Ok x
        → PricesSoFar block at end got old (place + price_bytes) (i + 1) (set now i x)
    one_read {x} t =
        let (p, q, h, l) = fit in
        record {
          same = λ r e counts more.
              let one_more : i + 1 - got ≡ suc (i - got) = omega arith in
              next r e counts more ∙ rw (t, one_more, add-one i, take-suc-set now i x (omega (arith, w.long)));
          pace = omega (arith, w.pace);
          long = length-set now i x ∙ w.long;
        }

    pub one_broken : {reason : Reason} → read ≡ Err reason → (r : Request) → end ≤ r.bars
        → (counts : Counts) (more : List ℕ)
        → outcome (collecting counts r (take got old)) (lines (drop at block ++ more))
        ≡ finally (broken (after_lines (i - got) counts) reason)
        (lines (drop place block ++ more))
    one_broken t r e counts more = next r e counts more ∙ rw t (finally_broken (after_lines (i - got) counts) _ _ _)
