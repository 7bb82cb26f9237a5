-- What the contracts answer, one after another, and what is known of a basket that has cells. Assumes nothing.
use mathlib.Core.Path.{◌≡◌, refl, sym, ap, ◌∙◌}
use mathlib.Core.Bool.{Bool, true, false, ◌&&◌}
use mathlib.Core.List.{List, [], ◌∷◌}
use Prim.Native.Nat.{ℕ, zero, suc, ◌+◌, ◌-◌, ◌*◌, ◌/◌, ◌<◌, ◌≤◌}
use native.Mathlib.Nat.{not-suc-le-zero, zero-add, mul-le-mul_right}
use native.Mathlib.Omega.{arith}
use borrow.Author.Tests.{leb-true, le-leb, lt-leb, eqb-true, eq-eqb, ne_eqb}
use lib.Dec.{leb, eqb}
use lib.IntN.{ℤ, pos}
use lib.ListN.{length, get_or, take, drop, length-take, length-drop}
use lib.Ieee.{Float}
use Rattle.values.specs.Accepted.{all}
use Rattle.values.proofs.All.{and_parts}
use Rattle.cells.specs.Line.{plus_zero}
use Rattle.cells.specs.Search.{every_bar}
use Rattle.cells.specs.Shown.{first_cells}
use Rattle.cells.specs.Written.{written, Writing}
use Rattle.cells.specs.inner.Touched.{Touched}
use Rattle.cells.proofs.Touched.{written_over_all}
use Rattle.calls.specs.declared.Refusal.{Refusal}
use Rattle.calls.specs.declared.Refusal.TheVariants.{
  LengthsDiffer,
  OutputTooShort,
  WorkTooShort,
  BrokenLine,
  WeightTooLarge,
}
use Rattle.calls.specs.Answer.{Answer, count_of, cleared_of, unless, and_then, first}
use Rattle.std.specs.Prelude.{Ok, Err}
use Rattle.calls.proofs.Room.{and_then_cells, unless_cells, same_count}
use Rattle.rules.specs.ByNumber.{is_rule}
use Rattle.rules.specs.ByNumber.{answer_by_rule}
use Rattle.basket.specs.Basket.{
  Contract,
  most_contracts,
  groups,
  rows,
  own_answer,
  contract_at,
  contracts_of,
  net_line,
  lengths,
  each_answered,
  from_one,
  basket_answer,
  BasketCall,
}
use Rattle.basket.specs.inner.Listed.{listed, as_long, light, Listed, Sized, listed_answer}
use Rattle.basket.specs.inner.Opened.{contract_of, Opened}
use Rattle.basket.proofs.Checks.{all_first, every_at}

-- ---- the first cells of a line, from the front

pub first_same : {A : Type 0} (k : ℕ) (f g : ℕ → A) → ((i : ℕ) → f i ≡ g i) → first_cells k f ≡ first_cells k g
first_same zero f g h = refl
first_same (suc k) f g h = rw (h 0, first_same k (λ i. f (suc i)) (λ i. g (suc i)) (λ i. h (suc i)))

-- those from place k on
abbrev pub onward : {A : Type 0} → (ℕ → A) → ℕ → ℕ → List A
onward f n k = first_cells (n - k) (λ i. f (k + i))

from_first : {A : Type 0} (f : ℕ → A) (n : ℕ) → first_cells n f ≡ onward f n 0
from_first f n =
    let all : n - 0 ≡ n = omega arith in
    rw all (first_same n f (λ i. f (0 + i)) (λ i. rw zero-add))

one_onward : {A : Type 0} (f : ℕ → A) (n k : ℕ) → k < n → onward f n k ≡ f k ∷ onward f n (k + 1)
one_onward f n k h =
    let more : n - k ≡ suc (n - (k + 1)) = omega arith in
    let here : k + 0 ≡ k = omega arith in
    rw (more, here)
    (ap (λ (t : List _). f k ∷ t) (first_same (n - (k + 1)) (λ i. f (k + suc i)) (λ i. f (k + 1 + i)) (λ i. ap f
    (omega arith))))

-- ---- the contracts' answers

-- x is what the contracts f k to f (n - 1) answer, and then the next
pub record Onward (f : ℕ → Contract) (n : ℕ) (next : Answer) (k : ℕ) (x : Answer) : Type 0 where
  pub is : x ≡ each_answered (onward f n k) next

pub none_answered : (f : ℕ → Contract) (n : ℕ) (next : Answer)
    → Onward f n next 0 (each_answered (first_cells n f) next)
none_answered f n next =
    record { is = ap (λ (cs : List Contract). each_answered cs next) (from_first f n) }

module _ {f : ℕ → Contract} {n : ℕ} {next : Answer} {k : ℕ} {x : Answer} (w : Onward f n next k x) where
  step : k < n → x ≡ and_then (own_answer (f k)) (each_answered (onward f n (k + 1)) next)
  unfolding each_answered
  step h = w.is ∙ ap (λ (cs : List Contract). each_answered cs next) (one_onward f n k h)

  pub one_answered : {j : ℕ} {y : Answer} → y ≡ own_answer (f k) → y ≡ Ok j → k < n → Onward f n next (k + 1) x
  one_answered a c h = record { is = step h ∙ (rw (← a, c)) }

  pub one_refused : {q : Refusal} {y : Answer} → y ≡ own_answer (f k) → y ≡ Err q → k < n → y ≡ x
  one_refused a r h = sym (step h ∙ (rw (← a, r)))

  pub all_answered : n ≤ k → next ≡ x
  unfolding each_answered
  all_answered h = let none : n - k ≡ 0 = omega arith in sym (w.is ∙ (rw none))

-- where there is a count, each of them was answered
pub each_count : (n : ℕ) (f : ℕ → Contract) (next : Answer) (c : ℕ) → each_answered (first_cells n f) next ≡ Ok c
    → ((k : ℕ) → k < n → own_answer (f k) ≡ Ok (count_of (own_answer (f k)))) × (next ≡ Ok c)
unfolding each_answered
each_count zero f next c e = (λ k h. absurd (not-suc-le-zero h), e)
each_count (suc n) f next c e =
    let one = and_then_cells (own_answer (f 0)) _ c e in
    let more = each_count n (λ i. f (suc i)) next c one.1 in
    (go one.0 more.0, more.1)
  where
    go : own_answer (f 0) ≡ Ok (count_of (own_answer (f 0)))
        → ((k : ℕ) → k < n → own_answer (f (suc k)) ≡ Ok (count_of (own_answer (f (suc k)))))
        → (k : ℕ) → k < suc n → own_answer (f k) ≡ Ok (count_of (own_answer (f k)))
    go e h zero l = e
    go e h (suc k) l = h k (omega arith)

-- a contract is its numbers and its part of the series
part_same : (l : ℕ) (series : List Float) (k : ℕ) → take (k * l + l - k * l) (drop (k * l) series) ≡ take l (drop
    (k * l) series)
part_same l series k = let same : k * l + l - k * l ≡ l = omega arith in rw same

pub part_long : (l : ℕ) (series : List Float) (k : ℕ) → k * l + l ≤ length series
    → length (take (k * l + l - k * l) (drop (k * l) series)) ≡ l
part_long l series k h = rw (part_same l series k) (simp (length-take, length-drop) (omega arith))

pub contract_is : (l : ℕ) (series : List Float) (table : List ℕ) (weights : List ℤ) (k : ℕ)
    → contract_of (take (k * l + l - k * l) (drop (k * l) series)) (get_or table (5 * k + 1) 0)
    (get_or table (5 * k + 2) 0)
    (get_or table (5 * k + 3) 0) (get_or table (5 * k + 4) 0) (get_or weights k (pos 0))
    ≡ contract_at l series table weights k
unfolding contract_at
contract_is l series table weights k = rw (part_same l series k)

-- and its answer is that of these
pub own_of : (l : ℕ) (series : List Float) (table : List ℕ) (weights : List ℤ) (k : ℕ) → k * l + l ≤ length series
    → let part = take (k * l + l - k * l) (drop (k * l) series) in
    answer_by_rule (get_or table (5 * k + 1) 0) (get_or table (5 * k + 2) 0) (get_or table (5 * k + 3) 0) part
    (length part)
    (8 * l)
    ≡ own_answer (contract_at l series table weights k)
unfolding own_answer contract_at
own_of l series table weights k h =
    let long : length (take l (drop (k * l) series)) ≡ l = simp (length-take, length-drop) (omega arith) in
    rw (part_same l series k, long)

-- ---- the table, by the tests of each contract

module _ (series : List Float) (table : List ℕ) (weights : List ℤ) where
  pub first_is : first table ≡ get_or table 0 0
  first_is = go table
    where
      go : (t : List ℕ) → first t ≡ get_or t 0 0
      go [] = refl
      go (x ∷ t) = refl

  pub lengths_same : (l : ℕ) → all (λ k. eqb k l) (lengths table (length weights)) ≡ every_bar (as_long table l)
      (length weights)
  lengths_same l = all_first (λ k. eqb k l) (λ k. get_or table (5 * k) 0) (length weights)

  pub each_light : (l : ℕ)
      → all (λ c. light c.weight) (contracts_of l series table weights)
      ≡ every_bar (λ k. light (get_or weights k (pos 0))) (length weights)
  unfolding contract_at
  each_light l = all_first (λ c. light c.weight) (contract_at l series table weights) (length weights)

  pub each_listed : (l : ℕ)
      → all (λ c. from_one groups c.group && is_rule c.rule) (contracts_of l series table weights)
      ≡ every_bar (listed table) (length weights)
  unfolding contract_at
  each_listed l =
      all_first (λ c. from_one groups c.group && is_rule c.rule) (contract_at l series table weights)
      (length weights)

pub is_listed : {table : List ℕ} {weights : List ℤ} → from_one most_contracts (length weights) ≡ true
    → length table ≡ 5 * length weights → Listed table weights
is_listed {weights = weights} some five =
    let parts = and_parts (leb 1 (length weights)) (leb (length weights) most_contracts) some in
    record { some = leb-true _ _ parts.0; few = leb-true _ _ parts.1; five = five }

module _ (series : List Float) (table : List ℕ) (weights : List ℤ) (out work : ℕ) where
  basket_table : basket_answer series table weights out work
      ≡ unless (from_one most_contracts (length weights) && eqb (length table) (5 * length weights)) BrokenLine
      (unless (every_bar (listed table) (length weights)) BrokenLine (listed_answer series table weights out work))
  unfolding basket_answer listed_answer
  basket_table = rw (each_listed series table weights (first table))

  -- ---- what the table's tests say

  pub not_counted : from_one most_contracts (length weights) ≡ false
      → Err BrokenLine ≡ basket_answer series table weights out work
  not_counted e = rw (basket_table, e)

  module _ (some : from_one most_contracts (length weights) ≡ true) where
    pub not_five : (length table ≡ 5 * length weights → ⊥)
        → Err BrokenLine ≡ basket_answer series table weights out work
    not_five f = rw (basket_table, some, ne_eqb _ _ f)

    module _ (five : length table ≡ 5 * length weights) {t : Bool} (e : t ≡ every_bar (listed table) (length weights))
      where
        pub not_listed : t ≡ false → Err BrokenLine ≡ basket_answer series table weights out work
        not_listed f = rw (basket_table, some, eq-eqb _ _ five, ← e, f)

        pub all_listed : t ≡ true → {r : Answer} → r ≡ listed_answer series table weights out work
            → r ≡ basket_answer series table weights out work
        all_listed f a = rw (basket_table, some, eq-eqb _ _ five, ← e, f) a

  -- ---- and those of the slices and the weights; l is the first length

  listed_table : let l = get_or table 0 0 in
      listed_answer series table weights out work
      ≡ unless (every_bar (as_long table l) (length weights) && eqb (length weights * l) (length series)) LengthsDiffer
      (unless (leb (rows * l) out) OutputTooShort
      (unless (leb (8 * l) work) WorkTooShort
      (unless (every_bar (λ k. light (get_or weights k (pos 0))) (length weights)) WeightTooLarge
      (each_answered (contracts_of l series table weights) (Ok (rows * l))))))
  unfolding listed_answer
  listed_table =
      let l = get_or table 0 0 in
      rw (first_is series table weights, lengths_same series table weights l, each_light series table weights l)

  module _ {s t : Bool} (p : s ≡ every_bar (as_long table (get_or table 0 0)) (length weights))
      (q : t ≡ eqb (length weights * get_or table 0 0) (length series)) where
    pub not_whole : s && t ≡ false → Err LengthsDiffer ≡ listed_answer series table weights out work
    not_whole e = rw (listed_table, ← p, ← q, e)

    module _ (e : s && t ≡ true) where
      pub no_output : out / rows < get_or table 0 0
          → Err OutputTooShort ≡ listed_answer series table weights out work
      no_output h = rw (listed_table, ← p, ← q, e, lt-leb (rows * get_or table 0 0) out (omega arith))

      module _ (room : get_or table 0 0 ≤ out / rows) where
        pub no_work : work / 8 < get_or table 0 0 → Err WorkTooShort ≡ listed_answer series table weights out work
        no_work h =
            rw (
              listed_table,
              ← p,
              ← q,
              e,
              le-leb (rows * get_or table 0 0) out (omega arith),
              lt-leb (8 * get_or table 0 0) work (omega arith),
            )

        module _ (beside : get_or table 0 0 ≤ work / 8) where
          pub weights_next : {v : Bool} → v ≡ every_bar (λ k. light (get_or weights k (pos 0))) (length weights)
              → {r : Answer}
              → r ≡ unless v WeightTooLarge
              (each_answered (contracts_of (get_or table 0 0) series table weights) (Ok (rows * get_or table 0 0)))
              → r ≡ listed_answer series table weights out work
          weights_next f a =
              rw (
                listed_table,
                ← p,
                ← q,
                e,
                le-leb (rows * get_or table 0 0) out (omega arith),
                le-leb (8 * get_or table 0 0) work (omega arith),
                ← f,
              )
              a

          pub is_sized : Listed table weights → Sized series table weights (get_or table 0 0) out work
          is_sized shape =
              let parts = and_parts s t e in
              record {
                shape = shape;
                whole = eqb-true _ _ (sym q ∙ parts.1);
                out_long = omega arith;
                work_long = omega arith;
              }

-- contract k has its part of the series
pub part_inside : {series : List Float} {table : List ℕ} {weights : List ℤ} {l out work : ℕ} (k : ℕ)
    → Sized series table weights l out work → k < length weights → k * l + l ≤ length series
part_inside {l = l} k s h = let most = mul-le-mul_right l h in let whole = s.whole in omega arith

-- ---- what is known of a basket that has a count

module _ (series : List Float) (table : List ℕ) (weights : List ℤ) (out work k : ℕ)
    (e : basket_answer series table weights out work ≡ Ok k) where
  count_known : let l = get_or table 0 0 in Opened series table weights l out work × (k ≡ rows * l)
  unfolding contract_at
  count_known =
      let l = get_or table 0 0 in
      let n = length weights in
      let a = unless_cells _ _ _ k (sym (basket_table series table weights out work) ∙ e) in
      let b = unless_cells _ _ _ k a.1 in
      let c = unless_cells _ _ _ k (sym (listed_table series table weights out work) ∙ b.1) in
      let d = unless_cells _ _ _ k c.1 in
      let f = unless_cells _ _ _ k d.1 in
      let g = unless_cells _ _ _ k f.1 in
      let h = each_count n (contract_at l series table weights) (Ok (rows * l)) k g.1 in
      let shape = and_parts (from_one most_contracts n) (eqb (length table) (5 * n)) a.0 in
      let sizes = and_parts (every_bar (as_long table l) n) (eqb (n * l) (length series)) c.0 in (
        record {
          sized = record {
            shape = is_listed shape.0 (eqb-true _ _ shape.1);
            whole = eqb-true _ _ sizes.1;
            out_long = leb-true _ _ d.0;
            work_long = leb-true _ _ f.0;
          };
          each = λ i u.
              let both = and_parts _ _ (every_at (listed table) n i b.0 u) in
              let group = and_parts _ _ both.0 in
              record {
                some = leb-true _ _ group.0;
                row = leb-true _ _ group.1;
                light = leb-true _ _ (every_at (λ j. light (get_or weights j (pos 0))) n i g.0 u);
                answered = h.0 i u;
              };
        },
        sym (same_count _ _ h.1),
      )

  pub basket_opened : Opened series table weights (get_or table 0 0) out work
  basket_opened = count_known.0

  pub basket_count : k ≡ rows * get_or table 0 0
  basket_count = count_known.1

-- ---- the call

module _ (series : List Float) (table : List ℕ) (weights : List ℤ) (out₀ : List ℤ) (work₀ : List Float) {r : Answer}
    (e : r ≡ basket_answer series table weights (length out₀) (length work₀)) where
  -- where it has cells
  pub has_opened : 0 < count_of r → Opened series table weights (get_or table 0 0) (length out₀) (length work₀)
  has_opened = go r refl
    where
      go : (a : Answer) → r ≡ a → 0 < count_of a
          → Opened series table weights (get_or table 0 0) (length out₀) (length work₀)
      go (Ok k) p h = basket_opened series table weights (length out₀) (length work₀) k (sym e ∙ p)
      go (Err q) p h = let none : 0 < 0 = h in absurd (omega arith)

  -- there are bars
  pub has_bars : 0 < count_of r → 0 < get_or table 0 0
  has_bars = go r refl
    where
      go : (a : Answer) → r ≡ a → 0 < count_of a → 0 < get_or table 0 0
      go (Ok k) p h =
          let count = basket_count series table weights (length out₀) (length work₀) k (sym e ∙ p) in omega arith
      go (Err q) p h = let none : 0 < 0 = h in absurd (omega arith)

  pub basket_written : {out₁ : List ℤ} {work₁ work₂ : List Float} → 0 < count_of r
      → Writing (rows * get_or table 0 0) (net_line (get_or table 0 0) (contracts_of
      (get_or table 0 0) series table weights)) out₀
      out₁
      → Touched (8 * get_or table 0 0) work₀ work₁ → Writing (8 * get_or table 0 0) (λ i. plus_zero) work₁ work₂
      → BasketCall series table weights out₀ work₀ r out₁ work₂
  basket_written {out₁} {work₁} {work₂} h cells used cleared = go r refl h
    where
      go : (a : Answer) → r ≡ a → 0 < count_of a → BasketCall series table weights out₀ work₀ r out₁ work₂
      go (Err q) p h = let none : 0 < 0 = h in absurd (omega arith)
      go (Ok k) p h =
          let count = basket_count series table weights (length out₀) (length work₀) k (sym e ∙ p) in
          record {
            call = record { answer = e; cells = rw (p, count, first_is series table weights) cells.is };
            work = rw (p, first_is series table weights) (written_over_all used cleared).is;
          }

  -- where it has none
  pub basket_empty : count_of r ≡ 0 → BasketCall series table weights out₀ work₀ r out₀ work₀
  basket_empty z = record { call = record { answer = e; cells = rw z }; work = go r refl z }
    where
      go : (a : Answer) → r ≡ a → count_of a ≡ 0
          → work₀ ≡ written (cleared_of r (8 * first table)) (λ i. plus_zero) work₀
      go (Err q) p z = rw p
      go (Ok k) p z =
          let count = basket_count series table weights (length out₀) (length work₀) k (sym e ∙ p) in
          let same = first_is series table weights in
          let none : 8 * first table ≡ 0 = rw same (omega arith) in
          rw (p, none)
