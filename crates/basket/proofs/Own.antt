-- A contract's own answer and its own cells, by its rule. Assumes nothing.
use mathlib.Core.Path.{◌≡◌, refl, sym, ap, ◌∙◌}
use mathlib.Core.Bool.{Bool, true, false, cond, ◌&&◌}
use mathlib.Core.List.{List, [], ◌∷◌}
use Prim.Native.Nat.{ℕ, zero, suc, ◌-◌, ◌*◌, ◌<◌, ◌≤◌}
use native.Mathlib.Omega.{arith}
use borrow.Author.Tests.{leb-true, le-leb, lt-ltb, le-ltb, ne_eqb}
use lib.Dec.{leb, eqb}
use lib.IntN.{ℤ, pos, ◌*ℤ◌, *ℤ-zero}
use lib.ListN.{length}
use lib.Ieee.{Float, nan}
use Rattle.limits.specs.Limits.{longest_window}
use Rattle.values.specs.Accepted.{accepted}
use Rattle.values.proofs.All.{and_parts}
use Rattle.cells.specs.Line.{line}
use Rattle.cells.specs.inner.Touched.{Touched}
use Rattle.cells.proofs.Touched.{touched, touched_more}
use Rattle.cells.proofs.Written.{length_written, getd_written}
use Rattle.calls.specs.Answer.{Answer, count_of, empty_if, checked, any_zero, windowed, answered}
use Rattle.std.specs.Prelude.{Ok, Err}
use Rattle.calls.proofs.Room.{Room, checked_one, slices_one, room, opened, and_then_cells, unless_cells, same_count}
use Rattle.rules.specs.ByNumber.{by_rule}
use Rattle.rules.specs.Position.{whole_position}
use Rattle.rules_double.specs.Double.{double_line, double_answer, DoubleCall}
use Rattle.rules_double.proofs.Open.{double_bars}
use Rattle.basket.specs.Basket.{Contract, own_answer, own_line, position_of}
use Rattle.basket.specs.inner.Adding.{RowsAdded, BarsRoom}
use Rattle.basket.specs.inner.Parts.{afresh_line, PartRoom, DoubleRoom}
use Rattle.basket.specs.inner.Opened.{Ready, Lent}
use Rattle.basket.proofs.Adding.{no_rows, rows_same, rows_to_end}

-- ---- a rule told from double

module _ {A : Type 0} (rule : ℕ) where
  pub by_two : (one double middle : A) → rule ≡ 2 → double ≡ by_rule rule one double middle
  by_two one double middle e = rw e

  by_another : (one double middle : A) → (rule ≡ 2 → ⊥) → by_rule rule one double middle ≡ cond (eqb rule 1) one middle
  by_another one double middle f = rw (ne_eqb rule 2 f)

  -- where one average and the middle are alike
  pub by_same : (double x : A) → (rule ≡ 2 → ⊥) → x ≡ by_rule rule x double x
  by_same double x f = rw (ne_eqb rule 2 f) (go (eqb rule 1))
    where
      go : (t : Bool) → x ≡ cond t x x
      go true = refl
      go false = refl

-- ---- the position of a bar

module _ (c : Contract) (j : ℕ) where
  has_position : j < count_of (own_answer c) → position_of c j ≡ whole_position (own_line c j)
  unfolding position_of
  has_position h = rw (lt-ltb j (count_of (own_answer c)) h)

  pub no_position : count_of (own_answer c) ≤ j → c.weight *ℤ position_of c j ≡ pos 0
  unfolding position_of
  no_position h = rw (le-ltb j (count_of (own_answer c)) h) (*ℤ-zero c.weight)

-- ---- double

-- it has a cell for each bar, or none
pub double_few : (s : List Float) (n m out : ℕ) {r : Answer} → r ≡ double_answer s n m out → count_of r ≤ length s
double_few s n m out {r = Ok zero} e = omega arith
double_few s n m out {r = Ok (suc k)} e =
    let whole = double_bars s n m out (suc k) (sym e) (omega arith) in omega arith
double_few s n m out {r = Err q} e = omega arith

-- an output that is longer than the bars
pub double_longer : (s : List Float) (n m out : ℕ) → length s ≤ out
    → double_answer s n m out ≡ double_answer s n m (length s)
unfolding double_answer
double_longer s n m out h =
    rw (
      checked_one accepted s (out ∷ []) [],
      checked_one accepted s (length s ∷ []) [],
      slices_one (length s) out [],
      slices_one (length s) (length s) [],
      le-leb (length s) out h,
      le-leb (length s) (length s) (omega arith),
    )

-- a call that writes its positions to a work slice
module _ {s : List Float} {n m : ℕ} {w : ℤ} {q : ℕ} {out : List ℤ} {work₀ : List Float}
    (t : DoubleRoom s n m w q out (length work₀)) {r : Answer} {work₁ : List Float} (d : DoubleCall s n m work₀ r work₁)
    {k : ℕ} (e : k ≡ count_of r) where
  few : count_of r ≤ length s
  few = double_few s n m (length work₀) d.answer

  same_long : length work₁ ≡ length work₀
  same_long = rw d.cells (length_written (count_of r) (double_line n m (line s)) work₀)

  pub double_room : BarsRoom (length s) q 0 k 0 (length work₁) w out
  double_room =
      let most = few in
      let room = t.work_long in
      record {
        row = t.row;
        order = omega arith;
        inside = omega arith;
        start = omega arith;
        there = rw same_long (omega arith);
        light = t.light;
        room = t.room;
        small = t.small;
      }

  pub double_added : {now : List ℤ}
      → RowsAdded (length s) q 0 k (λ j. w *ℤ whole_position (line work₁ (j - 0))) out now
      → RowsAdded (length s) q 0 (count_of (double_answer s n m (length s)))
      (λ j. w *ℤ whole_position (double_line n m (line s) j)) out now
  double_added v =
      let most = few in
      let room = t.work_long in
      let count : count_of r ≡ count_of (double_answer s n m (length s)) =
      ap count_of (d.answer ∙ double_longer s n m (length work₀) t.work_long) in
      rw (← count)
      (rows_same (rw e at v) (λ j h u.
      let at : j - 0 ≡ j = omega arith in
      ap (λ (x : Float). w *ℤ whole_position x)
      (rw (at, d.cells) (getd_written (count_of r) (double_line n m (line s)) work₀ j nan u (omega arith)))))

  pub double_touched : Touched (length s) work₀ work₁
  double_touched =
      touched_more
      (touched (record {
        is = d.cells;
        long = same_long;
      }))
      few

module _ (c : Contract) (two : c.rule ≡ 2) where
  double_answer_lem : own_answer c ≡ double_answer c.prices c.n c.m (length c.prices)
  unfolding own_answer
  double_answer_lem = sym (by_two c.rule _ _ _ two)

  double_line_lem : own_line c ≡ double_line c.n c.m (line c.prices)
  unfolding own_line
  double_line_lem = sym (by_two c.rule _ _ _ two)

  pub double_ready : {out : List ℤ} {block work q : ℕ} → Ready c → Lent (length c.prices) out block work
      → c.group ≡ suc q → DoubleRoom c.prices c.n c.m c.weight q out work
  double_ready r t e =
      record {
        answered = rw (← double_answer_lem) r.answered;
        work_long = let long = t.work_long in omega arith;
        row = let row = r.row in omega arith;
        light = r.light;
        room = t.room;
        small = t.small;
      }

  -- its positions up to its count are those of all bars
  pub double_all : {q : ℕ} {old now : List ℤ}
      → RowsAdded (length c.prices) q 0 (count_of (double_answer c.prices c.n c.m (length c.prices)))
      (λ j. c.weight *ℤ whole_position (double_line c.n c.m (line c.prices) j)) old now
      → RowsAdded (length c.prices) q 0 (length c.prices) (λ j. c.weight *ℤ position_of c j) old now
  double_all w =
      rows_to_end w
      (λ j h. ap (λ (x : ℤ). c.weight *ℤ x) (sym (has_position c j (rw double_answer_lem h) ∙ (rw double_line_lem))))
      (λ j h k. no_position c j (rw double_answer_lem h))

-- ---- one average and the middle

module _ (c : Contract) (other : c.rule ≡ 2 → ⊥) where
  afresh_answer : own_answer c
      ≡ answered accepted c.prices (c.n ∷ []) (length c.prices) (8 * length c.prices ∷ [])
  unfolding own_answer
  afresh_answer = sym (by_same c.rule _ _ other)

  afresh_line_lem : own_line c ≡ afresh_line c.rule c.n (line c.prices)
  unfolding own_line
  afresh_line_lem = by_another c.rule _ _ _ other

  module _ (r : Ready c) where
    due : answered accepted c.prices (c.n ∷ []) (length c.prices) (8 * length c.prices ∷ [])
        ≡ Ok (count_of (own_answer c))
    due = sym afresh_answer ∙ r.answered

    facts : Room accepted c.prices (length c.prices) (8 * length c.prices ∷ [])
    facts = room accepted c.prices (c.n ∷ []) (length c.prices) (8 * length c.prices ∷ []) _ due

    -- a window of none has no cells
    pub flat_all : {q : ℕ} {s : List ℤ} → c.n ≡ 0
        → RowsAdded (length c.prices) q 0 (length c.prices) (λ j. c.weight *ℤ position_of c j) s s
    flat_all none =
        rows_to_end {x = λ j. pos 0} no_rows (λ j h. absurd (omega arith))
        (λ j h k. no_position c j (go (count_of (own_answer c)) due j))
      where
        go : (k : ℕ)
            → answered accepted c.prices (c.n ∷ []) (length c.prices) (8 * length c.prices ∷ []) ≡ Ok k
            → (j : ℕ) → k ≤ j
        go zero e j = omega arith
        go (suc k) e j =
            let window = (opened accepted c.prices (c.n ∷ []) (length c.prices) (8 * length c.prices ∷ [])
            (suc k)
            e (omega arith)).each.0 in
            absurd (omega (arith, window.some))

    -- its window is not too long, and of none only where the answer is empty
    limited : (leb c.n longest_window && true ≡ true)
        × (empty_if (any_zero (length c.prices ∷ c.n ∷ [])) (Ok (length c.prices)) ≡ Ok (count_of
        (own_answer c)))
    unfolding answered windowed
    limited =
        unless_cells _ _ _ _
        (and_then_cells (checked accepted (c.prices ∷ []) (length c.prices ∷ []) (8 * length c.prices ∷ [])) _ _
        due).1

    whole : 0 < c.n → 0 < length c.prices → length c.prices ≡ count_of (own_answer c)
    whole some bars =
        let none : eqb (length c.prices) 0 ≡ false = ne_eqb _ 0 (λ (e : length c.prices ≡ 0). omega arith) in
        let open_window : eqb c.n 0 ≡ false = ne_eqb _ 0 (λ (e : c.n ≡ 0). omega arith) in
        same_count _ _ (rw (none, open_window) at limited.1)

    pub afresh_ready : {out : List ℤ} {block work q : ℕ} → Lent (length c.prices) out block work → c.group ≡ suc q
        → 0 < c.n → PartRoom c.prices c.n c.weight q 0 out block work
    afresh_ready t e some =
        record {
          window = record {
            some = some;
            narrow = leb-true _ _ (and_parts (leb c.n longest_window) true
                limited.0).0;
          };
          short = facts.short;
          values = facts.values;
          work_long = let long = t.work_long in omega arith;
          block_long = t.block_long;
          row = let row = r.row in omega arith;
          light = r.light;
          room = t.room;
          small = t.small;
        }

    -- the positions of all bars
    pub afresh_all : {q : ℕ} {old now : List ℤ} → 0 < c.n
        → RowsAdded (length c.prices) q 0 (length c.prices)
        (λ j. c.weight *ℤ whole_position (afresh_line c.rule c.n (line c.prices) j)) old now
        → RowsAdded (length c.prices) q 0 (length c.prices) (λ j. c.weight *ℤ position_of c j) old now
    afresh_all some w =
        rows_to_end w
        (λ j h.
        let all = whole some (omega arith) in
        ap (λ (x : ℤ). c.weight *ℤ x) (sym (has_position c j (omega arith) ∙ (rw afresh_line_lem))))
        (λ j h k. absurd (omega arith))
