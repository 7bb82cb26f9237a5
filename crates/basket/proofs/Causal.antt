-- Two contracts of one rule, with the same windows and the same bars up to a bar: the same positions up to it, and so
-- the same nets. Assumes nothing.
use mathlib.Core.Path.{◌≡◌, refl, sym, ap, ◌∙◌}
use mathlib.Core.Bool.{Bool, true, false, cond, ◌||◌}
use mathlib.Core.List.{List, [], ◌∷◌}
use Prim.Native.Nat.{ℕ, zero, suc, ◌*◌, ◌<◌, ◌≤◌}
use native.Mathlib.Omega.{arith}
use borrow.Author.Tests.{ne_eqb}
use lib.Dec.{leb, ltb, eqb}
use lib.IntN.{◌*ℤ◌}
use lib.ListN.{length}
use lib.Ieee.{Float}
use Rattle.limits.specs.Limits.{longest_window}
use Rattle.values.specs.Accepted.{accepted, all}
use Rattle.cells.specs.Line.{Line, line, Same, Causal}
use Rattle.cells.specs.Shown.{first_cells}
use Rattle.cells.proofs.Line.{causal_same}
use Rattle.calls.specs.declared.Refusal.TheVariants.{WindowTooLong}
use Rattle.calls.specs.Answer.{Answer, any_zero, empty_if, checked, windowed, answered}
use Rattle.std.specs.Prelude.{Ok}
use Rattle.calls.proofs.Room.{and_then_cells, unless_cells, same_count, opened}
use Rattle.rules.specs.ByNumber.{by_rule, line_by_rule}
use Rattle.rules_single.specs.Single.{single_line}
use Rattle.rules_single.proofs.Single.{causal_single}
use Rattle.rules_double.specs.Double.{double_line, double_answer}
use Rattle.rules_double.proofs.Double.{causal_double}
use Rattle.rules_double.proofs.Open.{double_opened}
use Rattle.rules_middle.specs.Middle.{mid_line}
use Rattle.rules_middle.proofs.Middle.{causal_mid}
use Rattle.rules.specs.Position.{whole_position}
use Rattle.basket.specs.Basket.{Contract, own_answer, own_line, position_of, groups, net, of_group, of_row}
use Rattle.basket.proofs.Positions.{position_below, position_after_lem}

-- ---- how many cells a contract has

-- no cells where a window is of none, and else as many as bars
window_count : (l : ℕ) (windows : List ℕ) (next : Answer) (k : ℕ) → 0 < l → windowed l windows next ≡ Ok k
    → (next ≡ Ok k → k ≡ l) → k ≡ cond (any_zero windows) 0 l
unfolding windowed
window_count l windows next k some e whole =
    let bars : eqb l 0 ≡ false = ne_eqb l 0 (λ (z : l ≡ 0). omega arith) in
    let rest = (unless_cells (all (λ n. leb n longest_window) windows) WindowTooLong
    (empty_if (eqb l 0 || any_zero windows) next) k e).1 in
    go (any_zero windows) (rw bars at rest)
  where
    go : (t : Bool) → empty_if t next ≡ Ok k → k ≡ cond t 0 l
    go true f = sym (same_count 0 k f)
    go false f = whole f

one_count : (s : List Float) (n out work k : ℕ) → 0 < length s
    → answered accepted s (n ∷ []) out (work ∷ []) ≡ Ok k
    → k ≡ cond (any_zero (n ∷ [])) 0 (length s)
unfolding answered
one_count s n out work k some e =
    window_count (length s) (n ∷ []) (Ok (length s)) k some
    (and_then_cells (checked accepted (s ∷ []) (out ∷ []) (work ∷ [])) _ k e).1
    (λ f. sym (same_count _ _ f))

two_count : (s : List Float) (n m out k : ℕ) → 0 < length s → double_answer s n m out ≡ Ok k
    → k ≡ cond (any_zero (n ∷ m ∷ [])) 0 (length s)
unfolding double_answer
two_count s n m out k some e =
    window_count (length s) (n ∷ m ∷ []) _ k some
    (and_then_cells (checked accepted (s ∷ []) (out ∷ []) []) _ k e).1
    (λ f. sym (same_count _ _ (unless_cells (ltb n m) _ _ k f).1))

-- whether a window of its rule is of none
abbrev no_window : ℕ → ℕ → ℕ → Bool
no_window rule n m = by_rule rule (any_zero (n ∷ [])) (any_zero (n ∷ m ∷ [])) (any_zero (n ∷ []))

-- how many cells a contract has, and that none of them needs a later bar
module _ (c : Contract) (k : ℕ) (e : own_answer c ≡ Ok k) where
  own_known : (0 < length c.prices → k ≡ cond (no_window c.rule c.n c.m) 0 (length c.prices))
      × (0 < k → Causal (line_by_rule c.rule c.n c.m))
  unfolding own_answer
  own_known = go (eqb c.rule 1) (eqb c.rule 2) e
    where
      l : ℕ
      l = length c.prices

      go : (t u : Bool)
          → cond t (answered accepted c.prices (c.n ∷ []) l (8 * l ∷ []))
          (cond u (double_answer c.prices c.n c.m l)
          (answered accepted c.prices (c.n ∷ []) l (8 * l ∷ []))) ≡ Ok k
          → (0 < l
          → k ≡ cond (cond t (any_zero (c.n ∷ [])) (cond u (any_zero (c.n ∷ c.m ∷ [])) (any_zero (c.n ∷ [])))) 0 l)
          × (0 < k
          → Causal (λ (f : Line).
          cond t (single_line c.n f) (cond u (double_line c.n c.m f) (mid_line c.n f))))
      go true u f = (λ bars. one_count c.prices c.n l (8 * l) k bars f, λ some. causal_single c.n)
      go false true f = (
        λ bars. two_count c.prices c.n c.m l k bars f,
        λ some.
            let o = double_opened c.prices c.n c.m l k f some in
            causal_double c.n c.m o.short.some o.order,
      )
      go false false f = (
        λ bars. one_count c.prices c.n l (8 * l) k bars f,
        λ some.
            causal_mid c.n (opened accepted c.prices (c.n ∷ []) l (8 * l ∷ []) k f some).each.0.some,
      )

-- ---- two contracts

-- one rule and the same windows, and the same bars up to b
module _ (c d : Contract) (b : ℕ) (rule : c.rule ≡ d.rule) (n : c.n ≡ d.n) (m : c.m ≡ d.m)
    (left : b < length c.prices) (right : b < length d.prices)
    (same : Same (line c.prices) (line d.prices) b)
    (k k' : ℕ) (e : own_answer c ≡ Ok k) (e' : own_answer d ≡ Ok k') where
  same_line : (j : ℕ) → j ≤ b → 0 < k → own_line c j ≡ own_line d j
  unfolding own_line
  same_line j h some =
      causal_same ((own_known c k e).1 some) (line c.prices) (line d.prices) b same j h ∙ (rw (rule, n, m))

  pub same_position : (j : ℕ) → j ≤ b → position_of c j ≡ position_of d j
  same_position j h =
      go (no_window d.rule d.n d.m) (rw (rule, n, m) at ((own_known c k e).0 (omega arith)))
      ((own_known d k' e').0 (omega arith))
    where
      go : (t : Bool) → k ≡ cond t 0 (length c.prices) → k' ≡ cond t 0 (length d.prices)
          → position_of c j ≡ position_of d j
      go true p q = position_after_lem c e j (omega arith) ∙ sym (position_after_lem d e' j (omega arith))
      go false p q =
          position_below c e j (omega arith)
          ∙ ap whole_position (same_line j h (omega arith))
          ∙ sym (position_below d e' j (omega arith))

-- ---- lists of them

-- one group, and equal parts of a net at bar j
pub record Alike (j : ℕ) (c d : Contract) : Type 0 where
  pub group : c.group ≡ d.group
  pub part : c.weight *ℤ position_of c j ≡ d.weight *ℤ position_of d j

alike_net : (j k : ℕ) (f g : ℕ → Contract) → ((i : ℕ) → i < k → Alike j (f i) (g i))
    → net (first_cells k f) j ≡ net (first_cells k g) j
unfolding net
alike_net j zero f g h = refl
alike_net j (suc k) f g h =
    let one = h 0 (omega arith) in
    rw (one.part, alike_net j k (λ i. f (suc i)) (λ i. g (suc i)) (λ i u. h (suc i) (omega arith)))

alike_group : (j p k : ℕ) (f g : ℕ → Contract) → ((i : ℕ) → i < k → Alike j (f i) (g i))
    → net (of_group p (first_cells k f)) j ≡ net (of_group p (first_cells k g)) j
unfolding net of_group
alike_group j p zero f g h = refl
alike_group j p (suc k) f g h =
    go (eqb (f 0).group p) (eqb (g 0).group p) (ap (λ (x : ℕ). eqb x p) (h 0 (omega arith)).group)
    (alike_group j p k (λ i. f (suc i)) (λ i. g (suc i)) (λ i u. h (suc i) (omega arith)))
  where
    fs : List Contract
    fs = of_group p (first_cells k (λ i. f (suc i)))

    gs : List Contract
    gs = of_group p (first_cells k (λ i. g (suc i)))

    both : (t : Bool) → net fs j ≡ net gs j → net (cond t (f 0 ∷ fs) fs) j ≡ net (cond t (g 0 ∷ gs) gs) j
    both true e = rw ((h 0 (omega arith)).part, e)
    both false e = e

    go : (t u : Bool) → t ≡ u → net fs j ≡ net gs j → net (cond t (f 0 ∷ fs) fs) j ≡ net (cond u (g 0 ∷ gs) gs) j
    go t u q e = rw q (both u e)

pub alike_row : (j r k : ℕ) (f g : ℕ → Contract) → ((i : ℕ) → i < k → Alike j (f i) (g i))
    → net (of_row r (first_cells k f)) j ≡ net (of_row r (first_cells k g)) j
alike_row j r k f g h = go (eqb r groups)
  where
    go : (t : Bool)
        → net (cond t (first_cells k f) (of_group (suc r) (first_cells k f))) j
        ≡ net (cond t (first_cells k g) (of_group (suc r) (first_cells k g))) j
    go true = alike_net j k f g h
    go false = alike_group j (suc r) k f g h
