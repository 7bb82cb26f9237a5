-- Contracts listed in another order: the same nets, and as many bars. Assumes nothing.
use mathlib.Core.Path.{◌≡◌, refl, sym, ap, ◌∙◌}
use mathlib.Core.Bool.{Bool, true, false, cond, ◌&&◌}
use mathlib.Core.List.{
  List,
  [],
  ◌∷◌,
  map,
  Permᴰ,
}
use Prim.Native.Nat.{ℕ, zero, suc, ◌<◌}
use native.Mathlib.Nat.{not-suc-le-zero}
use native.Mathlib.Omega.{arith}
use borrow.Author.Tests.{eqb-true, eq-eqb}
use lib.Dec.{eqb}
use lib.IntN.{ℤ, ◌+ℤ◌, ◌*ℤ◌}
use lib.ListN.{length}
use Rattle.values.specs.Accepted.{all}
use Rattle.values.proofs.All.{and_parts}
use Rattle.cells.specs.Shown.{first_cells}
use Rattle.basket.specs.Basket.{Contract, groups, position_of, net, of_group, of_row}
use Rattle.basket.proofs.Groups.{to_front}

-- what neither an equal tail nor two elements that change places move
in_any_order : {A B : Type 0} (g : List A → B) → ((x : A) (s t : List A) → g s ≡ g t → g (x ∷ s) ≡ g (x ∷ t))
    → ((x y : A) (s : List A) → g (x ∷ y ∷ s) ≡ g (y ∷ x ∷ s)) → {s t : List A} → Permᴰ s t → g s ≡ g t
in_any_order g more turn Permᴰ.nil = refl
in_any_order g more turn (Permᴰ.cons {b = x} {l₁ = s} {l₂ = t} e p) =
    rw e (more x s t (in_any_order g more turn p))
in_any_order g more turn (Permᴰ.swap {a' = y} {b' = x} {l = s} e f) = rw (e, f) (turn x y s)
in_any_order g more turn (Permᴰ.trans p q) = in_any_order g more turn p ∙ in_any_order g more turn q

module _ (j : ℕ) where
  pub net_any_order : {s t : List Contract} → Permᴰ s t → net s j ≡ net t j
  unfolding net
  net_any_order =
      in_any_order (λ cs. net cs j) (λ c s t e. ap (λ (z : ℤ). c.weight *ℤ position_of c j +ℤ z) e)
      (λ c d s. to_front (c.weight *ℤ position_of c j) (d.weight *ℤ position_of d j) (net s j))

  group_any_order : (g : ℕ) {s t : List Contract} → Permᴰ s t → net (of_group g s) j ≡ net (of_group g t) j
  unfolding net of_group
  group_any_order g =
      in_any_order (λ cs. net (of_group g cs) j) (λ c s t. more (eqb c.group g) c (of_group g s) (of_group g t))
      (λ c d s. turn (eqb c.group g) (eqb d.group g) c d (of_group g s))
    where
      more : (u : Bool) (c : Contract) (s t : List Contract) → net s j ≡ net t j
          → net (cond u (c ∷ s) s) j ≡ net (cond u (c ∷ t) t) j
      more true c s t e = ap (λ (z : ℤ). c.weight *ℤ position_of c j +ℤ z) e
      more false c s t e = e

      turn : (u v : Bool) (c d : Contract) (s : List Contract)
          → net (cond u (c ∷ cond v (d ∷ s) s) (cond v (d ∷ s) s)) j
          ≡ net (cond v (d ∷ cond u (c ∷ s) s) (cond u (c ∷ s) s)) j
      turn true true c d s = to_front (c.weight *ℤ position_of c j) (d.weight *ℤ position_of d j) (net s j)
      turn true false c d s = refl
      turn false true c d s = refl
      turn false false c d s = refl

  pub row_any_order : (r : ℕ) {s t : List Contract} → Permᴰ s t → net (of_row r s) j ≡ net (of_row r t) j
  row_any_order r {s} {t} p = go (eqb r groups)
    where
      go : (u : Bool) → net (cond u s (of_group (suc r) s)) j ≡ net (cond u t (of_group (suc r) t)) j
      go true = net_any_order p
      go false = group_any_order (suc r) p

-- ---- as many bars

-- each has l bars
abbrev as_long : ℕ → Contract → Bool
as_long l c = eqb (length c.prices) l

bars_any_order : (l : ℕ) {s t : List Contract} → Permᴰ s t → all (as_long l) s ≡ all (as_long l) t
bars_any_order l =
    in_any_order (all (as_long l)) (λ c s t e. ap (λ (x : Bool). as_long l c && x) e)
    (λ c d s. turn (as_long l c) (as_long l d) (all (as_long l) s))
  where
    turn : (t u v : Bool) → t && (u && v) ≡ u && (t && v)
    turn true true v = refl
    turn true false v = refl
    turn false true v = refl
    turn false false v = refl

all_long : (l k : ℕ) (f : ℕ → Contract) → ((i : ℕ) → i < k → length (f i).prices ≡ l)
    → all (as_long l) (first_cells k f) ≡ true
all_long l zero f h = refl
all_long l (suc k) f h =
    rw (eq-eqb _ _ (h 0 (omega arith)), all_long l k (λ i. f (suc i)) (λ i u. h (suc i) (omega arith)))

first_long : (l k : ℕ) (f : ℕ → Contract) → 0 < k → all (as_long l) (first_cells k f) ≡ true → length (f 0).prices ≡ l
first_long l zero f h e = absurd (not-suc-le-zero h)
first_long l (suc k) f h e = eqb-true _ _ (and_parts (as_long l (f 0)) _ e).0

-- ---- contracts that are changed, each in the same way

module _ (change : Contract → Contract) where
  -- not in their part of a net
  pub changed_net : (j : ℕ)
      → ((c : Contract) → (change c).weight *ℤ position_of (change c) j ≡ c.weight *ℤ position_of c j)
      → (cs : List Contract) → net (map change cs) j ≡ net cs j
  unfolding net
  changed_net j same [] = refl
  changed_net j same (c ∷ cs) = rw (same c, changed_net j same cs)

  -- nor in their bars
  module _ (same : (c : Contract) → (change c).prices ≡ c.prices) where
    changed_long : (l : ℕ) (cs : List Contract) → all (as_long l) (map change cs) ≡ all (as_long l) cs
    changed_long l [] = refl
    changed_long l (c ∷ cs) = rw (same c, changed_long l cs)

    -- two lists, each with one number of bars, have the same
    pub same_bars : {l l' : ℕ} (k k' : ℕ) (f g : ℕ → Contract) → 0 < k'
        → ((i : ℕ) → i < k → length (f i).prices ≡ l) → ((i : ℕ) → i < k' → length (g i).prices ≡ l')
        → Permᴰ (map change (first_cells k f)) (map change (first_cells k' g)) → l ≡ l'
    same_bars {l} k k' f g some each each' p =
        sym
        (first_long l k' g some
        (sym (changed_long l (first_cells k' g)) ∙ sym (bars_any_order l p) ∙ changed_long l (first_cells k f)
        ∙ all_long l k f each))
        ∙ each' 0 some
