-- The nets of all groups add up to the net of the whole. Assumes nothing.
use mathlib.Core.Path.{◌≡◌, refl, sym, ap, ◌∙◌}
use mathlib.Core.Bool.{Bool, true, false, cond}
use mathlib.Core.List.{List, [], ◌∷◌}
use Prim.Native.Nat.{ℕ, zero, suc, ◌<◌, ◌≤◌}
use native.Mathlib.Omega.{arith}
use borrow.Author.Tests.{eqb-true, eqb-false, leb-true, leb-false, le-leb, lt-leb}
use lib.Dec.{leb, eqb}
use lib.IntN.{ℤ, pos, ◌+ℤ◌, ◌*ℤ◌, +ℤ_idl, +ℤ_assoc, +ℤ_comm}
use Rattle.cells.specs.Shown.{first_cells}
use Rattle.basket.specs.Basket.{Contract, groups, position_of, net, of_group}

-- the nets of groups 1 to k, added up
unfoldable pub groups_net : ℕ → List Contract → ℕ → ℤ
groups_net zero cs j = pos 0
groups_net (suc k) cs j = groups_net k cs j +ℤ net (of_group (suc k) cs) j

none_net : (k j : ℕ) → groups_net k [] j ≡ pos 0
unfolding groups_net net of_group
none_net zero j = refl
none_net (suc k) j = rw (none_net k j)

-- a summand is brought to the front
pub to_front : (b x n : ℤ) → b +ℤ (x +ℤ n) ≡ x +ℤ (b +ℤ n)
to_front b x n = sym (+ℤ_assoc b x n) ∙ ap (λ (z : ℤ). z +ℤ n) (+ℤ_comm b x) ∙ +ℤ_assoc x b n

-- a contract counts in one group
one_group : (k : ℕ) (c : Contract) (cs : List Contract) (j : ℕ) → 0 < c.group
    → groups_net k (c ∷ cs) j ≡ cond (leb c.group k) (c.weight *ℤ position_of c j) (pos 0) +ℤ groups_net k cs j
unfolding groups_net net of_group
one_group zero c cs j some = rw (lt-leb c.group 0 some)
one_group (suc k) c cs j some = go (eqb c.group (suc k)) refl (one_group k c cs j some)
  where
    x : ℤ
    x = c.weight *ℤ position_of c j

    go : (t : Bool) → eqb c.group (suc k) ≡ t
        → groups_net k (c ∷ cs) j ≡ cond (leb c.group k) x (pos 0) +ℤ groups_net k cs j
        → groups_net k (c ∷ cs) j +ℤ net (cond t (c ∷ of_group (suc k) cs) (of_group (suc k) cs)) j
        ≡ cond (leb c.group (suc k)) x (pos 0) +ℤ (groups_net k cs j +ℤ net (of_group (suc k) cs) j)
    go true e so_far =
        let same = eqb-true c.group (suc k) e in
        let after : leb c.group k ≡ false = lt-leb c.group k (omega arith) in
        let here : leb c.group (suc k) ≡ true = le-leb c.group (suc k) (omega arith) in
        let before : groups_net k (c ∷ cs) j ≡ groups_net k cs j = (rw after at so_far) ∙ +ℤ_idl (groups_net k cs j) in
        rw (here, before) (to_front (groups_net k cs j) x (net (of_group (suc k) cs) j))
    go false e so_far =
        let other = eqb-false c.group (suc k) e in
        rw (as_before other (leb c.group k) refl, so_far)
        (+ℤ_assoc (cond (leb c.group k) x (pos 0)) (groups_net k cs j) (net (of_group (suc k) cs) j))
      where
        as_before : (c.group ≡ suc k → ⊥) → (t : Bool) → leb c.group k ≡ t
            → leb c.group (suc k) ≡ leb c.group k
        as_before other true f =
            let few = leb-true c.group k f in
            rw (f, le-leb c.group (suc k) (omega arith))
        as_before other false f =
            let many = leb-false c.group k f in
            rw (f, lt-leb c.group (suc k) (omega arith))

pub groups_net_lem : (n : ℕ) (f : ℕ → Contract) (j : ℕ)
    → ((i : ℕ) → i < n → (0 < (f i).group) × ((f i).group ≤ groups))
    → groups_net groups (first_cells n f) j ≡ net (first_cells n f) j
unfolding net
groups_net_lem zero f j h = none_net groups j
groups_net_lem (suc n) f j h =
    let (some, few) = h 0 (omega arith) in
    one_group groups (f 0) (first_cells n (λ i. f (suc i))) j some
    ∙ (rw (le-leb (f 0).group groups few, groups_net_lem n (λ i. f (suc i)) j (λ i u. h (suc i) (omega arith))))
