-- The nets of contracts that are added one after another. Assumes nothing.
use mathlib.Core.Path.{◌≡◌, refl, sym, ap, ◌∙◌, subst⁻¹}
use mathlib.Core.Bool.{Bool, true, false, cond, ◌&&◌, ◌||◌}
use mathlib.Core.List.{List, [], ◌∷◌, ◌++◌}
use Prim.Native.Nat.{ℕ, zero, suc, ◌+◌, ◌-◌, ◌*◌, ◌/◌, ◌%◌, ◌<◌, ◌≤◌}
use native.Mathlib.Nat.{div-lt_iff_lt-mul, div-add-mod', mod-lt, mul-le-mul_right}
use native.Mathlib.Numerals.{add-one}
use native.Mathlib.Omega.{arith}
use borrow.Author.Tests.{eqb-true, eqb-false, eq-eqb, ne_eqb, lt-ltb, le-leb}
use lib.Dec.{ltb, eqb}
use lib.IntN.{ℤ, pos, negsuc, neg_ℤ, nat_abs, ◌+ℤ◌, ◌*ℤ◌, +ℤ_idl, +ℤ_idr, +ℤ_assoc, *ℤ-zero, *ℤ-one, *ℤ-negsuc, one}
use lib.ListN.{length, get_or}
use lib.Ieee.{Float, lt}
use Rattle.rounding_laws.proofs.Integers.{abs_add, abs_neg}
use Rattle.cells.specs.Line.{plus_zero}
use Rattle.cells.specs.Shown.{first_cells}
use Rattle.cells.specs.Written.{Writing}
use Rattle.cells.specs.inner.Touched.{Touched}
use Rattle.cells.proofs.Touched.{touched, touched_then, written_over_all}
use Rattle.cells.proofs.Written.{read_back, stood}
use Rattle.calls.specs.Answer.{count_of}
use Rattle.rules.specs.Position.{whole_position}
use Rattle.basket.specs.Basket.{
  Contract,
  groups,
  rows,
  largest_weight,
  own_answer,
  own_line,
  position_of,
  net,
  of_group,
  of_row,
  net_line,
  contract_at,
}
use Rattle.basket.specs.inner.Adding.{cell_at, RowsAdded}
use Rattle.basket.specs.inner.Parts.{part_bars}
use Rattle.basket.specs.inner.Opened.{Lent, Opened}

-- ---- a weight times a position

pub times_long : (w : ℤ) → w *ℤ pos 1 ≡ w
unfolding one
times_long w = *ℤ-one w

pub times_short : (w : ℤ) → w *ℤ negsuc 0 ≡ neg_ℤ w
times_short w = *ℤ-negsuc w 0 ∙ ap neg_ℤ (times_long w)

sided_small : (w : ℤ) (s t : Bool) → nat_abs (w *ℤ cond s (pos 1) (cond t (negsuc 0) (pos 0))) ≤ nat_abs w
sided_small w true t = rw (times_long w) (omega arith)
sided_small w false true = rw (times_short w, abs_neg w) (omega arith)
sided_small w false false = rw (*ℤ-zero w) (omega arith)

pub weighted_small : (w : ℤ) (x : Float) → nat_abs (w *ℤ whole_position x) ≤ nat_abs w
weighted_small w x = sided_small w (lt plus_zero x) (lt x plus_zero)

position_small : (c : Contract) (j : ℕ) → nat_abs (c.weight *ℤ position_of c j) ≤ nat_abs c.weight
unfolding position_of
position_small c j = go (ltb j (count_of (own_answer c)))
  where
    go : (t : Bool) → nat_abs (c.weight *ℤ cond t (whole_position (own_line c j)) (pos 0)) ≤ nat_abs c.weight
    go true = weighted_small c.weight (own_line c j)
    go false = rw (*ℤ-zero c.weight) (omega arith)

-- ---- one contract more

turned : (x : ℤ) → x +ℤ pos 0 ≡ pos 0 +ℤ x
turned x = +ℤ_idr x ∙ sym (+ℤ_idl x)

net_more : (cs : List Contract) (c : Contract) (j : ℕ) → net (cs ++ (c ∷ [])) j
    ≡ net cs j +ℤ c.weight *ℤ position_of c j
unfolding net
net_more [] c j = turned (c.weight *ℤ position_of c j)
net_more (d ∷ cs) c j =
    rw (net_more cs c j)
    (sym (+ℤ_assoc (d.weight *ℤ position_of d j) (net cs j) (c.weight *ℤ position_of c j)))

group_more : (g : ℕ) (cs : List Contract) (c : Contract) (j : ℕ)
    → net (of_group g (cs ++ (c ∷ []))) j
    ≡ net (of_group g cs) j +ℤ cond (eqb c.group g) (c.weight *ℤ position_of c j) (pos 0)
unfolding net of_group
group_more g [] c j = go (eqb c.group g)
  where
    go : (t : Bool) → net (cond t (c ∷ []) []) j ≡ pos 0 +ℤ cond t (c.weight *ℤ position_of c j) (pos 0)
    go true = turned (c.weight *ℤ position_of c j)
    go false = refl
group_more g (d ∷ cs) c j = go (eqb d.group g) (group_more g cs c j)
  where
    x : ℤ
    x = cond (eqb c.group g) (c.weight *ℤ position_of c j) (pos 0)

    go : (t : Bool) → net (of_group g (cs ++ (c ∷ []))) j ≡ net (of_group g cs) j +ℤ x
        → net (cond t (d ∷ of_group g (cs ++ (c ∷ []))) (of_group g (cs ++ (c ∷ [])))) j
        ≡ net (cond t (d ∷ of_group g cs) (of_group g cs)) j +ℤ x
    go true e =
        ap (λ (z : ℤ). d.weight *ℤ position_of d j +ℤ z) e
        ∙ sym (+ℤ_assoc (d.weight *ℤ position_of d j) (net (of_group g cs) j) x)
    go false e = e

-- a contract of group g is in row g - 1
group_row : (g r : ℕ) → 0 < g → eqb g (suc r) ≡ eqb r (g - 1)
group_row g r h = go (eqb r (g - 1)) refl
  where
    go : (t : Bool) → eqb r (g - 1) ≡ t → eqb g (suc r) ≡ t
    go true e = let same = eqb-true r (g - 1) e in eq-eqb g (suc r) (omega arith)
    go false e = ne_eqb g (suc r) (λ (p : g ≡ suc r). eqb-false r (g - 1) e (omega arith))

row_more : (r : ℕ) (cs : List Contract) (c : Contract) (j : ℕ) → 0 < c.group
    → net (of_row r (cs ++ (c ∷ []))) j
    ≡ net (of_row r cs) j +ℤ cond (eqb r (c.group - 1) || eqb r groups) (c.weight *ℤ position_of c j) (pos 0)
row_more r cs c j h = go (eqb r groups) (eqb r (c.group - 1)) (group_row c.group r h)
  where
    go : (t s : Bool) → eqb c.group (suc r) ≡ s
        → net (cond t (cs ++ (c ∷ [])) (of_group (suc r) (cs ++ (c ∷ [])))) j
        ≡ net (cond t cs (of_group (suc r) cs)) j +ℤ cond (s || t) (c.weight *ℤ position_of c j) (pos 0)
    go true true e = net_more cs c j
    go true false e = net_more cs c j
    go false true e = group_more (suc r) cs c j ∙ (rw e)
    go false false e = group_more (suc r) cs c j ∙ (rw e)

-- the first contracts, and one more
first_next : {A : Type 0} (k : ℕ) (f : ℕ → A) → first_cells (suc k) f ≡ first_cells k f ++ (f k ∷ [])
first_next zero f = refl
first_next {A} (suc k) f = ap (λ (t : List A). f 0 ∷ t) (first_next k (λ i. f (suc i)))

first_more : {A : Type 0} (k : ℕ) (f : ℕ → A) → first_cells (k + 1) f ≡ first_cells k f ++ (f k ∷ [])
first_more k f = rw add-one (first_next k f)

-- each contract moves a net by its weight at most
part_small : (t : Bool) (c : Contract) (j : ℕ) → nat_abs (cond t (c.weight *ℤ position_of c j) (pos 0)) ≤ nat_abs
    c.weight
part_small true c j = position_small c j
part_small false c j = omega arith

none_small : (r j : ℕ) → nat_abs (net (of_row r []) j) ≤ 0
unfolding net of_group
none_small r j = go (eqb r groups)
  where
    go : (t : Bool) → nat_abs (net (cond t [] (of_group (suc r) [])) j) ≤ 0
    go true = omega arith
    go false = omega arith

net_small : (f : ℕ → Contract) (r j k : ℕ)
    → ((i : ℕ) → i < k → (0 < (f i).group) × (nat_abs (f i).weight ≤ largest_weight))
    → nat_abs (net (of_row r (first_cells k f)) j) ≤ k * largest_weight
net_small f r j zero h = let none = none_small r j in omega arith
net_small f r j (suc k) h =
    let so_far = net_small f r j k (λ i l. h i (omega arith)) in
    let (some, light) = h k (omega arith) in
    let cs = first_cells k f in
    let c = f k in
    let t = eqb r (c.group - 1) || eqb r groups in
    let whole = abs_add (net (of_row r cs) j) (cond t (c.weight *ℤ position_of c j) (pos 0)) in
    let part = part_small t c j in
    subst⁻¹ (λ (ds : List Contract). nat_abs (net (of_row r ds) j) ≤ suc k * largest_weight) (first_next k f)
    (subst⁻¹ (λ (x : ℤ). nat_abs x ≤ suc k * largest_weight) (row_more r cs c j some) (omega arith))

-- ---- the nets in an output

-- the output's rows hold the nets of these contracts, and only they were used
pub record Netted (l : ℕ) (cs : List Contract) (old now : List ℤ) : Type 0 where
  pub cells : (r j : ℕ) → r < rows → j < l → cell_at l now r j ≡ net (of_row r cs) j
  pub rest : Touched (rows * l) old now

-- a cell is inside its row
inside_rows : (l r j : ℕ) → r < rows → j < l → r * l + j < rows * l
inside_rows l r j h k = let most = mul-le-mul_right l h in omega arith

pub none_netted : {l : ℕ} {old now : List ℤ} → Writing (rows * l) (λ i. pos 0) old now → rows * l ≤ length old
    → Netted l [] old now
unfolding net of_group
none_netted {l} {old} {now} w room =
    record {
      cells = λ r j h k.
          let inside = inside_rows l r j h k in
          read_back (r * l + j) (pos 0) w (omega arith) ∙ go (eqb r groups) r j;
      rest = touched w;
    }
  where
    go : (t : Bool) (r j : ℕ) → pos 0 ≡ net (cond t [] (of_group (suc r) [])) j
    go true r j = refl
    go false r j = refl

module _ {l : ℕ} {cs : List Contract} {old mid : List ℤ} (v : Netted l cs old mid) where
  one_netted : (c : Contract) {now : List ℤ}
      → RowsAdded l (c.group - 1) 0 l (λ j. c.weight *ℤ position_of c j) mid now → 0 < c.group
      → Netted l (cs ++ (c ∷ [])) old now
  one_netted c w some =
      record {
        cells = λ r j h k.
            w.cells r j h k
            ∙ (rw (le-leb 0 j (omega arith), lt-ltb j l k, v.cells r j h k, row_more r cs c j some)
            (go (eqb r (c.group - 1) || eqb r groups) (net (of_row r cs) j) (c.weight *ℤ position_of c j)));
        rest = touched_then v.rest w.rest;
      }
    where
      go : (t : Bool) (a x : ℤ) → a +ℤ cond (t && true) x (pos 0) ≡ a +ℤ cond t x (pos 0)
      go true a x = refl
      go false a x = refl

  -- all cells of the rows are written
  all_netted : 0 < l → Writing (rows * l) (net_line l cs) old mid
  unfolding net_line
  all_netted some =
      written_over_all v.rest (stood (pos 0) (λ i h.
      let row : i / l < rows = (div-lt_iff_lt-mul some).1 h in
      sym (v.cells (i / l) (i % l) row (mod-lt i some))
      ∙ ap (λ (k : ℕ). get_or mid k (pos 0)) (div-add-mod' i l)))

-- ---- contract after contract

module _ {l : ℕ} (f : ℕ → Contract) {old now : List ℤ} where
  -- one more
  pub next_netted : {k : ℕ} {mid : List ℤ} → Netted l (first_cells k f) old mid
      → RowsAdded l ((f k).group - 1) 0 l (λ j. (f k).weight *ℤ position_of (f k) j) mid now → 0 < (f k).group
      → Netted l (first_cells (k + 1) f) old now
  next_netted {k} v w some = rw (first_more k f) (one_netted v (f k) w some)

  -- all of them
  pub netted_all : {k n : ℕ} → Netted l (first_cells k f) old now → k ≡ n → 0 < l
      → Writing (rows * l) (net_line l (first_cells n f)) old now
  netted_all v e some = rw (← e) (all_netted v some)

module _ {series : List Float} {table : List ℕ} {weights : List ℤ} {l : ℕ} {out₀ out₁ : List ℤ} {work₀ work₁ : List
    Float}
    (o : Opened series table weights l (length out₀) (length work₀)) (k : ℕ)
    (v : Netted l (first_cells k (contract_at l series table weights)) out₀ out₁) (t : Touched (8 * l) work₀ work₁)
  where
    -- the slices are as long as before
    pub still_opened : Opened series table weights l (length out₁) (length work₁)
    still_opened = rw (v.rest.long, t.long) o

    -- they have room for the next contract
    pub next_lent : {block block₁ : ℕ} → part_bars ≤ block → block₁ ≡ block → k < length weights
        → Lent l out₁ block₁ (length work₁)
    next_lent p e h =
        let few = o.sized.shape.few in
        record {
          room = rw v.rest.long o.sized.out_long;
          small = record {
            cells = λ r j i from u.
                let size = net_small (contract_at l series table weights) r j k (λ n m.
                let ready = o.each n (omega arith) in (ready.some, ready.light)) in
                rw (v.cells r j i u) (omega (arith, mul-le-mul_right largest_weight h));
          };
          block_long = rw e p;
          work_long = rw t.long o.sized.work_long;
        }
