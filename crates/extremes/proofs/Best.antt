-- The best of neighbouring cells, put together from the best of its parts: of numbers `pick_of` picks the same in any
-- grouping. Assumes nothing.
use mathlib.Core.Path.{◌≡◌, refl, sym, ◌∙◌}
use mathlib.Core.Bool.{Bool, true, false, cond}
use Prim.Native.Nat.{ℕ, zero, suc, ◌+◌, ◌-◌, ◌<◌}
use native.Mathlib.Nat.{add-zero, sub_self}
use native.Mathlib.Omega.{arith}
use lib.Ieee.{Float, lt, is_nan}
use Rattle.cells.specs.Line.{Line, plus_zero}
use Rattle.cells.proofs.Line.{from_bar_lem}
use Rattle.extremes.specs.Extreme.{pick_of, pick_from, extreme}
use Rattle.extremes.proofs.Order.{lt_between}
use Rattle.extremes.specs.inner.Best.{Best, Numbers}

-- ---- two and three numbers

cond_number : (t : Bool) (x y : Float) → is_nan x ≡ false → is_nan y ≡ false → is_nan (cond t x y) ≡ false
cond_number true x y p q = p
cond_number false x y p q = q

cond_either : (t : Bool) (x : Float) → cond t x x ≡ x
cond_either true x = refl
cond_either false x = refl

module _ (before : Float → Float → Bool)
    (between : (r : Bool) (x y z : Float) → is_nan y ≡ false → before x y ≡ r → before y z ≡ r → before x z ≡ r) where
  by_cases : (p q : Bool) (x y z : Float) → is_nan y ≡ false → before x y ≡ p → before y z ≡ q
      → cond (before (cond p y x) z) z (cond p y x) ≡ cond (before x (cond q z y)) (cond q z y) x
  by_cases true true x y z n d e = rw (e, between true x y z n d e)
  by_cases true false x y z n d e = rw (e, d)
  by_cases false true x y z n d e = refl
  by_cases false false x y z n d e = rw (d, between false x y z n d e)

module _ (high : Bool) where
  number : (x y : Float) → is_nan x ≡ false → is_nan y ≡ false → is_nan (pick_of high x y) ≡ false
  number x y p q =
      elim high as (λ h. is_nan (pick_of h x y) ≡ false)
      [ true ↦ cond_number (lt x y) y x q p | false ↦ cond_number (lt y x) y x q p ]

  same : (x : Float) → pick_of high x x ≡ x
  same x = elim high as (λ h. pick_of h x x ≡ x) [ true ↦ cond_either (lt x x) x | false ↦ cond_either (lt x x) x ]

  grouped : (x y z : Float) → is_nan y ≡ false → pick_of high (pick_of high x y) z ≡ pick_of high x (pick_of high y z)
  grouped x y z n =
      elim high as (λ h. pick_of h (pick_of h x y) z ≡ pick_of h x (pick_of h y z)) [
        | true ↦ by_cases lt lt_between _ _ x y z n refl refl
        | false ↦ by_cases (λ u v. lt v u) (λ r u v w m p q. lt_between r w v u m q p) _ _ x y z n refl refl
      ]

  -- ---- neighbouring cells
  module _ (f : Line) {bars : ℕ} (all : Numbers f bars) where
    pick_from_number : (a k : ℕ) → a + k < bars → is_nan (pick_from (pick_of high) f a k) ≡ false
    unfolding pick_from
    pick_from_number a zero h = all.at a (omega arith)
    pick_from_number a (suc k) h = number _ _ (pick_from_number a k (omega arith)) (all.at (a + suc k) h)

    -- the cells after bar a + j joined to those up to it
    joined : (a j k : ℕ) → a + j + suc k < bars
        → pick_of high (pick_from (pick_of high) f a j) (pick_from (pick_of high) f (a + suc j) k)
        ≡ pick_from (pick_of high) f a (j + suc k)
    unfolding pick_from
    joined a j zero h =
        let e : j + 1 ≡ suc j = omega arith in
        rw e
    joined a j (suc k) h =
        let e : j + suc (suc k) ≡ suc (j + suc k) = omega arith in
        let g : a + suc j + suc k ≡ a + suc (j + suc k) = omega arith in
        rw (e, ← joined a j k (omega arith), g) (sym (grouped _ _ _ (pick_from_number (a + suc j) k (omega arith))))

    -- the cells from bar a + j on joined to those up to it, so that bar a + j is in both
    absorbed : (a j : ℕ) → a + j < bars → pick_of high (pick_from (pick_of high) f a j) (f (a + j))
        ≡ pick_from (pick_of high) f a j
    unfolding pick_from
    absorbed a zero h = rw add-zero (same (f a))
    absorbed a (suc j) h = grouped _ _ _ (all.at (a + suc j) h) ∙ rw (same (f (a + suc j)))

    met : (a j k : ℕ) → a + j + k < bars
        → pick_of high (pick_from (pick_of high) f a j) (pick_from (pick_of high) f (a + j) k)
        ≡ pick_from (pick_of high) f a (j + k)
    unfolding pick_from
    met a j zero h = rw add-zero (absorbed a j (omega arith))
    met a j (suc k) h =
        let e : j + suc k ≡ suc (j + k) = omega arith in
        let g : a + j + suc k ≡ a + suc (j + k) = omega arith in
        sym (grouped _ _ _ (pick_from_number (a + j) k (omega arith))) ∙ rw (met a j k (omega arith), e, g)

module _ {high : Bool} {f : Line} where
  pub one_bar_lem : (a : ℕ) → Best high f a a (f a)
  unfolding pick_from
  one_bar_lem a = record { order = omega arith; is = rw sub_self }

  module _ {bars : ℕ} (all : Numbers f bars) where
    -- the bars after bar e joined to those up to it
    pub joins : {a e e' g : ℕ} {x y z : Float} → Best high f a e x → Best high f e' g y → z ≡ pick_of high x y
        → (e' ≡ e + 1) × (g < bars)
        → Best high f a g z
    joins {a} {e} {e'} {g} p q r (d, h) =
        let u = p.order in
        let v = q.order in
        let start : e' ≡ a + suc (e - a) = omega arith in
        let span : g - a ≡ e - a + suc (g - e') = omega arith in
        record {
          order = omega arith;
          is = rw
              (r, p.is, q.is, span, ← joined high f all a (e - a) (g - e') (omega arith), ← start);
        }

    -- the bars from bar e on joined to those up to it
    pub meets : {a e g : ℕ} {x y z : Float} → Best high f a e x → Best high f e g y → z ≡ pick_of high x y → g < bars
        → Best high f a g z
    meets {a} {e} {g} p q r h =
        let u = p.order in
        let v = q.order in
        let start : e ≡ a + (e - a) = omega arith in
        let span : g - a ≡ e - a + (g - e) = omega arith in
        record {
          order = omega arith;
          is = rw
              (r, p.is, q.is, span, ← met high f all a (e - a) (g - e) (omega arith), ← start);
        }

  -- a whole window
  pub extreme_is : (n : ℕ) {a i : ℕ} {x : Float} → Best high f a i x → (0 < n) × (a + n ≡ i + 1) → x
      ≡ extreme (pick_of high) n f i
  unfolding extreme
  extreme_is n {a} {i} p (h, e) =
      let start : i + 1 - n ≡ a = omega arith in
      let span : n - 1 ≡ i - a = omega arith in
      rw (from_bar_lem (n - 1) plus_zero _ i (omega arith), start, span, p.is)
