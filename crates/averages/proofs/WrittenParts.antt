-- A slice that is written at two places side by side: up to cell `lo`, and from cell b up to `hi`. Assumes nothing.
use mathlib.Core.Path.{◌≡◌, refl, sym, ◌∙◌}
use mathlib.Core.Bool.{Bool, true, false}
use mathlib.Core.List.{List, [], ◌∷◌}
use Prim.Native.Nat.{ℕ, zero, suc, ◌+◌, ◌<◌, ◌≤◌}
use native.Mathlib.Omega.{arith}
use borrow.Author.Tests.{ltb-true, ltb-false}
use lib.Dec.{ltb}
use lib.ListN.{length, set, get_or, length-set}
use lib.Seq.{get_or-set_same, get_or-set_other}
use Rattle.cells.specs.Recur.{recur}
use Rattle.cells.specs.Written.{written, Writing}
use Rattle.cells.proofs.Written.{length_written, getd_written, getd_untouched, read_back}

module _ {A : Type 0} where
  -- lists of one length with the same elements are the same
  same_list : (d : A) (s t : List A) → length s ≡ length t → ((j : ℕ) → get_or s j d ≡ get_or t j d) → s ≡ t
  same_list d [] [] e h = refl
  same_list d [] (y ∷ t) e h = absurd (omega arith)
  same_list d (x ∷ s) [] e h = absurd (omega arith)
  same_list d (x ∷ s) (y ∷ t) e h =
      let rest : s ≡ t = same_list d s t (omega arith) (λ j. h (suc j)) in
      let one : x ≡ y = h 0 in
      rw (rest, one)

  -- `now` is `old` with the cells of f at both places
  pub record Parts (f : ℕ → A) (d : A) (lo b hi : ℕ) (old now : List A) : Type 0 where
    pub low : (j : ℕ) → j < lo → get_or now j d ≡ f j
    pub high : (j : ℕ) → b ≤ j → j < hi → get_or now j d ≡ f j
    pub rest : (j : ℕ) → hi ≤ j → get_or now j d ≡ get_or old j d
    pub long : length now ≡ length old

module _ {A : Type 0} {f : ℕ → A} {d : A} {old : List A} where
  -- the first place is begun, and the second is not
  pub one_part : {k : ℕ} {now : List A} (lo b hi : ℕ) → Writing k f old now → (k ≡ lo) × (b ≡ hi) × (k ≤ b)
      × (k ≤ length old)
      → Parts f d lo b hi old now
  one_part {k} lo b hi w (e, g, h, l) =
      record {
        low = λ j p. read_back j d w (omega arith);
        high = λ j p q. absurd (omega arith);
        rest = λ j p. rw w.is (getd_untouched k f old j d (omega arith));
        long = w.long;
      }

  -- a cell more at each
  both_parts : {lo b hi : ℕ} {now : List A} {x y : A} (i j : ℕ) → Parts f d lo b hi old now → x ≡ f lo → y ≡ f hi
      → (lo + 1 ≡ i) × (hi + 1 ≡ j) × (lo < b) × (b ≤ hi) × (hi < length old)
      → Parts f d i b j old (set (set now lo x) hi y)
  both_parts {lo} {b} {hi} {now} {x} {y} i j w e g (u, v, p, q, r) =
      record {
        low = low;
        high = high;
        rest = rest;
        long = length-set (set now lo x) hi y ∙ length-set now lo x
            ∙ w.long;
      }
    where
      both : List A
      both = set (set now lo x) hi y

      inner : lo < length now
      inner = omega (arith, w.long)

      outer : hi < length (set now lo x)
      outer = rw (length-set now lo x, w.long) r

      -- a cell beside the two
      off : (k : ℕ) → (k ≡ hi → ⊥) → (k ≡ lo → ⊥) → get_or both k d ≡ get_or now k d
      off k m n = get_or-set_other (set now lo x) hi k y d m ∙ get_or-set_other now lo k x d n

      low : (k : ℕ) → k < i → get_or both k d ≡ f k
      low k l = go (ltb k lo) refl
        where
          go : (t : Bool) → ltb k lo ≡ t → get_or both k d ≡ f k
          go true z =
              let m : k < lo = ltb-true _ _ z in
              off k (λ (o : k ≡ hi). omega arith) (λ (o : k ≡ lo). omega arith) ∙ w.low k m
          go false z =
              let m : lo ≤ k = ltb-false _ _ z in
              let here : k ≡ lo = omega arith in
              get_or-set_other (set now lo x) hi k y d (λ (o : k ≡ hi). omega arith)
              ∙ rw here (get_or-set_same now lo x d inner ∙ e)

      high : (k : ℕ) → b ≤ k → k < j → get_or both k d ≡ f k
      high k l m = go (ltb k hi) refl
        where
          go : (t : Bool) → ltb k hi ≡ t → get_or both k d ≡ f k
          go true z =
              let n : k < hi = ltb-true _ _ z in
              off k (λ (o : k ≡ hi). omega arith) (λ (o : k ≡ lo). omega arith) ∙ w.high k l n
          go false z =
              let n : hi ≤ k = ltb-false _ _ z in
              let here : k ≡ hi = omega arith in
              rw here (get_or-set_same (set now lo x) hi y d outer ∙ g)

      rest : (k : ℕ) → j ≤ k → get_or both k d ≡ get_or old k d
      rest k l = off k (λ (o : k ≡ hi). omega arith) (λ (o : k ≡ lo). omega arith) ∙ w.rest k (omega arith)

  -- m cells more at each
  pub more_parts : {lo b hi : ℕ} {now : List A} (x y : ℕ → A) (m : ℕ) → Parts f d lo b hi old now
      → ((k : ℕ) → k < m → (x k ≡ f (lo + k)) × (y k ≡ f (hi + k))) → (lo + m ≤ b) × (b ≤ hi) × (hi + m ≤ length old)
      → Parts f d (lo + m) b (hi + m) old (recur now (λ k cells. set (set cells (lo + k) (x k)) (hi + k) (y k)) m)
  unfolding recur
  more_parts {lo} {b} {hi} {now} x y zero w e h =
      let l : lo + 0 ≡ lo = omega arith in
      let u : hi + 0 ≡ hi = omega arith in
      rw (l, u) w
  more_parts {lo} {b} {hi} x y (suc m) w e h =
      both_parts (lo + suc m) (hi + suc m) (more_parts x y m w (λ k l. e k (omega arith)) (omega arith))
      (e m (omega arith)).0 (e m (omega arith)).1 (omega arith)

  -- the first place reaches the second
  pub joined : {lo b hi : ℕ} {now : List A} → Parts f d lo b hi old now → (lo ≡ b) × (b ≤ hi) × (hi ≤ length old)
      → Writing hi f old now
  joined {lo} {b} {hi} {now} w (e, h, l) =
      record { is = same_list d now (written hi f old) (w.long ∙ sym (length_written hi f old)) each; long = w.long }
    where
      each : (j : ℕ) → get_or now j d ≡ get_or (written hi f old) j d
      each j = go (ltb j b) (ltb j hi) refl refl
        where
          go : (t u : Bool) → ltb j b ≡ t → ltb j hi ≡ u → get_or now j d ≡ get_or (written hi f old) j d
          go true u p q =
              let m : j < b = ltb-true _ _ p in
              w.low j (omega arith) ∙ sym (getd_written hi f old j d (omega arith) (omega arith))
          go false true p q =
              let m : b ≤ j = ltb-false _ _ p in
              let n : j < hi = ltb-true _ _ q in
              w.high j m n ∙ sym (getd_written hi f old j d n (omega arith))
          go false false p q =
              let n : hi ≤ j = ltb-false _ _ q in
              w.rest j n ∙ sym (getd_untouched hi f old j d n)
