-- Integers as differences of natural numbers: z is `above z` - `below z`, one of which is 0. What is linear in the
-- parts is then plain arithmetic. Beside them the sum of neighbouring integers. Assumes nothing.
use mathlib.Core.Path.{◌≡◌, refl, sym, ◌∙◌}
use mathlib.Core.Logic.{◌⊎◌, inl, inr}
use mathlib.Core.Bool.{Bool, true, false, not, cond}
use Prim.Native.Nat.{ℕ, zero, suc, ◌+◌, ◌-◌, ◌*◌, ◌≤◌, ◌<◌, zero-le}
use native.Mathlib.Nat.{
  le_refl,
  le_antisymm,
  le_of_suc-le-suc,
  lt_of_not-le,
  not-le_of_lt,
  zero-mul,
  add-zero,
  zero-add,
}
use native.Mathlib.Omega.{arith}
use borrow.Author.Tests.{lt-ltb, le-ltb, ltb-true}
use lib.Dec.{T, ltb, ltb→lt, nltb→le}
use lib.IntN.{ℤ, pos, negsuc, neg_ℤ, nat_abs, sub_ℕ, ◌+ℤ◌, ◌-ℤ◌, ◌*ℤ◌, +ℤ_assoc, +ℤ_comm, +ℤ_idl, +ℤ_invr}
use lib.Signed.{lt_z}
use Rattle.rounding.specs.Nearest.{signed}
use Rattle.rounding.specs.Whole.{total}

abbrev pub above : ℤ → ℕ
above (pos n) = n
above (negsuc n) = 0

abbrev pub below : ℤ → ℕ
below (pos n) = 0
below (negsuc n) = suc n

pub parts_abs : (z : ℤ) → above z + below z ≡ nat_abs z
parts_abs (pos n) = add-zero n
parts_abs (negsuc n) = zero-add (suc n)

pub parts_neg : (z : ℤ) → (above (neg_ℤ z) ≡ below z) × (below (neg_ℤ z) ≡ above z)
parts_neg (pos zero) = (refl, refl)
parts_neg (pos (suc n)) = (refl, refl)
parts_neg (negsuc n) = (refl, refl)

-- the parts of a - b
parts_sub : (a b : ℕ) → above (sub_ℕ a b) + b ≡ a + below (sub_ℕ a b)
parts_sub a b = go (ltb a b) (ltb→lt a b) (nltb→le a b)
  where
    go : (t : Bool) → (T t → a < b) → (T (not t) → b ≤ a)
        → above (cond t (negsuc (b - suc a)) (pos (a - b))) + b ≡ a + below (cond t (negsuc (b - suc a)) (pos (a - b)))
    go true h k = let l : a < b = h tt in omega arith
    go false h k = let l : b ≤ a = k tt in omega arith

pub parts_add : (a b : ℤ) → above (a +ℤ b) + (below a + below b) ≡ above a + above b + below (a +ℤ b)
parts_add (pos a) (pos b) = omega arith
parts_add (pos a) (negsuc b) = omega (arith, parts_sub a (suc b))
parts_add (negsuc a) (pos b) = omega (arith, parts_sub b (suc a))
parts_add (negsuc a) (negsuc b) = omega arith

pub parts_minus : (a b : ℤ) → above (a -ℤ b) + (below a + above b) ≡ above a + below b + below (a -ℤ b)
parts_minus a b = let n = parts_neg b in omega (arith, parts_add a (neg_ℤ b))

neg_zero : (n : ℕ) → above (neg_ℤ (pos n)) ≡ 0
neg_zero zero = refl
neg_zero (suc n) = refl

neg_size : (n : ℕ) → below (neg_ℤ (pos n)) ≡ n
neg_size zero = refl
neg_size (suc n) = refl

pub parts_times : (a : ℤ) (n : ℕ) → (above (a *ℤ pos n) ≡ above a * n) × (below (a *ℤ pos n) ≡ below a * n)
parts_times (pos a) n = (refl, sym (zero-mul n))
parts_times (negsuc a) n = (neg_zero (suc a * n) ∙ sym (zero-mul n), neg_size (suc a * n))

pub parts_signed : (s : Bool) (u : ℕ) → (above (signed s u) ≡ cond s 0 u) × (below (signed s u) ≡ cond s u 0)
parts_signed true u = (neg_zero u, neg_size u)
parts_signed false u = (refl, refl)

pub parts_same : (a b : ℤ) → above a + below b ≡ above b + below a → a ≡ b
parts_same (pos a) (pos b) h = let e : a ≡ b = omega arith in rw e
parts_same (pos a) (negsuc b) h = absurd (omega arith)
parts_same (negsuc a) (pos b) h = absurd (omega arith)
parts_same (negsuc a) (negsuc b) h = let e : a ≡ b = omega arith in rw e

-- ---- order and size

pub ltb_same : (a b c d : ℕ) → (a < b → c < d) → (c < d → a < b) → ltb a b ≡ ltb c d
ltb_same a b c d f g = go (ltb a b) (ltb→lt a b) (nltb→le a b)
  where
    go : (t : Bool) → (T t → a < b) → (T (not t) → b ≤ a) → t ≡ ltb c d
    go true h k = sym (lt-ltb c d (f (h tt)))
    go false h k = sym (le-ltb c d (le_of_suc-le-suc (lt_of_not-le (λ (l : c < d). not-le_of_lt (g l) (k tt)))))

pub parts_lt : (a b : ℤ) → lt_z a b ≡ ltb (above a + below b) (above b + below a)
parts_lt (pos a) (pos b) = simp add-zero
parts_lt (pos a) (negsuc b) = sym (le-ltb (a + suc b) 0 zero-le)
parts_lt (negsuc a) (pos b) = sym (lt-ltb 0 (b + suc a) (omega arith))
parts_lt (negsuc a) (negsuc b) = ltb_same b a (0 + suc b) (0 + suc a) (λ h. omega arith) (λ h. omega arith)

pub parts_less : (a b : ℤ) → lt_z a b ≡ true → above a + below b < above b + below a
parts_less a b h = ltb-true (above a + below b) (above b + below a) (sym (parts_lt a b) ∙ h)

pub less_parts : (a b : ℤ) → above a + below b < above b + below a → lt_z a b ≡ true
less_parts a b h = parts_lt a b ∙ lt-ltb (above a + below b) (above b + below a) h

pub not_less : (a b : ℤ) → lt_z a b ≡ true → lt_z b a ≡ false
not_less a b h = let l = parts_less a b h in parts_lt b a ∙ le-ltb (above b + below a) (above a + below b) (omega arith)

pub self_not_less : (a : ℤ) → lt_z a a ≡ false
self_not_less a = parts_lt a a ∙ le-ltb (above a + below a) (above a + below a) (le_refl (above a + below a))

pub one_of_three : (a b : ℤ) → (lt_z a b ≡ true) ⊎ ((lt_z b a ≡ true) ⊎ (a ≡ b))
one_of_three a b = go (ltb p q) (ltb q p) (ltb→lt p q) (ltb→lt q p) (nltb→le p q) (nltb→le q p)
  where
    p : ℕ
    p = above a + below b

    q : ℕ
    q = above b + below a

    go : (t u : Bool) → (T t → p < q) → (T u → q < p) → (T (not t) → q ≤ p) → (T (not u) → p ≤ q)
        → (lt_z a b ≡ true) ⊎ ((lt_z b a ≡ true) ⊎ (a ≡ b))
    go true u h k h' k' = inl (parts_lt a b ∙ lt-ltb p q (h tt))
    go false true h k h' k' = inr (inl (parts_lt b a ∙ lt-ltb q p (k tt)))
    go false false h k h' k' = inr (inr (parts_same a b (le_antisymm (k' tt) (h' tt))))

abs_sub : (a b : ℕ) → nat_abs (sub_ℕ a b) ≤ a + b
abs_sub a b = go (ltb a b) (ltb→lt a b)
  where
    go : (t : Bool) → (T t → a < b) → nat_abs (cond t (negsuc (b - suc a)) (pos (a - b))) ≤ a + b
    go true h = let l : a < b = h tt in omega arith
    go false h = omega arith

pub abs_neg : (z : ℤ) → nat_abs (neg_ℤ z) ≡ nat_abs z
abs_neg (pos zero) = refl
abs_neg (pos (suc n)) = refl
abs_neg (negsuc n) = refl

pub abs_add : (a b : ℤ) → nat_abs (a +ℤ b) ≤ nat_abs a + nat_abs b
abs_add (pos a) (pos b) = le_refl (a + b)
abs_add (pos a) (negsuc b) = abs_sub a (suc b)
abs_add (negsuc a) (pos b) = let h = abs_sub b (suc a) in omega arith
abs_add (negsuc a) (negsuc b) = omega arith

pub abs_minus : (a b : ℤ) → nat_abs (a -ℤ b) ≤ nat_abs a + nat_abs b
abs_minus a b = let n = parts_neg b in omega (arith, abs_add a (neg_ℤ b), parts_abs (neg_ℤ b), parts_abs b)

-- a and b are at most e apart
pub record Near (a b e : ℕ) : Type 0 where
  pub above_by : a ≤ b + e
  pub below_by : b ≤ a + e

module _ (a b : ℤ) {e : ℕ} where
  -- two integers at most e apart
  pub near_abs : nat_abs (a -ℤ b) ≤ e → Near (above a + below b) (above b + below a) e
  near_abs h = let m = parts_minus a b in let n = parts_abs (a -ℤ b) in omega arith

  pub abs_near : Near (above a + below b) (above b + below a) e → nat_abs (a -ℤ b) ≤ e
  abs_near n = go (a -ℤ b) (parts_minus a b)
    where
      go : (z : ℤ) → above z + (below a + above b) ≡ above a + below b + below z → nat_abs z ≤ e
      go (pos k) m = omega arith
      go (negsuc k) m = omega arith

pub abs_same : (a : ℤ) → nat_abs (a -ℤ a) ≡ 0
abs_same a = let l = abs_near a a {e = 0} (omega arith) in omega arith

-- how far apart two natural numbers are, and two integers
abbrev pub gap : ℕ → ℕ → ℕ
gap a b = (a - b) + (b - a)

pub abs_gap : (a b : ℤ) → nat_abs (a -ℤ b) ≡ gap (above a + below b) (above b + below a)
abs_gap a b = go (a -ℤ b) (parts_minus a b)
  where
    go : (z : ℤ) → above z + (below a + above b) ≡ above a + below b + below z → nat_abs z
        ≡ gap (above a + below b) (above b + below a)
    go (pos k) m = omega arith
    go (negsuc k) m = omega arith

-- ---- sums of neighbouring integers

regroup : (x y z w : ℤ) → x +ℤ (y -ℤ z) +ℤ w ≡ x +ℤ y +ℤ (w -ℤ z)
regroup x y z w = simp (+ℤ_assoc, +ℤ_comm)

-- of the same numbers
pub total_same : (t u : ℕ → ℤ) (a k : ℕ) → ((j : ℕ) → j < k → t (a + j) ≡ u (a + j)) → total t a k ≡ total u a k
unfolding total
total_same t u a zero h = refl
total_same t u a (suc k) h = rw (total_same t u a k (λ j l. h j (omega arith)), h k (le_refl (suc k)))

-- of numbers of magnitude at most b
pub total_size : (t : ℕ → ℤ) (a k b : ℕ) → ((j : ℕ) → j < k → nat_abs (t (a + j)) ≤ b) → nat_abs (total t a k) ≤ k * b
unfolding total
total_size t a zero b h = zero-le
total_size t a (suc k) b h =
    let r = total_size t a k b (λ j l. h j (omega arith)) in
    let l = h k (le_refl (suc k)) in
    let s = abs_add (total t a k) (t (a + k)) in
    omega arith

-- the window moves on by one: the new number comes in and the old one leaves
pub total_slides : (t : ℕ → ℤ) (a k : ℕ) → total t (a + 1) k ≡ total t a k +ℤ (t (a + k) -ℤ t a)
unfolding total
total_slides t a zero = rw (add-zero, +ℤ_invr, +ℤ_idl)
total_slides t a (suc k) =
    let next : a + 1 + k ≡ a + suc k = omega arith in
    rw (total_slides t a k, next) (regroup (total t a k) (t (a + k)) (t a) (t (a + suc k)))
