-- `written k f old` is the list `old` with its first k cells replaced: cell i by `f i`. Assumes nothing.
use mathlib.Core.Path.{◌≡◌, refl, sym, ap, ◌∙◌}
use mathlib.Core.List.{List, [], ◌∷◌, ◌++◌}
use Prim.Native.Nat.{ℕ, zero, suc, ◌+◌, ◌<◌, ◌≤◌, zero-le, suc-le-suc}
use native.Mathlib.Nat.{not-suc-le-zero, le_of_suc-le-suc, le_refl}
use native.Mathlib.Numerals.{add-one}
use native.Mathlib.Omega.{arith}
use lib.ListN.{length, take, drop, set, get_or, length-set}
use Rattle.cells.specs.Written.{Writing, written}

module _ {A : Type 0} where
  pub length_written : (k : ℕ) (f : ℕ → A) (old : List A) → length (written k f old) ≡ length old
  length_written zero f old = refl
  length_written (suc k) f [] = refl
  length_written (suc k) f (x ∷ old) = ap suc (length_written k (λ i. f (suc i)) old)

  pub set_suc : (k : ℕ) (f : ℕ → A) (old : List A) → k < length old
      → set (written k f old) k (f k) ≡ written (suc k) f old
  set_suc k f [] h = absurd (not-suc-le-zero h)
  set_suc zero f (x ∷ old) h = refl
  set_suc (suc k) f (x ∷ old) h = ap (λ (t : List A). f 0 ∷ t) (set_suc k (λ i. f (suc i)) old (le_of_suc-le-suc h))

  -- one more store, as a loop that counts up makes it
  pub set_written : (k : ℕ) (f : ℕ → A) (old : List A) → k < length old → set (written k f old) k (f k)
      ≡ written (k + 1) f old
  set_written k f old h = rw add-one (set_suc k f old h)

  pub getd_written : (k : ℕ) (f : ℕ → A) (old : List A) (i : ℕ) (d : A) → i < k → i < length old
      → get_or (written k f old) i d ≡ f i
  getd_written zero f old i d h l = absurd (not-suc-le-zero h)
  getd_written (suc k) f [] i d h l = absurd (not-suc-le-zero l)
  getd_written (suc k) f (x ∷ old) zero d h l = refl
  getd_written (suc k) f (x ∷ old) (suc i) d h l = getd_written k (λ j. f (suc j)) old i d (le_of_suc-le-suc h)
      (le_of_suc-le-suc l)

  pub getd_untouched : (k : ℕ) (f : ℕ → A) (old : List A) (i : ℕ) (d : A) → k ≤ i → get_or (written k f old) i d
      ≡ get_or old i d
  getd_untouched zero f old i d h = refl
  getd_untouched (suc k) f [] i d h = refl
  getd_untouched (suc k) f (x ∷ old) zero d h = absurd (not-suc-le-zero h)
  getd_untouched (suc k) f (x ∷ old) (suc i) d h = getd_untouched k (λ j. f (suc j)) old i d (le_of_suc-le-suc h)

  -- a later writing of as many cells or more leaves nothing of an earlier one
  pub written_over : (j k : ℕ) (f g : ℕ → A) (old : List A) → j ≤ k → written k g (written j f old) ≡ written k g old
  written_over zero k f g old h = refl
  written_over (suc j) zero f g old h = absurd (not-suc-le-zero h)
  written_over (suc j) (suc k) f g [] h = refl
  written_over (suc j) (suc k) f g (x ∷ old) h =
      ap (λ (t : List A). g 0 ∷ t) (written_over j k (λ i. f (suc i)) (λ i. g (suc i)) old (le_of_suc-le-suc h))

  -- lines that agree below k write the same
  pub written_same : (k : ℕ) (f g : ℕ → A) (old : List A) → ((i : ℕ) → i < k → f i ≡ g i) → written k f old
      ≡ written k g old
  written_same zero f g old h = refl
  written_same (suc k) f g [] h = refl
  written_same (suc k) f g (x ∷ old) h =
      rw (h 0 (suc-le-suc zero-le))
      (ap (λ (t : List A). g 0 ∷ t) (written_same k (λ i. f (suc i)) (λ i. g (suc i)) old
      (λ i l. h (suc i) (suc-le-suc l))))

  front : (k : ℕ) (f : ℕ → A) (old : List A) → written k f (take k old) ++ drop k old ≡ written k f old
  front zero f old = refl
  front (suc k) f [] = refl
  front (suc k) f (x ∷ old) = ap (λ (t : List A). f 0 ∷ t) (front k (λ i. f (suc i)) old)

module _ {A : Type 0} {f : ℕ → A} {old : List A} where
  -- nothing is written yet
  pub none_written : Writing 0 f old old
  none_written = record { is = refl; long = refl }

  pub step : {k : ℕ} {now : List A} {x : A} (i k' : ℕ) → Writing k f old now → x ≡ f i
      → (k ≡ i) × (i + 1 ≡ k') × (i < length old) → Writing k' f old (set now i x)
  step {now = now} {x} i k' w e (p, q, h) =
      record { is = rw (w.is, e, p, ← q) (set_written i f old h); long = length-set now i x ∙ w.long }

  -- one more store, of the cell that f asks
  pub one_more : {k : ℕ} {now : List A} {x : A} → Writing k f old now → x ≡ f k → k < length old
      → Writing (k + 1) f old (set now k x)
  one_more {k} w e h = step k (k + 1) w e (omega arith)

  -- a cell that is written, read again
  pub read_back : {k : ℕ} {now : List A} (i : ℕ) (d : A) → Writing k f old now → (i < k) × (i < length old)
      → get_or now i d ≡ f i
  read_back {k} i d w (h, l) = rw w.is (getd_written k f old i d h l)

  -- the loop is over, and its count is n
  pub ends : {k n : ℕ} {now : List A} → Writing k f old now → k ≡ n → Writing n f old now
  ends w e = rw (← e) w

  -- the first n cells were lent, and came back written
  pub lent_front : {k n : ℕ} {part : List A} → Writing k f (take n old) part → k ≡ n
      → Writing n f old (part ++ drop n old)
  lent_front {k} {n} {part} w e =
      let whole : part ++ drop n old ≡ written n f old = rw (w.is, e) (front n f old) in
      record { is = whole; long = ap length whole ∙ length_written n f old }

  -- what is written stands there, also for a call that writes on
  pub stands : {k : ℕ} {now : List A} → Writing k f old now → Writing k f now now
  stands {k} w = record { is = rw w.is (sym (written_over k k f f old (le_refl k))); long = refl }

-- the same of a line that agrees below k
pub writing_same : {A : Type 0} {k : ℕ} {f g : ℕ → A} {old now : List A} → Writing k f old now
    → ((i : ℕ) → i < k → f i ≡ g i) → Writing k g old now
writing_same {k = k} {f} {g} {old} w h = record { is = w.is ∙ written_same k f g old h; long = w.long }

as_it_is : {A : Type 0} (k : ℕ) (f : ℕ → A) (d : A) (s : List A) → ((i : ℕ) → i < k → f i ≡ get_or s i d)
    → written k f s ≡ s
as_it_is zero f d s h = refl
as_it_is (suc k) f d [] h = refl
as_it_is (suc k) f d (x ∷ s) h =
    rw (h 0 (suc-le-suc zero-le), as_it_is k (λ i. f (suc i)) d s (λ i l. h (suc i) (suc-le-suc l)))

-- what a slice holds, written on itself
pub stood : {A : Type 0} {k : ℕ} {f : ℕ → A} {s : List A} (d : A) → ((i : ℕ) → i < k → f i ≡ get_or s i d)
    → Writing k f s s
stood {k = k} {f} {s} d h = record { is = sym (as_it_is k f d s h); long = refl }

-- a writing of as many cells or more, on top of another
pub then_written : {A : Type 0} {j k : ℕ} {f g : ℕ → A} {old mid now : List A}
    → Writing j f old mid → Writing k g mid now → j ≤ k → Writing k g old now
then_written {j = j} {k} {f} {g} {old} v w h =
    record { is = w.is ∙ rw v.is (written_over j k f g old h); long = w.long ∙ v.long }
