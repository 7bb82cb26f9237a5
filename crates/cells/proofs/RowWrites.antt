-- Two lines in one slice, one after the other: how a `Writing` goes on in a part `&mut s[a..]` that was lent. Assumes
-- nothing.
use mathlib.Core.Path.{◌≡◌, refl, ap, ◌∙◌}
use mathlib.Core.List.{List, [], ◌∷◌, ◌++◌, append-nil}
use Prim.Native.Nat.{ℕ, zero, suc, ◌+◌, ◌-◌, ◌<◌, ◌≤◌}
use native.Mathlib.Nat.{not-suc-le-zero, le_of_suc-le-suc, zero-add, suc-add}
use native.Mathlib.Omega.{arith}
use lib.ListN.{length, take, drop, set, length-take, length-drop, take-append-drop, drop_of_length-le}
use lib.Seq.{take_all}
use Rattle.std.proofs.lemmas.List.{set-append_right}
use Rattle.cells.specs.Written.{written, Writing}
use Rattle.cells.proofs.Written.{length_written, set_suc}
use Rattle.cells.specs.inner.Rows.{beside}

module _ {A : Type 0} where
  pub beside_first : (a : ℕ) (g f : ℕ → A) (i : ℕ) → i < a → beside a g f i ≡ g i
  unfolding beside
  beside_first zero g f i h = absurd (not-suc-le-zero h)
  beside_first (suc a) g f zero h = refl
  beside_first (suc a) g f (suc i) h = beside_first a (λ j. g (suc j)) f i (le_of_suc-le-suc h)

  pub beside_second : (a : ℕ) (g f : ℕ → A) (i : ℕ) → beside a g f (a + i) ≡ f i
  unfolding beside
  beside_second zero g f i = rw zero-add
  beside_second (suc a) g f i = rw suc-add (beside_second a (λ j. g (suc j)) f i)

  rows : (a k : ℕ) (g f : ℕ → A) (old : List A) → a ≤ length old
      → take a (written a g old) ++ written k f (drop a old) ≡ written (a + k) (beside a g f) old
  unfolding beside
  rows zero k g f old h = rw zero-add
  rows (suc a) k g f [] h = absurd (not-suc-le-zero h)
  rows (suc a) k g f (x ∷ old) h = rw suc-add
      (ap (λ (t : List A). g 0 ∷ t) (rows a k (λ i. g (suc i)) f old (le_of_suc-le-suc h)))

  pub drop_written : (a : ℕ) (g : ℕ → A) (old : List A) → drop a (written a g old) ≡ drop a old
  drop_written zero g old = refl
  drop_written (suc a) g [] = refl
  drop_written (suc a) g (x ∷ old) = drop_written a (λ i. g (suc i)) old

  -- cells set one after another from cell a on
  abbrev pub sets : ℕ → ℕ → (ℕ → A) → List A → List A
  sets zero a f s = s
  sets (suc k) a f s = set (sets k a f s) (a + k) (f k)

  sets_part : (k : ℕ) (f : ℕ → A) (xs ys : List A) → k ≤ length ys → xs ++ written k f ys
      ≡ sets k (length xs) f (xs ++ ys)
  sets_part zero f xs ys h = refl
  sets_part (suc k) f xs ys h =
      let last : set (xs ++ written k f ys) (length xs + k) (f k)
      ≡ xs ++ set (written k f ys) (length xs + k - length xs) (f k) =
      set-append_right xs (written k f ys) (length xs) (length xs + k) (f k) refl (omega arith) in
      let at : length xs + k - length xs ≡ k = omega arith in
      rw (← sets_part k f xs ys (omega arith), last, at, set_suc k f ys h)

  -- the part from a on was lent, and came back with its first k cells written
  pub lent_sets : {k : ℕ} {f : ℕ → A} {part : List A} (a : ℕ) (s : List A)
      → Writing k f (take (length s - a) (drop a s)) part
      → a + k ≤ length s
      → take a s ++ (part ++ drop (length s - a) (drop a s)) ≡ sets k a f s
  lent_sets {k} {f} {part} a s w h =
      let all : length (drop a s) ≤ length s - a = rw length-drop (omega arith) in
      let part_is : part ≡ written k f (drop a s) = w.is ∙ ap (written k f) (take_all (length s - a) (drop a s) all) in
      let before : length (take a s) ≡ a = rw length-take (omega arith) in
      ap (λ (t : List A). take a s ++ (part ++ t)) (drop_of_length-le (drop a s) all)
      ∙ ap (λ (t : List A). take a s ++ t) (append-nil part ∙ part_is)
      ∙ sets_part k f (take a s) (drop a s) (rw length-drop (omega arith))
      ∙ ap (λ (n : ℕ). sets k n f (take a s ++ drop a s)) before
      ∙ ap (sets k a f) (take-append-drop a s)

  -- the part from a on was lent, and came back with k cells written
  pub lent_on : {a k : ℕ} {g f : ℕ → A} {old mid part : List A}
      → Writing a g old mid → Writing k f (take (length mid - a) (drop a mid)) part → a ≤ length mid
      → Writing (a + k) (beside a g f) old (take a mid ++ (part ++ drop (length mid - a) (drop a mid)))
  lent_on {a} {k} {g} {f} {old} {mid} {part} v w h =
      let all : length (drop a mid) ≤ length mid - a = rw length-drop (omega arith) in
      let rest : drop (length mid - a) (drop a mid) ≡ [] = drop_of_length-le (drop a mid) all in
      let part_is : part ≡ written k f (drop a old) = w.is
      ∙ rw (take_all (length mid - a) (drop a mid) all, v.is, drop_written a g old) in
      let whole : take a mid ++ (part ++ drop (length mid - a) (drop a mid)) ≡ written (a + k) (beside a g f) old =
      rw (rest, append-nil, part_is, v.is) (rows a k g f old (rw (← v.long) h)) in
      record { is = whole; long = ap length whole ∙ length_written (a + k) (beside a g f) old }
