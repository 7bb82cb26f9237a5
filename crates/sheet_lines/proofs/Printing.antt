-- What the loop that prints a field from its last column goes by, and how texts follow each other. Assumes nothing.
use mathlib.Core.Path.{◌≡◌, refl, sym, ◌∙◌}
use mathlib.Core.List.{List, [], ◌∷◌, ◌++◌, append_assoc, append-nil}
use Prim.Native.Nat.{ℕ, zero, suc, ◌+◌, ◌-◌, ◌/◌, ◌%◌, ◌<◌, ◌≤◌}
use native.Mathlib.Numerals.{add-one}
use native.Mathlib.Omega.{arith}
use lib.ListN.{length, take, set, length-append, length-set, take-append-drop}
use lib.Seq.{
  slice,
  slice_empty,
  slice-cons,
  take-take,
  take-suc-set,
  take-set-le,
  take-set-lt,
  drop-set-lt,
  get_or-set_same,
}
use Rattle.sheet_lines.specs.Print.{column, leading, print_field}
use Rattle.sheet_lines.specs.inner.Adds.{Adds}

length_snoc : (xs : List ℕ) (b : ℕ) → length (xs ++ (b ∷ [])) ≡ length xs + 1
length_snoc xs b = length-append xs (b ∷ [])

length_leading : (w n : ℕ) → length (leading w n) ≡ w
length_leading zero n = refl
length_leading (suc w) n = length_snoc (leading w (n / 10)) _ ∙ rw (length_leading w (n / 10), add-one)

-- a store in column j, and the columns from there on
slice_set : (j to b : ℕ) (text : List ℕ) → j < to → to ≤ length text
    → slice j to (set text j b) ≡ b ∷ slice (j + 1) to text
slice_set j to b text h k =
    slice-cons j to (set text j b) 0 h (rw length-set k)
    ∙ rw (
      get_or-set_same text j b 0 (omega arith),
      take-set-lt to text j b h,
      drop-set-lt (suc j) (take to text) j b (omega arith),
      add-one,
    )

-- The columns from i to `to` are printed, and what is left of n is to be printed before them.
pub record Filled (from to n : ℕ) (old : List ℕ) (i rest : ℕ) (now : List ℕ) : Type 0 where
  pub long : length now ≡ length old
  pub before : take i now ≡ take i old
  pub after : leading (to - from) n ≡ leading (i - from) rest ++ slice i to now

module _ {from to n : ℕ} {old : List ℕ} where
  pub none_filled : Filled from to n old to n old
  none_filled = record { long = refl; before = refl; after = rw (slice_empty, append-nil) }

  pub one_filled : {i rest : ℕ} {now : List ℕ} (b j : ℕ) → Filled from to n old i rest now → b ≡ column rest
      → (i ≡ j + 1) × (from ≤ j) × (i ≤ to) × (to ≤ length old) → Filled from to n old j (rest / 10) (set now j b)
  one_filled {i} {rest} {now} b j w e (p, q, r, s) =
      let wide : i - from ≡ suc (j - from) = omega arith in
      let room : to ≤ length now = omega (arith, w.long) in
      record {
        long = length-set now j b ∙ w.long;
        before = take-set-le j now j b (omega arith) ∙ sym (take-take j i now (omega arith))
            ∙ rw (w.before, take-take j i old (omega arith));
        after = w.after ∙ rw (wide, slice_set j to b now (omega arith) room, append_assoc, e, p);
      }

  pub all_filled : {i rest : ℕ} {now : List ℕ} → Filled from to n old i rest now
      → (i ≡ from) × (from ≤ to) × (to ≤ length old)
      → Adds from (leading (to - from) n) to old now
  all_filled {i} {rest} {now} w (p, q, r) =
      let none : i - from ≡ 0 = omega arith in
      let is : leading (to - from) n ≡ slice from to now = w.after ∙ rw (none, p) in
      record {
        end = rw length_leading (omega arith);
        text = sym (take-append-drop from (take to now)) ∙ rw (is, take-take from to now q, ← p, w.before);
        long = w.long;
      }

-- a byte more, and the text ends at q
pub add_byte : {at : ℕ} {more : List ℕ} {r : ℕ} {old now : List ℕ} (b i q : ℕ) → Adds at more r old now
    → (i ≡ r) × (r < length old) × (q ≡ r + 1) → Adds at (more ++ (b ∷ [])) q old (set now i b)
add_byte {at} {more} {r} {old} {now} b i q w (p, h, e) =
    record {
      end = rw length_snoc (omega (arith, w.end));
      text = rw (e, p, add-one, take-suc-set now r b (omega (arith, w.long)), w.text, append_assoc);
      long = length-set now i b ∙ w.long;
    }

-- one text after another
pub add_more : {at : ℕ} {more next : List ℕ} {r r' q : ℕ} {old mid now : List ℕ} → Adds at more r old mid
    → Adds r' next q mid now → r' ≡ r
    → Adds at (more ++ next) q old now
add_more {at} {more} {next} {r} {r'} {q} {old} {mid} {now} v w e =
    record {
      end = rw length-append (omega (arith, v.end, w.end));
      text = w.text ∙ rw (e, v.text, append_assoc);
      long = w.long ∙ v.long;
    }

-- a field is what leads, and its last digit
pub field_is : (w n k : ℕ) → w ≡ k + 1 → print_field w n ≡ leading k (n / 10) ++ ((48 + n % 10) ∷ [])
unfolding print_field
field_is w n k e = rw (e, add-one)

-- nothing is printed yet
pub add_none : {at : ℕ} {old : List ℕ} → Adds at [] at old old
add_none = record { end = omega arith; text = sym (append-nil _); long = refl }
