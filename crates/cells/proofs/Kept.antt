-- What moving bytes to the front of a block means. Assumes nothing.
use mathlib.Core.Path.{◌≡◌, refl, ap, ◌∙◌}
use mathlib.Core.List.{List, [], ◌∷◌}
use Prim.Native.Nat.{ℕ, zero, suc, ◌+◌, ◌-◌, ◌≤◌}
use native.Mathlib.Nat.{zero-add, suc-add}
use native.Mathlib.Omega.{arith}
use lib.ListN.{length, take, drop, length-drop}
use lib.Seq.{take-nil, paste, take-paste}
use Rattle.cells.specs.inner.Kept.{Kept}

-- a part by its length, and by its end
pub take_drop : {A : Type 0} (a k : ℕ) (l : List A) → take k (drop a l) ≡ drop a (take (a + k) l)
take_drop zero k l = rw zero-add
take_drop (suc a) k [] = rw (suc-add, take-nil)
take_drop (suc a) k (x ∷ l) = rw suc-add (take_drop a k l)

-- the bytes are copied over the first ones
pub copied : (from to : ℕ) (old : List ℕ) → (from ≤ to) × (to ≤ length old)
    → Kept from to old (to - from) (paste old 0 (drop from old) (to - from))
copied from to old (h, l) =
    let kept = to - from in
    let now = paste old 0 (drop from old) kept in
    let room : kept ≤ length (drop from old) = rw length-drop (omega arith) in
    let whole : from + kept ≡ to = omega arith in
    let moved : take (0 + kept) now ≡ take kept (drop from old) =
    take-paste old 0 (drop from old) kept (omega arith) room in
    record {
      count = refl;
      bytes = ap (λ k. take k now) (let e : kept ≡ 0 + kept = omega arith in e) ∙ moved ∙ take_drop from kept old
          ∙ ap (λ e. drop from (take e old)) whole;
    }
