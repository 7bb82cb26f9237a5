-- The stages of `jurik_volty`, one after the other in one slice. Assumes nothing.
use mathlib.Core.Path.{◌≡◌, refl, ◌∙◌}
use mathlib.Core.Bool.{Bool, true, false}
use mathlib.Core.List.{List}
use Prim.Native.Nat.{ℕ, zero, suc, ◌-◌, ◌<◌, ◌≤◌}
use native.Mathlib.Nat.{le_refl}
use native.Mathlib.Omega.{arith}
use borrow.Author.Tests.{ltb-true, ltb-false}
use lib.Dec.{ltb}
use lib.ListN.{length}
use lib.Ieee.{Float, nan}
use Rattle.cells.specs.Line.{Line, line, plus_zero, Causal}
use Rattle.cells.specs.Written.{Writing}
use Rattle.cells.proofs.Line.{before_bar, from_bar_lem}
use Rattle.cells.proofs.Written.{read_back, writing_same, then_written}
use Rattle.rounding.specs.Leaves.{magnitude_of}
use Rattle.changes.specs.Changes.{earlier, change}
use Rattle.jurik.specs.Jurik.{price_change, jv}
use Rattle.jurik.specs.inner.Passes.{tested, jv_at}
use Rattle.jurik.proofs.Causal.{causal_averaged, causal_copied}
use Rattle.jurik.proofs.TwoPasses.{differing_same}

-- ---- cells

-- the price change of bar i
pub price_change_is : (f : Line) (i : ℕ) {c x : Float} → c ≡ change plus_zero f i → x ≡ magnitude_of c → 0 < i
    → x ≡ price_change f i
unfolding price_change
price_change_is f i p q h = rw (q, p, from_bar_lem 1 nan (λ j. magnitude_of (change plus_zero f j)) i h)

earlier_is : (d : Float) (f : Line) (i : ℕ) → 0 < i → earlier d f i ≡ f (i - 1)
unfolding earlier
earlier_is d f zero h = absurd (omega arith)
earlier_is d f (suc i) h = let last : suc i - 1 ≡ i = omega arith in rw last

-- the cell of `jv` at bar i
pub jv_is : (power : Float) (f : Line) (i : ℕ) {last x y : Float} → y ≡ jv_at i power last x
    → last ≡ earlier plus_zero f i → x ≡ f i
    → y ≡ jv power f i
unfolding jv
jv_is power f i {last} {x} e p q = e ∙ go (ltb i 2) refl
  where
    go : (t : Bool) → ltb i 2 ≡ t → jv_at i power last x ≡ jv power f i
    go true z = rw (z, before_bar 2 plus_zero _ i (ltb-true i 2 z))
    go false z =
        let h = ltb-false i 2 z in
        rw (z, from_bar_lem 2 plus_zero _ i h, p, q, earlier_is plus_zero f i (omega arith))

-- ---- one stage after the other

-- a stage that needs nothing but the first l bars
abbrev Local : ℕ → (Line → Line) → Type 0
Local l F = (f g : Line) → ((j : ℕ) → j < l → f j ≡ g j) → (i : ℕ) → i < l → F f i ≡ F g i

pub local_causal : {F : Line → Line} (l : ℕ) → Causal F → Local l F
local_causal l causal f g h i m = causal f g i (λ j k. h j (omega arith))

pub local_tested : (valid : Float → Bool) (none alpha : Float) (l : ℕ) → Local l (tested valid none alpha l)
local_tested valid none alpha l f g h i m =
    rw (
      differing_same valid l f g h,
      local_causal l (causal_copied valid none) f g h i m,
      local_causal l (causal_averaged valid none alpha) f g h i m,
    )

-- the line g stands in a slice, and a stage is written over it
pub next_stage : {l : ℕ} {g : Line} {old mid now : List Float} (F : Line → Line) → Local l F → Writing l g old mid
    → Writing l (F (line mid)) mid now
    → l ≤ length old
    → Writing l (F g) old now
next_stage {l} {g} {mid = mid} F locally w v h =
    then_written w
    (writing_same v (λ i m. locally (line mid) g (λ j k. read_back j nan w (omega arith)) i m))
    (le_refl l)
