-- The cells of whole ticks from running sums, and what a slide of them asks. Assumes nothing.
use mathlib.Core.Path.{◌≡◌, ◌∙◌}
use mathlib.Core.List.{List}
use Prim.Native.Nat.{ℕ, ◌+◌, ◌-◌, ◌<◌, ◌≤◌, max}
use native.Mathlib.Omega.{arith}
use lib.ListN.{length, set}
use lib.Ieee.{Float}
use Rattle.cells.specs.Line.{Line, line, minus_zero}
use Rattle.cells.specs.Written.{Writing}
use Rattle.cells.proofs.Written.{one_more}
use Rattle.windows.specs.Window.{window_sum}
use Rattle.oscillator.specs.declared.bar.Sums.{Sums}
use Rattle.oscillator.specs.Oscillator.{ratio, weighed, share, weighed_shares}
use Rattle.oscillator.specs.declared.periods.Periods.{Periods}
use Rattle.oscillator.specs.inner.Begun.{longest, afresh}
use Rattle.oscillator.specs.inner.Sliding.{SumsOf}
use Rattle.oscillator.proofs.Cells.{cell_is}

-- the share of the sums
pub share_of : {n : ℕ} {f g : Line} {i : ℕ} {r : Sums} → SumsOf n f g i r
    → ratio r.over r.under ≡ share minus_zero n f g i
unfolding share window_sum
share_of p = rw (p.over, p.under)

-- the windows' cell, from their sums
pub cell_of_sums : {n m k i : ℕ} {f g : Line} {a b c : Sums} {x : Float} → SumsOf n f g i a → SumsOf m f g i b
    → SumsOf k f g i c
    → x ≡ weighed (ratio a.over a.under) (ratio b.over b.under) (ratio c.over c.under)
    → max n (max m k) ≤ i + 1 → x ≡ weighed_shares minus_zero n m k f g i
cell_of_sums {n} {m} {k} {i} {f} {g} p q r e h =
    e ∙ cell_is minus_zero n m k i f g (share_of p) (share_of q) (share_of r) h

-- the bar, written in another way
pub same_bar : {n i j : ℕ} {f g : Line} {r : Sums} → SumsOf n f g i r → i ≡ j → SumsOf n f g j r
same_bar p e = rw (← e) p

-- one more cell, and the windows' sums for the next bar
pub more_cells : {w : Periods} {i : ℕ} (f g : List Float) {a b c : Sums} {x : Float} {old now : List Float}
    → Writing i (afresh w f g) old now
    → (let s = SumsOf w.short (line f) (line g) i a in
    let t = SumsOf w.medium (line f) (line g) i b in
    let u = SumsOf w.long (line f) (line g) i c in s × t × u)
    → x ≡ weighed (ratio a.over a.under) (ratio b.over b.under) (ratio c.over c.under)
    → (longest w ≤ i + 1) × (i < length old)
    → Writing (i + 1) (afresh w f g) old (set now i x) × SumsOf w.short (line f) (line g) (i + 1 - 1) a
    × SumsOf w.medium (line f) (line g) (i + 1 - 1) b
    × SumsOf w.long (line f) (line g) (i + 1 - 1) c
more_cells {i = i} f g v (p, q, r) e (h, l) =
    let bar : i ≡ i + 1 - 1 = omega arith in
    (one_more v (cell_of_sums p q r e h) l, same_bar p bar, same_bar q bar, same_bar r bar)
