-- The triple rule: no look-ahead, and a cell from what the stages before it wrote. Assumes nothing.
use mathlib.Core.Path.{◌≡◌}
use Prim.Native.Nat.{ℕ, ◌+◌, ◌-◌, ◌≤◌}
use lib.Ieee.{Float}
use Rattle.cells.specs.Line.{Line, Causal}
use Rattle.cells.proofs.Line.{causal_then, causal_from, from_bar_lem}
use Rattle.windows.specs.Window.{mean}
use Rattle.windows.proofs.Window.{causal_mean}
use Rattle.rules_triple.specs.Triple.{trend_of, triple_line}
use Rattle.rules_held.specs.Held.{flat}

pub causal_triple : (m1 m2 m3 : ℕ) → Causal (triple_line m1 m2 m3)
unfolding triple_line
causal_triple m1 m2 m3 =
    causal_from (m1 + m3 - 2) flat
    (λ f g b s l. rw (
      causal_mean m1 f g b s,
      causal_then (causal_mean m1) (causal_mean m1) f g b s,
      causal_then (causal_mean m1) (causal_mean m2) f g b s,
      causal_then (causal_mean m1) (causal_mean m3) f g b s,
    ))

pub triple_at : (m1 m2 m3 : ℕ) (f : Line) (i : ℕ) {a b c d : Float} → a ≡ mean m1 f i → b ≡ mean m1 (mean m1 f) i
    → c ≡ mean m2 (mean m1 f) i → d ≡ mean m3 (mean m1 f) i → m1 + m3 - 2 ≤ i → trend_of a b c d
    ≡ triple_line m1 m2 m3 f i
unfolding triple_line
triple_at m1 m2 m3 f i p q r t h = rw (p, q, r, t, from_bar_lem (m1 + m3 - 2) flat _ i h)
