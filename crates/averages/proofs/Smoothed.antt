-- A cell of a smoothed line, and the lead of the line with the seed after it. Assumes nothing.
use mathlib.Core.Path.{◌≡◌}
use mathlib.Core.List.{List}
use Prim.Native.Nat.{ℕ, ◌+◌, ◌-◌, ◌<◌, ◌≤◌}
use native.Mathlib.Omega.{arith}
use lib.ListN.{length, set}
use lib.Ieee.{Float, nan}
use Rattle.cells.specs.Line.{Line, line}
use Rattle.cells.specs.inner.Leads.{Led}
use Rattle.cells.proofs.Leads.{lead_stands}
use Rattle.cells.specs.Recur.{carried}
use Rattle.cells.specs.Written.{Writing}
use Rattle.cells.proofs.Written.{step, then_written}
use Rattle.averages.specs.Blend.{smooth_line}
use Rattle.averages.specs.inner.Blending.{Blending}
use Rattle.averages.proofs.Blending.{seeded}

module _ {alpha : Float} {a : ℕ} {seed : Float} {f : Line} where
  -- the cell of bar i
  pub blended_cell : (i : ℕ) {x : Float} → Blending alpha a seed f (i + 1) x → x ≡ smooth_line alpha a seed f i
  blended_cell i r =
      let now : i + 1 - 1 ≡ i = omega arith in
      rw (r.is, now)

-- the lead of a smoothed line, and the seed after it
pub seed_written : (s : List Float) (alpha : Float) (first : ℕ) (seed : Float) {r : ℕ} {old now : List Float}
    → Led first (length s) nan r old now
    → (first < length s) × (length s ≤ length now)
    → Writing (first + 1) (smooth_line alpha first seed (line s)) old (set now first seed)
unfolding carried
seed_written s alpha first seed w (p, h) =
    step first (first + 1) (then_written w.lead (lead_stands _ w) (omega arith))
    (blended_cell {f = line s} first seeded) (omega (arith, w.lead.long))
