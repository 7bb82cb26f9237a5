-- `has_tick_cells` meets its contract: the lengths first, then the first prices, and then all of them. Assumes nothing.
use mathlib.Core.Path.{◌≡◌, refl, ap, ◌∙◌}
use mathlib.Core.Bool.{Bool, ◌&&◌}
use mathlib.Core.List.{List, [], ◌∷◌}
use Prim.Native.Nat.{ℕ, zero, suc, ◌-◌}
use native.Mathlib.Nat.{le_of_eq}
use lib.ListN.{length, take, drop, length-drop}
use lib.Seq.{take_all}
use lib.Ieee.{Float}
use Rattle.values.specs.Accepted.{tick, all}
use Rattle.values.proofs.All.{and_assoc}
use Rattle.rules_double.specs.inner.Ticks.{tick_cells}
use Rattle.rules_double.proofs.has_tick_cells.Goals as goal
use Rattle.rules_double.proofs.has_tick_cells.Goals.{then-fits, else-fits}

-- all pass where the first k do and the others
in_two : (p : Float → Bool) (k : ℕ) (s : List Float) → all p s ≡ all p (take k s) && all p (drop k s)
in_two p zero s = refl
in_two p (suc k) [] = refl
in_two p (suc k) (x ∷ s) = rw (in_two p k s) (and_assoc (p x) (all p (take k s)) (all p (drop k s)))

pub returns-then-all_ticks : goal.returns-then-all_ticks
unfolding tick_cells
returns-then-all_ticks c =
    let k = c.min-some.result in
    let s = c.args.series.now in
    elim c.if-fits.branch [
      | then-fits w ↦
          rw (
            ← c.window_fits.ensures,
            w.if-fits.true,
            in_two tick k s,
            ← w.all_ticks.ensures,
            ← w.value-is,
            c.if-all_ticks.true,
          )
          (c.all_ticks-then-all_ticks.ensures ∙ ap (all tick)
          (take_all (length s - k) (drop k s) (le_of_eq (length-drop k s))))
      | else-fits w ↦ cc
    ]

pub returns-else-all_ticks : goal.returns-else-all_ticks
unfolding tick_cells
returns-else-all_ticks c =
    elim c.if-fits.branch [
      | then-fits w ↦
          rw (
            ← c.window_fits.ensures,
            w.if-fits.true,
            in_two tick c.min-some.result c.args.series.now,
            ← w.all_ticks.ensures,
            ← w.value-is,
            c.if-all_ticks.false,
          )
      | else-fits w ↦ rw (← c.window_fits.ensures, w.if-fits.false, c.if-all_ticks.false)
    ]
