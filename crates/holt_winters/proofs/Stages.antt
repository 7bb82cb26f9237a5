-- The stages of `holt_winters`, as the loops find them, and what is known where its cells are due. Assumes nothing.
use mathlib.Core.Path.{◌≡◌, refl, sym, ap, ◌∙◌}
use mathlib.Core.List.{List, [], ◌∷◌}
use Prim.Native.Nat.{ℕ, ◌+◌, ◌-◌, ◌*◌, ◌<◌, ◌≤◌}
use native.Mathlib.Omega.{arith}
use borrow.Author.Tests.{ltb-false}
use lib.Dec.{ltb}
use lib.ListN.{length, set}
use lib.Ieee.{Float, binary64, sub}
use Rattle.values.specs.Accepted.{accepted}
use Rattle.calls.specs.Answer.{Answer, count_of, cleared_of, checked, limited, unless_empty, empty_if}
use Rattle.std.specs.Prelude.{Ok}
use Rattle.calls.proofs.Call.{AllBars}
use Rattle.calls.proofs.Room.{asked, and_then_cells, empty_if_cells, same_count}
use Rattle.checks.proofs.Passed.{one_passed, one_clearable}
use Rattle.cells.specs.Line.{Line}
use Rattle.cells.proofs.Written.{one_more, stands, then_written, writing_same}
use Rattle.windows.specs.Window.{mean}
use Rattle.cells.specs.inner.Scratch.{put_at}
use Rattle.cells.proofs.Scratch.{one_put, goes_on, then_put, scratch_same}
use Rattle.holt_winters.specs.declared.Fit.{Fit}
use Rattle.holt_winters.specs.declared.Weights.{Weights}
use Rattle.holt_winters.specs.HoltWinters.{first_fit, next_fit, total, fit_line, holt_winters_answer}
use Rattle.holt_winters.specs.inner.Stages.{SeasonRoom, First, Smoothed}
use Rattle.holt_winters.proofs.Bars.{fit_first, fit_next, cell_first, cell_later}

-- ---- the loops

-- a bar more of the first season
pub one_first : {average : Float} {f : Line} {l i : ℕ} {out₀ out₁ work₀ work₁ work₂ : List Float}
    → First average f l i out₀ out₁ work₀ work₁ → work₂ ≡ put_at l i (sub binary64 (f i) average) work₁
    → (i < l) × (i < length out₀) × (8 * l ≤ length work₁)
    → First average f l (i + 1) out₀ (set out₁ i (f i)) work₀ work₂
one_first p q (inside, room, rows) =
    record { cells = one_more p.cells refl room; seasons = one_put p.seasons refl q (inside, rows) }

-- what the first season left, for the stage after it
pub first_stands : {average : Float} {f : Line} {l k : ℕ} {out₀ out₁ work₀ work₁ : List Float}
    → First average f l k out₀ out₁ work₀ work₁ → First average f l k out₁ out₁ work₁ work₁
first_stands p = record { cells = stands p.cells; seasons = goes_on p.seasons }

module _ (m : ℕ) (w : Weights) (f : Line) where
  -- the bar, from what the loop read
  pub next_is : (i : ℕ) {last r : Fit} {old : Float} → last ≡ fit_line m w f (i - 1)
      → old ≡ (fit_line m w f (i - m)).season → r ≡ next_fit w last old (f i) → (m ≤ i) × (0 < m) → r ≡ fit_line m w f i
  next_is i p q e (h, some) = e ∙ rw (p, q) (sym (fit_next m w f i h some))

  -- the last bar of the first season
  pub first_is : {average : Float} → average ≡ mean m f (m - 1) → 0 < m
      → first_fit average (f (m - 1)) ≡ fit_line m w f (m - 1)
  first_is e h = rw e (sym (fit_first m w f (m - 1) (omega arith)))

  -- the first season
  pub first_smoothed : {average : Float} {l : ℕ} {out₀ out₁ work₀ work₁ : List Float} → average ≡ mean m f (m - 1)
      → First average f l m out₀ out₁ work₀ work₁ → Smoothed m w f l m out₀ out₁ work₀ work₁
  first_smoothed e p =
      record {
        cells = writing_same p.cells (cell_first m w f);
        seasons = scratch_same p.seasons (λ i h. rw e (ap (λ (fit : Fit). fit.season) (sym (fit_first m w f i h))));
      }

  -- a bar more
  pub one_smoothed : {l i : ℕ} {x : Float} {fit : Fit} {out₀ out₁ work₀ work₁ work₂ : List Float}
      → Smoothed m w f l i out₀ out₁ work₀ work₁ → fit ≡ fit_line m w f i → x ≡ total fit
      → work₂ ≡ put_at l i fit.season work₁ → (m ≤ i) × (i < l) × (i < length out₀) × (8 * l ≤ length work₁)
      → Smoothed m w f l (i + 1) out₀ (set out₁ i x) work₀ work₂
  one_smoothed {i = i} p e c q (h, inside, room, rows) =
      record {
        cells = one_more p.cells (c ∙ cell_later m w f i e h) room;
        seasons = one_put p.seasons (ap (λ (fit : Fit). fit.season) e) q (inside, rows);
      }

  -- both stages
  pub both_stages : {average : Float} {l k : ℕ} {out₀ out₁ out₂ work₀ work₁ work₂ : List Float}
      → First average f l m out₀ out₁ work₀ work₁ → Smoothed m w f l k out₁ out₂ work₁ work₂ → m ≤ k
      → Smoothed m w f l k out₀ out₂ work₀ work₂
  both_stages p q h =
      record {
        cells = then_written p.cells q.cells h;
        seasons = then_put p.seasons.rest q.seasons;
      }

-- ---- the call

module _ (s : List Float) (m : ℕ) (w : Weights) (out work : ℕ) where
  abbrev numbers : List Float
  numbers = w.alpha ∷ w.beta ∷ w.gamma ∷ []

  abbrev whole : Answer
  whole = empty_if (ltb (length s) m) (Ok (length s))

  abbrev rest : Answer
  rest = limited numbers (m ∷ []) [] (unless_empty (length s) (m ∷ []) [] whole)

  pub holt_winters_clearable : {r : Answer} → r ≡ holt_winters_answer s m w out work
      → cleared_of r (8 * length s) ≤ work
  unfolding holt_winters_answer
  holt_winters_clearable e = one_clearable s out work rest e

  -- it has a cell for each bar
  pub holt_winters_bars : AllBars (holt_winters_answer s m w out work) (length s)
  unfolding holt_winters_answer
  holt_winters_bars k e h =
      let next = (and_then_cells (checked accepted (s ∷ []) (out ∷ []) (work ∷ [])) rest k e).1 in
      let a = asked (length s) numbers (m ∷ []) [] whole k next h in
      sym (same_count _ _ (empty_if_cells (ltb (length s) m) _ k a.rest h).1)

  -- and where they are due, all is in order
  pub holt_winters_ready : {r : Answer} → r ≡ holt_winters_answer s m w out work → 0 < count_of r
      → SeasonRoom m s out work
  unfolding holt_winters_answer
  holt_winters_ready {r} e h =
      let p = one_passed s out work rest e h in
      let a = asked (length s) numbers (m ∷ []) [] whole (count_of r) p.1 h in
      record {
        window = a.each.0;
        whole = ltb-false (length s) m (empty_if_cells (ltb (length s) m) _ (count_of r) a.rest h).0;
        out_long = p.0.out_long;
        work_long = p.0.work_long.0;
      }
