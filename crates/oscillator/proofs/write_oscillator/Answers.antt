-- `write_oscillator` meets its contract: a row of pressures, one of true ranges, and the cells from both. Assumes
-- nothing.
use mathlib.Core.Path.{◌≡◌, refl}
use native.Mathlib.Omega.{arith}
use borrow.Author.Rules.{rules}
use Rattle.cells.proofs.RowWrites.{lent_on}
use Rattle.cells.proofs.Touched.{touched, touched_more}
use Rattle.cells.proofs.Written.{ends}
use Rattle.std.specs.Prelude.{Float, Option, None, Some}
use Rattle.oscillator.proofs.Zeros.{FitClose}
use Rattle.oscillator.proofs.Calls.{oscillator_cells}
use Rattle.oscillator.proofs.write_oscillator.Goals as goal
use Rattle.oscillator.proofs.write_oscillator.Goals.{Start}

-- the close before bar 0 is an f64
fit_first : (c : Start) → FitClose c.args.first
fit_first c = go c.args.first refl
  where
    go : (first : Option Float) → c.args.first ≡ first → FitClose first
    go None e = tt
    go (Some close) e = let good = rw e at c.well_formed.1.1.1.1.1.1.0 in search rules

pub write_ranges-requires : goal.write_ranges-requires
write_ranges-requires c =
    let pre = c.requires in (
      record { values = pre.values; second = pre.lows; third = pre.closes; out_long = search rules; work_long = tt },
      omega arith,
      search rules,
    )

pub returns : goal.returns
returns c =
    let pre = c.requires in
    let rows = lent_on (ends c.write_pressures.ensures pre.closes) c.write_ranges.ensures
    (omega arith) in (
      oscillator_cells _ _ _ _ pre c.shared_slice_known-1.given c.shared_slice_known-2-1.given
          c.shared_slice_known-3-1.given (fit_first (goal.at.returns c).Start) rows (omega arith)
          c.write_from_rows.ensures,
      touched_more (touched rows) (omega arith),
    )
