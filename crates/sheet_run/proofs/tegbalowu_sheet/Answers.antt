-- `tegbalowu_sheet` meets its contract: the buffers are as long as
-- `run` asks, and the work slice is clear. Assumes nothing.
use mathlib.Core.Path.{◌≡◌, refl, ap}
use borrow.Author.Rules.{rules}
use lib.ListN.{replicate}
use lib.Ieee.{Float, binary64, of_bits}
use Rattle.cells.specs.Line.{plus_zero}
use Rattle.sheet_requests.specs.Answer.{work_cells, clear_work}
use Rattle.sheet_run.proofs.tegbalowu_sheet.Goals as goal

zero : of_bits binary64 0 ≡ plus_zero
unfolding of_bits
zero = refl

clear : replicate work_cells (of_bits binary64 0) ≡ clear_work
unfolding clear_work
clear = ap (λ (x : Float). replicate work_cells x) zero

pub run-requires : goal.run-requires
run-requires c =
    record {
      block_long = search rules;
      lent = record { series_long = search rules; out_long = search rules; work_clear = clear };
      text_long = search rules;
    }
