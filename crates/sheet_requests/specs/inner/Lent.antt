-- The program's buffers for one request. Assumes nothing.
use Rattle.std.specs.Prelude.{◌≡◌, List, length, Float}
use Rattle.sheet_lines.specs.Header.{most_bars}
use Rattle.sheet_requests.specs.Answer.{clear_work}

-- what the program lends for one request: cells for its prices and positions, and a clear work slice
pub record Lent (series out work : List Float) : Type 0 where
  pub series_long : length series ≡ most_bars
  pub out_long : length out ≡ most_bars
  pub work_clear : work ≡ clear_work
