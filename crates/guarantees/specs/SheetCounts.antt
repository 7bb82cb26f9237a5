-- The sheet of an input: the answers to its requests, and how many of each desk's were refused. Assumes nothing.
use Rattle.std.specs.Prelude.{◌≡◌, List, ◌++◌, ℕ, ◌≤◌, min, length}
use Rattle.std.proofs.Common.{ap}
use Rattle.sheet_requests.specs.Counts.{desks, most_count, count_lines}
use Rattle.sheet_requests.specs.Sheet.{Complete, sheet, broken_at}
use Rattle.sheet_requests.specs.ByDesk.{
  requests_of,
  answers_of,
  broken_text,
  only,
  of_desk,
  of_desks,
  refusals,
  desk_count,
  sum_of_counts,
}
use Rattle.sheet_requests.proofs.Requests.{sheet_is}
use Rattle.sheet_requests.proofs.Sums.{counts_sum}

-- The answers to the requests of the input, in order; refusal 10, where a line breaks its columns; and a line for each
-- of desks 1 to 16 with the number of its requests that their rules refuse. Neither 10 nor 15 is in a count.
pub sheet_of_requests : (input : List ℕ) → sheet input
    ≡ answers_of (requests_of input) ++ (broken_text (broken_at input) ++ count_lines desks (desk_count input))
sheet_of_requests = sheet_is

-- The sixteen counts add up to the number of requests that were refused, those with 15 left out, unless there
-- are more requests than 12 columns hold.
pub counts_add_up : (input : List ℕ) → length (requests_of input) ≤ most_count
    → sum_of_counts desks (desk_count input) ≡ refusals (only of_desks (requests_of input))
counts_add_up = counts_sum

-- A desk's count depends only on its own requests, up to where reading stopped.
pub own_requests_decide : (a b : List ℕ) (desk : ℕ)
    → only (of_desk desk) (requests_of a) ≡ only (of_desk desk) (requests_of b) → desk_count a desk ≡ desk_count b desk
own_requests_decide a b desk e = ap (λ (own : List Complete). min most_count (refusals own)) e
