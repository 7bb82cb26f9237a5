-- The desks, the counts of their refused requests and of lines, and what is printed last. Assumes nothing.
use Rattle.std.specs.Prelude.{Bool, cond, ◌&&◌, List, [], ◌++◌, ℕ, zero, suc, ◌+◌, ◌-◌, ◌*◌, leb, ltb, get_or, set, replicate, Ok, Err}
use Rattle.calls.specs.Answer.{Answer}
use Rattle.sheet_lines.specs.declared.Request.{Request}
use Rattle.sheet_lines.specs.Printed.{count_bytes, count_line}
use Rattle.sheet_requests.specs.declared.Counts.{Counts}

-- how many desks there are; src/lib.rt has a constant of the same number
abbrev pub desks : ℕ
desks = 16

-- desks 1 to 16
abbrev pub is_desk : ℕ → Bool
is_desk desk = leb 1 desk && leb desk desks

-- the largest count: it stays within 12 columns; src/lib.rt has a constant of the same number
abbrev pub most_count : ℕ
most_count = 999999999999

-- one more
abbrev pub one_more : ℕ → ℕ
one_more n = cond (ltb n most_count) (n + 1) n

-- k more
abbrev pub many_more : ℕ → ℕ → ℕ
many_more zero n = n
many_more (suc k) n = one_more (many_more k n)

-- before the first line
abbrev pub none_yet : Counts
none_yet = record { refused = replicate desks 0; lines = 0 }

-- the count of a desk: that of desk 1 stands first
abbrev pub refused_of : Counts → ℕ → ℕ
refused_of c desk = get_or c.refused (desk - 1) 0

-- one more for a desk
abbrev pub one_more_of : Counts → ℕ → Counts
one_more_of c desk = record { refused = set c.refused (desk - 1) (one_more (refused_of c desk)); lines = c.lines }

-- after the answer of its rule to a request of one of the desks
abbrev pub after : Counts → Request → Answer → Counts
after c r (Ok k) = c
after c r (Err q) = one_more_of c r.desk

-- after k lines that were read
abbrev pub after_lines : ℕ → Counts → Counts
after_lines k c = record { refused = c.refused; lines = many_more k c.lines }

-- the lines of desks 1 to k
unfoldable pub count_lines : ℕ → (ℕ → ℕ) → List ℕ
count_lines zero count = []
count_lines (suc k) count = count_lines k count ++ count_line (suc k) (count (suc k))

-- all that is printed last, and how many bytes it has
abbrev pub closing : Counts → List ℕ
closing c = count_lines desks (refused_of c)

abbrev pub closing_bytes : ℕ
closing_bytes = count_bytes * desks
