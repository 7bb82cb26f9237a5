-- Why a line is refused with 10: the first reason that applies. Assumes nothing.
use Rattle.std.specs.Prelude.{
  Bool,
  true,
  not,
  cond,
  ◌&&◌,
  List,
  [],
  ◌∷◌,
  ℕ,
  ◌+◌,
  leb,
  eqb,
  length,
  get_or,
  take,
  Result,
  Err,
}
use Rattle.sheet_lines.specs.declared.reasons.Reason.{Reason}
use Rattle.sheet_lines.specs.declared.reasons.Reason.TheVariants.{
  LineLength,
  DeskField,
  RuleField,
  NField,
  MField,
  BarsField,
  OtherRule,
  TooManyBars,
  PriceField,
  InputEnds,
}

-- no line feed
abbrev pub no_feed : List ℕ → Bool
no_feed [] = true
no_feed (b ∷ rest) = not (eqb b 10) && no_feed rest

-- so many columns, and then a line feed
abbrev pub columned : ℕ → List ℕ → Bool
columned columns line = eqb (length line) (columns + 1) && eqb (get_or line columns 0) 10

-- so many columns, none of them a line feed, and then a line feed
abbrev pub clean : ℕ → List ℕ → Bool
clean columns line = columned columns line && no_feed (take columns line)

-- the input ends in this line: its line feed is not there, and could still have come in its place
abbrev pub cut_short : ℕ → List ℕ → Bool
cut_short columns line = leb (length line) columns && no_feed line

-- A line of so many columns: where its length is right, what its columns say, which may be another reason.
abbrev pub of_columns : {A : Type 0} → ℕ → List ℕ → Result A Reason → Result A Reason
of_columns columns line said =
    cond (clean columns line) said (Err (cond (cut_short columns line) InputEnds LineLength))

-- the number of a reason, as the program's main is told it
abbrev pub reason_number : Reason → ℕ
reason_number LineLength = 1
reason_number DeskField = 2
reason_number RuleField = 3
reason_number NField = 4
reason_number MField = 5
reason_number BarsField = 6
reason_number OtherRule = 7
reason_number TooManyBars = 8
reason_number PriceField = 9
reason_number InputEnds = 10
