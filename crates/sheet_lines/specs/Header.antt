-- What a line of a request says: document 01's columns. Assumes nothing.
use Rattle.std.specs.Prelude.{cond, List, ℕ, leb, Option, Some, None, Result, Ok, Err, ok_or, Float}
use Rattle.std.proofs.Math.Seq.{slice}
use Rattle.sheet_lines.specs.Read.{read_field, read_price}
use Rattle.sheet_lines.specs.declared.Fields.{Fields}
use Rattle.sheet_lines.specs.declared.Request.{Request}
use Rattle.sheet_lines.specs.declared.reasons.Reason.{Reason}
use Rattle.sheet_lines.specs.declared.reasons.Reason.TheVariants.{
  DeskField,
  RuleField,
  NField,
  MField,
  BarsField,
  OtherRule,
  TooManyBars,
  PriceField,
}
use Rattle.sheet_lines.specs.Reason.{of_columns}
use Rattle.sheet_lines.specs.Rule.{rule_of}

-- the most bars of one request; src/lib.rt has a constant of the same number
abbrev pub most_bars : ℕ
most_bars = 512

-- the bytes of a request's first line and of a price's line, each with
-- its line feed; src/lib.rt has constants of the same numbers
abbrev pub header_bytes : ℕ
header_bytes = 27

abbrev pub price_bytes : ℕ
price_bytes = 13

-- what follows from what is there, such as a field's number; where it is not there, that is a reason
abbrev pub given : {A : Type 0} → Option A → Reason → (A → Result Request Reason) → Result Request Reason
given (Some v) reason next = next v
given None reason next = Err reason

-- no more bars than the program keeps
abbrev pub accepted : Request → Result Request Reason
accepted r = cond (leb r.bars most_bars) (Ok r) (Err TooManyBars)

-- the request that its five numbers make: the fields from the left, and then what their numbers say; the rule stays
-- a number
unfoldable pub request_of : Fields → Result Request Reason
request_of f =
    given f.desk DeskField (λ d. given f.rule RuleField (λ r. given f.n NField (λ a. given f.m MField (λ b.
    given f.bars BarsField (λ l. given (rule_of r) OtherRule (λ _.
    accepted (record { desk = d; rule = r; n = a; m = b; bars = l })))))))

-- A request's first line: desk in 4 columns, rule in 4, n in 6, m in 6, bars in 6.
abbrev pub read_fields : List ℕ → Fields
read_fields line =
    record {
      desk = read_field (slice 0 4 line);
      rule = read_field (slice 4 8 line);
      n = read_field (slice 8 14 line);
      m = read_field (slice 14 20 line);
      bars = read_field (slice 20 26 line);
    }

-- the request, or why its line is refused
unfoldable pub read_header : List ℕ → Result Request Reason
read_header line = of_columns 26 line (request_of (read_fields line))

-- A price's line: 12 columns.
unfoldable pub read_price_line : List ℕ → Result Float Reason
read_price_line line = of_columns 12 line (ok_or (read_price (slice 0 12 line)) PriceField)
