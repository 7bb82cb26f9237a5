-- Small cases, by computation: a request's first line, and why a line is refused. Assumes nothing.
use Rattle.std.specs.Prelude.{◌≡◌, refl, true, [], ◌∷◌, map, replicate, Ok, Err, is_err}
use Rattle.sheet_lines.specs.inner.Text.{bytes}
use Rattle.sheet_lines.specs.Read.{number, read_field, signed, read_price}
use Rattle.sheet_lines.specs.Header.{request_of, read_header, read_price_line}
use Rattle.sheet_lines.specs.declared.reasons.Reason.TheVariants.{
  LineLength,
  DeskField,
  RuleField,
  NField,
  MField,
  BarsField,
  OtherRule,
  TooManyBars,
  PriceField,
  InputEnds,
}

header :
    read_header (bytes "   7   2     1     2     4\n")
    ≡ Ok (record { desk = 7; rule = 2; n = 1; m = 2; bars = 4 })
unfolding read_header request_of read_field number
header = refl

-- a blank field, a rule that is none, 513 bars, a column more, a column fewer, no line feed, a carriage return, a sign
malformed :
    map (λ line. is_err (read_header (bytes line)))
    (
    "       2     1     2     4\n"
    ∷ "   7   4     1     2     4\n"
    ∷ "   7   0     1     2     4\n"
    ∷ "   7   2     1     2   513\n"
    ∷ "    7   2     1     2     4\n"
    ∷ "  7   2     1     2     4\n"
    ∷ "   7   2     1     2     4"
    ∷ "   7   2     1     2     4\r\n"
    ∷ "   7   2    -1     2     4\n"
    ∷ []
    )
    ≡ replicate 9 true
unfolding read_header request_of read_field number
malformed = refl

-- the first reason that applies: a field before another rule, another rule before too many bars
header_reasons :
    map (λ line. read_header (bytes line))
    (
    "    7   2     1     2     4\n"
    ∷ "  7   2     1     2     4\n"
    ∷ "   7   2     1     2     4\r\n"
    ∷ "\n"
    ∷ "   7   2     1     2     45"
    ∷ "   x   4     1     2   513\n"
    ∷ "   7         1     2     4\n"
    ∷ "   7   4    -1     2     4\n"
    ∷ "   7   2     1   2 2     4\n"
    ∷ "   7   2     1     2      \n"
    ∷ "   7   0     1     2   513\n"
    ∷ "   7   4     1     2     4\n"
    ∷ "   7   2     1     2   513\n"
    ∷ "   7   2     1     2     4"
    ∷ "   7"
    ∷ []
    )
    ≡ map (λ reason. Err reason) (LineLength ∷ LineLength ∷ LineLength ∷ LineLength ∷ LineLength ∷ DeskField ∷ RuleField
    ∷ NField ∷ MField ∷ BarsField ∷ OtherRule ∷ OtherRule ∷ TooManyBars ∷ InputEnds ∷ InputEnds ∷ [])
unfolding read_header request_of read_field number
header_reasons = refl

price_reasons :
    map (λ line. read_price_line (bytes line)) ("           x\n" ∷ "          1\n" ∷ "          12" ∷ "           123"
    ∷ [])
    ≡ map (λ reason. Err reason) (PriceField ∷ LineLength ∷ InputEnds ∷ LineLength ∷ [])
unfolding read_price_line read_price signed number
price_reasons = refl
