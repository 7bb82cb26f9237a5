-- What an answer prints, and the line of a desk's count. Assumes nothing.
use Rattle.std.specs.Prelude.{List, [], ◌∷◌, ◌++◌, ℕ, zero, suc, Float}
use Rattle.calls.specs.declared.Refusal.TheVariants.{BrokenLine}
use Rattle.calls.specs.Answer.{Answer, number, refusal_of, count_of}
use Rattle.cells.specs.Line.{Line}
use Rattle.rules.specs.Position.{by_side}
use Rattle.sheet_lines.specs.Print.{print_field}
use Rattle.sheet_lines.specs.declared.Request.{Request}

-- the bytes of an answer's first line, of a position's line and of a desk's
-- count, each with its line feed; src/text.rt has constants of the same numbers
abbrev pub head_bytes : ℕ
head_bytes = 19

abbrev pub position_bytes : ℕ
position_bytes = 5

abbrev pub count_bytes : ℕ
count_bytes = 17

-- The program's own refusals: of a line that breaks its columns, and of a desk below 1
-- or above 16. src/text.rt has constants of the same numbers.
abbrev pub broken_line : ℕ
broken_line = number BrokenLine

abbrev pub no_such_desk : ℕ
no_such_desk = 15

-- desk in 4 columns, rule in 4, refusal in 4, count in 6
unfoldable pub head_line : ℕ → ℕ → ℕ → ℕ → List ℕ
head_line desk rule refusal count =
    print_field 4 desk ++ (print_field 4 rule ++ (print_field 4 refusal ++ (print_field 6 count ++ (10 ∷ []))))

-- a position in 4 columns: '   1' above 0, '  -1' below 0, else '   0'
abbrev pub position_line : Float → List ℕ
position_line x =
    by_side x (32 ∷ 32 ∷ 32 ∷ 49 ∷ 10 ∷ []) (32 ∷ 32 ∷ 45 ∷ 49 ∷ 10 ∷ []) (32 ∷ 32 ∷ 32 ∷ 48 ∷ 10 ∷ [])

-- the positions at bars 0 to k - 1
unfoldable pub position_lines : ℕ → Line → List ℕ
position_lines zero f = []
position_lines (suc k) f = position_lines k f ++ position_line (f k)

-- all that a request prints
unfoldable pub answer_text : Request → Answer → Line → List ℕ
answer_text r answer f =
    head_line r.desk r.rule (refusal_of answer) (count_of answer) ++ position_lines (count_of answer) f

-- desk in 4 columns, the number of its refused requests in 12
unfoldable pub count_line : ℕ → ℕ → List ℕ
count_line desk refused = print_field 4 desk ++ (print_field 12 refused ++ (10 ∷ []))
