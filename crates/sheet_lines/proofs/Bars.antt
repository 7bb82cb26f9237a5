-- A request that was read has no more bars than the program keeps. Assumes nothing.
use mathlib.Core.Path.{◌≡◌, refl}
use mathlib.Core.Bool.{Bool, true, false, cond}
use mathlib.Core.List.{List}
use Prim.Native.Nat.{ℕ, ◌≤◌}
use native.Mathlib.Omega.{arith}
use borrow.Author.Tests.{leb-true}
use lib.Dec.{leb}
use Rattle.std.proofs.Common.{Option, Some, None}
use Rattle.std.proofs.Common.{Result, Ok, Err}
use Rattle.sheet_lines.specs.declared.Fields.{Fields}
use Rattle.sheet_lines.specs.declared.Request.{Request}
use Rattle.sheet_lines.specs.declared.reasons.Reason.{Reason}
use Rattle.sheet_lines.specs.declared.reasons.Reason.TheVariants.{
  DeskField,
  RuleField,
  NField,
  MField,
  BarsField,
  OtherRule,
}
use Rattle.sheet_lines.specs.Reason.{clean}
use Rattle.sheet_lines.specs.Rule.{rule_of}
use Rattle.sheet_lines.specs.Header.{
  most_bars,
  given,
  accepted,
  request_of,
  read_fields,
  read_header,
}

record Small (h : Result Request Reason) : Type 0 where
  few : (r : Request) → h ≡ Ok r → r.bars ≤ most_bars

no_request : {reason : Reason} → Small (Err reason)
no_request = record { few = λ r e. let z : ◌≡◌ {A = ℕ} 0 1 = cc in absurd (omega arith) }

cond_small : (t : Bool) {a b : Result Request Reason} → (t ≡ true → Small a) → Small b → Small (cond t a b)
cond_small true h k = h refl
cond_small false h k = k

given_small : {A : Type 0} (x : Option A) (reason : Reason) {next : A → Result Request Reason}
    → ((v : A) → Small (next v)) → Small (given x reason next)
given_small (Some v) reason h = h v
given_small None reason h = no_request

accepted_small : (r : Request) → Small (accepted r)
accepted_small r =
    cond_small (leb r.bars most_bars)
    (λ d. record { few = λ q f. let same : r ≡ q = cc in rw (← same) (leb-true _ _ d) }) no_request

request_small : (f : Fields) → Small (request_of f)
unfolding request_of
request_small f =
    given_small f.desk DeskField (λ d. given_small f.rule RuleField (λ r. given_small f.n NField (λ a.
    given_small f.m MField (λ b. given_small f.bars BarsField (λ l. given_small (rule_of r) OtherRule (λ _.
    accepted_small (record { desk = d; rule = r; n = a; m = b; bars = l })))))))

pub header_small : (line : List ℕ) (r : Request) → read_header line ≡ Ok r → r.bars ≤ most_bars
unfolding read_header
header_small line = (cond_small (clean 26 line) (λ e. request_small (read_fields line)) no_request).few
