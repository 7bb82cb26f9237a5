-- A request that was read asks one of the rules. Assumes nothing.
use mathlib.Core.Path.{◌≡◌, refl}
use mathlib.Core.Bool.{Bool, true, false, cond}
use mathlib.Core.List.{List}
use Prim.Native.Nat.{ℕ}
use native.Mathlib.Omega.{arith}
use lib.Dec.{leb}
use Rattle.std.proofs.Common.{Option, Some, None, Result, Ok, Err}
use Rattle.std.specs.Prelude.{is_some}
use Rattle.sheet_lines.specs.declared.Fields.{Fields}
use Rattle.sheet_lines.specs.declared.Request.{Request}
use Rattle.sheet_lines.specs.declared.reasons.Reason.{Reason}
use Rattle.sheet_lines.specs.Reason.{clean}
use Rattle.sheet_lines.specs.Rule.{rule_of}
use Rattle.sheet_lines.specs.Header.{most_bars, given, accepted, request_of, read_fields, read_header}

-- x is there, and the request r is what follows from it
record Through {A : Type 0} (x : Option A) (next : A → Result Request Reason) (r : Request) : Type 0 where
  value : A
  there : is_some x ≡ true
  follows : next value ≡ Ok r

-- no refused line gives a request
no_request : {reason : Reason} {r : Request} → ◌≡◌ {A = Result Request Reason} (Err reason) (Ok r) → ⊥
no_request e = let z : ◌≡◌ {A = ℕ} 0 1 = cc in absurd (omega arith)

through : {A : Type 0} (x : Option A) (reason : Reason) {next : A → Result Request Reason} {r : Request}
    → given x reason next ≡ Ok r → Through x next r
through (Some v) reason e = record { value = v; there = refl; follows = e }
through None reason e = absurd (no_request e)

-- a test that a request passed
kept : (t : Bool) (a : Result Request Reason) (reason : Reason) {r : Request} → cond t a (Err reason) ≡ Ok r → a ≡ Ok r
kept true a reason e = e
kept false a reason e = absurd (no_request e)

same_rule : (q r : Request) → accepted q ≡ Ok r → q.rule ≡ r.rule
same_rule q r e =
    let whole = kept (leb q.bars most_bars) _ _ e in
    let same : q ≡ r = cc in
    rw same refl

pub request_rule : (f : Fields) (r : Request) → request_of f ≡ Ok r → is_some (rule_of r.rule) ≡ true
unfolding request_of
request_rule f r e =
    let desk = through f.desk _ e in
    let rule = through f.rule _ desk.follows in
    let n = through f.n _ rule.follows in
    let m = through f.m _ n.follows in
    let bars = through f.bars _ m.follows in
    let known = through (rule_of rule.value) _ bars.follows in
    rw (← same_rule _ r known.follows) known.there

pub header_rule : (line : List ℕ) (r : Request) → read_header line ≡ Ok r → is_some (rule_of r.rule) ≡ true
unfolding read_header
header_rule line r e = request_rule (read_fields line) r (kept (clean 26 line) _ _ e)
