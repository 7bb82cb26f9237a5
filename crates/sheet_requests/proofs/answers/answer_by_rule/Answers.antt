-- `answer_by_rule` meets its contract: what the rule answers is printed, and the request is done. Assumes nothing.
use mathlib.Core.Path.{refl}
use Prim.Native.Nat.{◌≤◌}
use native.Mathlib.Omega.{arith}
use lib.ListN.{take}
use lib.Seq.{length-take-le}
use Rattle.calls.specs.Answer.{count_of}
use Rattle.sheet_requests.specs.Answer.{rule_line}
use Rattle.sheet_lines.proofs.Positions.{text_same}
use Rattle.sheet_requests.proofs.Answered.{clear_long, stays_clear, rule_most}
use Rattle.sheet_requests.proofs.answers.answer_by_rule.Goals as goal
use Rattle.sheet_requests.proofs.answers.answer_by_rule.Goals.{After-answer-given}

-- there are no more positions than prices
few : (c : After-answer-given)
    → count_of c.answer-given.result ≤ c.args.request.bars
few c =
    let a = c.args in
    let prices = take a.request.bars a.series.now in
    omega (
      arith,
      rw (← c.answer-given.ensures.call.answer) at (rule_most a.request prices),
      length-take-le a.request.bars a.series.now (omega arith),
    )

pub answer-given-requires : goal.answer-given-requires
answer-given-requires c =
    (omega (arith, c.requires.2.series_long), c.requires.2.out_long, clear_long c.requires.2.work_clear)

pub print_answer-end-requires : goal.print_answer-end-requires
print_answer-end-requires c = omega (arith, few (goal.at.print_answer-end-requires c).After-answer-given)

pub returns : goal.returns
returns c =
    let call = c.answer-given.ensures.call in
    let most = few (goal.at.returns c).After-answer-given in
    let a = c.args in
    let f = rule_line a.request (take a.request.bars a.series.now) in (
      record {
        state = rw (c.requires.0, c.after.ensures, call.answer);
        text = rw (
          c.requires.0,
          ← call.answer,
          ← text_same a.request c.answer-given.result f a.out.now (omega arith),
          ← call.cells,
        ) c.print_answer-end.ensures.0;
        place = refl;
      },
      refl,
      omega (arith, c.print_answer-end.ensures.1),
      stays_clear c.answer-given.ensures c.requires.2.work_clear,
    )
