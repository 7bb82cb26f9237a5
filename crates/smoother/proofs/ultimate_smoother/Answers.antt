-- `ultimate_smoother` meets its contract: each answer is a line of the table, and the cells are those of the period's
-- line. Assumes nothing.
use Rattle.std.proofs.Common.{◌≡◌, Err, sym, refl, ◌∙◌, arith, rules}
use Rattle.calls.proofs.Room.{checked_room}
use Rattle.calls.proofs.Call.{refused, counted}
use Rattle.checks.proofs.Steps.{stopped, went_on, refused_there, let_pass}
use Rattle.smoother_table.proofs.Period.{Cut, cut_period}
use Rattle.smoother.specs.Smoother.{smoother_answer}
use Rattle.smoother.proofs.ultimate_smoother.Goals as goal
use Rattle.smoother.proofs.ultimate_smoother.Goals.{Else-not-is_period}

-- the period can be cut to its whole part
whole : (c : Else-not-is_period) → Cut c.args.period
whole c = cut_period _ (sym c.is_period.ensures ∙ c.if-not-is_period.false)

pub returns-in_err-check : goal.returns-in_err-check
unfolding smoother_answer
returns-in_err-check c =
    let stop : c.from_residual.result ≡ Err c.in_err-check.field-0.0 = search rules in
    refused (stopped _ c.check.ensures c.in_err-check.was stop) stop

pub returns-then-not-is_finite : goal.returns-then-not-is_finite
unfolding smoother_answer
returns-then-not-is_finite c =
    refused
    (went_on _ c.check.ensures c.in_ok-check.was
    (refused_there _ _ (sym c.is_finite.ensures ∙ c.if-not-is_finite.true)))
    refl

pub returns-then-not-is_period : goal.returns-then-not-is_period
unfolding smoother_answer
returns-then-not-is_period c =
    refused
    (went_on _ c.check.ensures c.in_ok-check.was
    (let_pass _ _ (sym c.is_finite.ensures ∙ c.if-not-is_finite.false)
    (refused_there _ _ (sym c.is_period.ensures ∙ c.if-not-is_period.true))))
    refl

pub truncating_f64_to_u64-whole-requires : goal.truncating_f64_to_u64-whole-requires
truncating_f64_to_u64-whole-requires c =
    let k = whole (goal.at.truncating_f64_to_u64-whole-requires c).Else-not-is_period in
    (record { lower_bound = k.above; upper_bound = k.below })

pub write_smooth-requires : goal.write_smooth-requires
write_smooth-requires c =
    let room = checked_room _ _ _ _ _ (sym c.check.ensures ∙ c.in_ok-check.was) in (
      omega (
        arith,
        c.truncating_f64_to_u64-whole.ensures,
        (whole (goal.at.write_smooth-requires c).Else-not-is_period).small,
      ),
      room.out_long,
    )

pub returns : goal.returns
unfolding smoother_answer
returns c =
    counted
    (went_on _ c.check.ensures c.in_ok-check.was
    (let_pass _ _ (sym c.is_finite.ensures ∙ c.if-not-is_finite.false)
    (let_pass _ _ (sym c.is_period.ensures ∙ c.if-not-is_period.false) refl)))
    (rw (← c.truncating_f64_to_u64-whole.ensures) c.write_smooth.ensures)
