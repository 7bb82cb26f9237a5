-- `fault_at_end` meets its contract: each arm says where the input breaks in its stage. Assumes nothing.
use mathlib.Core.Path.{◌∙◌}
use Rattle.sheet_requests.proofs.Ends.{ends_waiting, ends_stopped, cut_waiting, cut_collecting}
use Rattle.sheet_requests.proofs.closing.fault_at_end.Goals as goal

pub returns-in-Waiting : goal.returns-in-Waiting
returns-in-Waiting c =
    record { is = λ series rest e n. rw (c.in-Waiting.is, ends_waiting _ rest (e ∙ c.if-kept-eq0.true)) }

pub returns-in-Waiting-2 : goal.returns-in-Waiting-2
returns-in-Waiting-2 c =
    let told = c.in-Waiting.is in
    let few = rw told at c.requires in
    record {
      is = λ series rest e n.
          rw (c.missing_line.ensures, told, cut_waiting _ rest (λ z. c.if-kept-eq0.false (rw e at z)) (rw e few) n);
    }

pub returns-in-Collecting : goal.returns-in-Collecting
returns-in-Collecting c =
    let told = c.in-Collecting.is in
    let few = rw told at c.requires in
    record {
      is = λ series rest e n. rw (c.missing_line-in-Collecting.ensures, told, cut_collecting _ _ _ rest (rw e few) n);
    }

pub returns-in-Stopped : goal.returns-in-Stopped
returns-in-Stopped c = record { is = λ series rest e n. rw (c.in-Stopped.is, ends_stopped _ _ rest) }
