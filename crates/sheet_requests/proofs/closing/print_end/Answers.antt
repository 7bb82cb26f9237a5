-- `print_end` meets its contract: each arm prints what the end of the input gives in its stage. Assumes nothing.
use mathlib.Core.Path.{◌≡◌, sym, ap, ◌∙◌}
use native.Mathlib.Omega.{arith}
use Rattle.sheet_requests.specs.Sheet.{Outcome}
use Rattle.sheet_requests.proofs.Ends.{ends_waiting, ends_stopped, cut_waiting, cut_collecting}
use Rattle.sheet_requests.proofs.closing.print_end.Goals as goal

text_of : {whole last : Outcome} → whole ≡ last → last.text ≡ whole.text
text_of e = sym (ap (λ (o : Outcome). o.text) e)

pub returns-then-kept-eq0 : goal.returns-then-kept-eq0
returns-then-kept-eq0 c =
    let told = c.in-Waiting.is in
    record {
      within = omega (arith, c.print.auto.text, c.requires.1);
      is = λ series rest e n. c.print.ensures.text
          ∙ rw told (text_of (ends_waiting _ rest (e ∙ c.if-kept-eq0.true)));
    }

pub returns-else-kept-eq0 : goal.returns-else-kept-eq0
returns-else-kept-eq0 c =
    let told = c.in-Waiting.is in
    let few = rw told at c.requires.0 in
    record {
      within = omega (arith, c.print_cut.auto.text, c.requires.1);
      is = λ series rest e n. c.print_cut.ensures
          ∙ rw told (text_of (cut_waiting _ rest (λ z. c.if-kept-eq0.false (rw e at z)) (rw e few) n));
    }

pub returns-in-Collecting : goal.returns-in-Collecting
returns-in-Collecting c =
    let told = c.in-Collecting.is in
    let few = rw told at c.requires.0 in
    record {
      within = omega (arith, c.print_cut-in-Collecting.auto.text, c.requires.1);
      is = λ series rest e n. c.print_cut-in-Collecting.ensures
          ∙ rw told (text_of (cut_collecting _ _ _ rest (rw e few) n));
    }

pub returns-in-Stopped : goal.returns-in-Stopped
returns-in-Stopped c =
    let told = c.in-Stopped.is in
    record {
      within = omega (arith, c.print-in-Stopped.auto.text, c.requires.1);
      is = λ series rest e n. c.print-in-Stopped.ensures.text ∙ rw told (text_of (ends_stopped _ _ rest));
    }
