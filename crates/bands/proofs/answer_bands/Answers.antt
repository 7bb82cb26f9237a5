-- `answer_bands` meets its contract: the series, then the parameters. Assumes nothing.
use Rattle.std.proofs.Common.{rules}
use Rattle.bands.specs.Bands.{bands_answer}
use Rattle.checks.proofs.Steps.{stopped, went_on}
use Rattle.bands.proofs.answer_bands.Goals as goal

pub returns-in_err-check_bands : goal.returns-in_err-check_bands
unfolding bands_answer
returns-in_err-check_bands c =
    stopped _ c.check_bands.ensures c.in_err-check_bands.was (search rules)

pub returns : goal.returns
unfolding bands_answer
returns c =
    went_on _ c.check_bands.ensures c.in_ok-check_bands.was
    (rw (c.check_parameters.ensures, c.empty_if-whole.ensures))
