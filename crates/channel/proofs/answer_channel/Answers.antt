-- `answer_channel` meets its contract: the series, the close before bar 0, then the parameters. Assumes nothing.
use Rattle.std.proofs.Common.{rules}
use Rattle.channel.specs.Channel.{channel_answer}
use Rattle.checks.proofs.Steps.{stopped, went_on, stopped_there, passed_there}
use Rattle.channel.proofs.answer_channel.Goals as goal

pub returns-in_err-check_channel : goal.returns-in_err-check_channel
unfolding channel_answer
returns-in_err-check_channel c = stopped _ c.check_channel.ensures c.in_err-check_channel.was (search rules)

pub returns-in_err-check_close : goal.returns-in_err-check_close
unfolding channel_answer
returns-in_err-check_close c =
    went_on _ c.check_channel.ensures c.in_ok-check_channel.was
    (stopped_there _ _ _ _ c.check_close.ensures c.in_err-check_close.was (search rules))

pub returns : goal.returns
unfolding channel_answer
returns c =
    went_on _ c.check_channel.ensures c.in_ok-check_channel.was
    (passed_there _ _ _ _ c.check_close.ensures c.in_ok-check_close.was
    (rw (c.check_parameters.ensures, c.unless_refused-long.ensures)))
