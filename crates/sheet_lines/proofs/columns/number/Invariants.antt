-- `number` meets its contract: each turn takes one digit more,
-- and the number stays below a power of ten. Assumes nothing.
use Rattle.std.proofs.Common.{◌≡◌, ◌^◌, ◌<◌, drop}
use Rattle.sheet_lines.specs.Read.{number, number_after}
use Rattle.sheet_lines.proofs.columns.number.Given as goal

abbrev pub invariant-loop-digit : goal.invariant-loop-digit
invariant-loop-digit l =
    (l.value < 10 ^ l.digit-index) × (number l.digits ≡ number_after l.value (drop l.digit-index l.digits))
