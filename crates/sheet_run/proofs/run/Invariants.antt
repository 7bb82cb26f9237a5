-- Between two turns the buffers are whole. Assumes nothing.
use Rattle.sheet_run.specs.inner.Buffers.{Buffers}
use Rattle.sheet_run.specs.Turn.{Carrying}
use Rattle.sheet_run.proofs.run.Given as goal

abbrev pub invariant-loop : goal.invariant-loop
invariant-loop l = Carrying l.carried × Buffers l.block l.series l.out l.work l.text
