-- `run` meets its contract: each turn reads on. Assumes nothing.
use mathlib.Core.Path.{◌∙◌}
use native.Mathlib.Omega.{arith}
use borrow.Author.Rules.{rules}
use Rattle.sheet_run.specs.Run.{write_status, status_of}
use Rattle.sheet_run.proofs.Turns.{start_carrying}
use Rattle.sheet_run.proofs.run.Goals as goal

pub loop-init : goal.loop-init
loop-init c = rw c.first-carried.ensures (start_carrying, c.requires)

pub turn-carried-requires : goal.turn-carried-requires
turn-carried-requires c = (
  c.loop.invariant.0,
  c.loop.invariant.1,
)

pub loop-preserved : goal.loop-preserved
loop-preserved c =
    let kept = c.turn-carried.auto in
    let (turned, clear) = c.turn-carried.ensures in
    let inv = c.loop.invariant in
    let buffers = inv.1 in
    let lent = buffers.lent in (
      turned.carrying,
      record {
        block_long = search rules;
        lent = record { series_long = search rules; out_long = search rules; work_clear = clear ∙ lent.work_clear };
        text_long = search rules;
      },
    )

pub close-requires : goal.close-requires
close-requires c = (c.loop.invariant.0, omega (arith, c.loop.invariant.1.text_long))

pub returns : goal.returns
returns c =
    let carried = c.loop.carried in
    let closed = c.close.result in
    record {
      status = write_status closed.output.taken (status_of carried);
      fault = closed.fault;
      is = c.end_of.ensures;
    }
