-- `write_from_rows` meets its contract: each part holds its row. Assumes nothing.
use mathlib.Core.Path.{sym, ◌∙◌}
use Prim.Native.Nat.{◌+◌, ◌-◌}
use native.Mathlib.Omega.{arith}
use lib.ListN.{take, drop, length-take, length-drop}
use lib.Seq.{get_or-take, get_or-drop}
use lib.Ieee.{nan}
use Rattle.cells.proofs.Parts.{taken_long}
use Rattle.oscillator.proofs.Oscillator.{from_parts}
use Rattle.oscillator.proofs.write_from_rows.Goals as goal

pub slice_bounds-write_shares-end : goal.slice_bounds-write_shares-end
slice_bounds-write_shares-end c = sym (taken_long _ _ (omega arith))

pub write_shares-requires : goal.write_shares-requires
write_shares-requires c =
    let pre = c.requires in (
      record {
        each = pre.each;
        same = simp (length-take, length-drop) (omega arith);
      },
      simp length-take (omega arith),
    )

pub returns : goal.returns
returns c =
    let rows = c.args.rows.now in
    let bars = c.args.bars in
    let second = drop bars rows in
    from_parts _ bars _ _ (take bars rows) (take (bars + bars - bars) second) c.write_shares.ensures
    (taken_long bars rows (omega arith)) (λ j h. get_or-take bars rows j nan h)
    (λ j h. get_or-take (bars + bars - bars) second j nan (omega arith) ∙ get_or-drop bars rows j nan)
