-- The four rows of averages, from the stages that write them. Assumes nothing.
use mathlib.Core.Path.{◌≡◌, ◌∙◌}
use mathlib.Core.List.{List}
use Prim.Native.Nat.{ℕ, ◌+◌, ◌-◌, ◌*◌, ◌≤◌, min}
use native.Mathlib.Omega.{arith}
use lib.ListN.{length}
use lib.Ieee.{Float}
use Rattle.limits.specs.Limits.{Window}
use Rattle.cells.specs.Line.{Line, line}
use Rattle.cells.specs.Written.{Writing}
use Rattle.cells.specs.inner.Touched.{Touched}
use Rattle.cells.proofs.Touched.{touched, touched_then, touched_more}
use Rattle.windows.specs.Window.{mean}
use Rattle.window_means.specs.inner.Row.{means_of_row, RowRoom, RowHolds}
use Rattle.window_means.proofs.Row.{first_row, row_written, row_kept}
use Rattle.rules_triple.specs.inner.Stages.{Rising, Averages}

module _ {m1 m2 m3 : ℕ} (s : List Float) (r : Rising m1 m2 m3) {first : ℕ} (e : first ≡ min (m1 + m3 - 2) (length s))
  where
    -- a window of the three has a row
    row_room : {n : ℕ} (to cells : ℕ) → Window n → n ≤ m3 → (length s ≤ to) × (to + length s ≤ cells)
        → RowRoom 0 to (length s) n first cells
    row_room to cells w h (a, b) =
        let some = r.first.some in
        record { window = w; past_lead = omega arith; inside = omega arith; apart = omega arith; room = omega arith }

    -- a row from the first bar with all averages on
    from_first : {at : ℕ} {f : Line} {now : List Float} → RowHolds at first (length s) f now
        → RowHolds at (m1 + m3 - 2) (length s) f now
    from_first h = record { cell = λ i l. h.cell i (omega arith) }

    pub four_rows : {w0 w1 w2 w3 w4 : List Float} → 4 * length s ≤ length w0
        → Writing (length s) (mean m1 (line s)) w0 w1
        → Writing (length s + length s) (means_of_row 0 (length s) m1 first w1) w1 w2
        → Writing (2 * length s + length s) (means_of_row 0 (2 * length s) m2 first w2) w2 w3
        → Writing (3 * length s + length s) (means_of_row 0 (3 * length s) m3 first w3) w3 w4
        → Averages m1 m2 m3 s w4 × Touched (4 * length s) w0 w4
    four_rows {w0} {w1} {w2} {w3} {w4} h a b c d =
        let l1 : length w1 ≡ length w0 = a.long in
        let l2 : length w2 ≡ length w0 = b.long ∙ l1 in
        let l3 : length w3 ≡ length w0 = c.long ∙ l2 in
        let l4 : length w4 ≡ length w0 = d.long ∙ l3 in
        let short = r.short in
        let long = r.long in
        let g1 = row_room (length s) (length w1) r.first (omega arith) (omega arith) in
        let g2 = row_room (2 * length s) (length w2) r.second (omega arith) (omega arith) in
        let g3 = row_room (3 * length s) (length w3) r.third (omega arith) (omega arith) in
        let means1 = first_row a (omega arith) in
        let means2 = row_kept g1 b (omega arith) means1 (omega arith) in
        let means3 = row_kept g2 c (omega arith) means2 (omega arith) in
        let ma1 = row_kept g2 c (omega arith) (row_written g1 b means1) (omega arith) in
        let t1 : Touched (4 * length s) w0 w1 = touched_more (touched a) (omega arith) in
        let t2 : Touched (4 * length s) w1 w2 = touched_more (touched b) (omega arith) in
        let t3 : Touched (4 * length s) w2 w3 = touched_more (touched c) (omega arith) in
        let t4 : Touched (4 * length s) w3 w4 = touched_more (touched d) (omega arith) in (
          record {
            room = omega arith;
            means = row_kept g3 d (omega arith) means3 (omega arith);
            ma1 = from_first (row_kept g3 d (omega arith) ma1 (omega arith));
            ma2 = from_first (row_kept g3 d (omega arith) (row_written g2 c means2) (omega arith));
            ma3 = from_first (row_written g3 d means3);
          },
          touched_then (touched_then (touched_then t1 t2) t3) t4,
        )
