-- What is known of a call of the double rule that was answered with cells. Assumes nothing.
use mathlib.Core.Path.{◌≡◌, sym}
use mathlib.Core.Bool.{true, false, ◌&&◌}
use mathlib.Core.List.{List, [], ◌∷◌}
use Prim.Native.Nat.{ℕ, ◌<◌, ◌≤◌}
use native.Mathlib.Omega.{arith}
use borrow.Author.Tests.{ltb-true, lt-ltb, le-leb, ne_eqb}
use lib.Dec.{T, ltb, eqb}
use lib.ListN.{length, get_or}
use lib.Ieee.{Float, nan, binary64, fits}
use Rattle.limits.specs.Limits.{Window}
use Rattle.values.specs.Accepted.{accepted, tick, all}
use Rattle.values.proofs.All.{and_parts}
use Rattle.calls.specs.Answer.{Answer, count_of, checked, windowed}
use Rattle.std.specs.Prelude.{Ok, Err}
use Rattle.calls.proofs.Call.{AllBars}
use Rattle.calls.proofs.Room.{
  Room,
  checked_room,
  and_then_cells,
  unless_cells,
  same_count,
  asked,
  fits_parts,
  fits_checked,
}
use Rattle.calls.specs.inner.Fits.{window_fits}
use Rattle.rules_double.specs.Double.{double_answer}
use Rattle.rules_double.specs.inner.Ticks.{tick_cells, TickRoom}
use Rattle.values.proofs.TicksAccepted.{ticks_accepted}

-- two windows in order
pub record DoubleOpen (n m : ℕ) : Type 0 where
  pub short : Window n
  pub long : Window m
  pub order : n < m

module _ (s : List Float) (n m output k : ℕ) (e : double_answer s n m output ≡ Ok k) where
  -- it has room for its cells
  pub double_room : Room accepted s output []
  unfolding double_answer
  double_room = checked_room accepted s output [] _
      (and_then_cells (checked accepted (s ∷ []) (output ∷ []) []) _ k e).0

  module _ (h : 0 < k) where
    parts : DoubleOpen n m × (◌≡◌ {A = Answer} (Ok (length s)) (Ok k))
    unfolding double_answer windowed
    parts =
        let a = and_then_cells (checked accepted (s ∷ []) (output ∷ []) []) _ k e in
        let b = asked (length s) [] (n ∷ m ∷ []) [] _ k a.1 h in
        let c = unless_cells (ltb n m) _ _ k b.rest in
        (record { short = b.each.0; long = b.each.1.0; order = ltb-true n m c.0 }, c.1)

    -- and where there are cells to be written, windows in order
    pub double_opened : DoubleOpen n m
    double_opened = parts.0

    pub double_whole : k ≡ length s
    double_whole = sym (same_count _ _ parts.1)

-- it has a cell for each bar
pub double_bars : (s : List Float) (n m output : ℕ) → AllBars (double_answer s n m output) (length s)
double_bars s n m output k e h = double_whole s n m output k e h

-- where its cells are due, there are windows in order and room
pub double_ready : (s : List Float) (n m output : ℕ) {r : Answer} → r ≡ double_answer s n m output → 0 < count_of r
    → Window n × Window m × (n < m) × (length s ≤ output)
double_ready s n m output {r = Ok k} e h =
    let o = double_opened s n m output k (sym e) h in
    (o.short, o.long, o.order, (double_room s n m output k (sym e)).out_long)
double_ready s n m output {r = Err q} e h = let none : 0 < 0 = h in absurd (omega arith)

-- ---- whole ticks

module _ (s : List Float) (n m output : ℕ) (h : tick_cells s n m output ≡ true) where
  tick_parts : (0 < n) × (n < m) × (window_fits (length s) m output ≡ true) × (all tick s ≡ true)
  unfolding tick_cells
  tick_parts =
      let a = and_parts (ltb 0 n && ltb n m && window_fits (length s) m output) (all tick s) h in
      let b = and_parts (ltb 0 n && ltb n m) (window_fits (length s) m output) a.0 in
      let c = and_parts (ltb 0 n) (ltb n m) b.0 in
      (ltb-true 0 n c.0, ltb-true n m c.1, b.1, a.1)

  -- there are windows in order and room
  pub tick_room : TickRoom n m s output
  tick_room =
      let (some, order, f, ticks) = tick_parts in
      let fits = fits_parts (length s) m output f in
      let narrow = fits.window.narrow in
      record {
        short = record { some = some; narrow = omega arith };
        long = fits.window;
        order = order;
        full = fits.inside;
        room = fits.room;
        ticks = ticks;
      }

  -- and nothing is refused
  pub tick_answer : ((i : ℕ) → T (fits binary64 (get_or s i nan))) → Ok (length s) ≡ double_answer s n m output
  unfolding double_answer windowed
  tick_answer floats =
      let (some, order, f, ticks) = tick_parts in
      let room = tick_room in
      let bars : eqb (length s) 0 ≡ false = ne_eqb (length s) 0 (λ (e : length s ≡ 0). omega arith) in
      let short : eqb n 0 ≡ false = ne_eqb n 0 (λ (e : n ≡ 0). omega arith) in
      let long : eqb m 0 ≡ false = ne_eqb m 0 (λ (e : m ≡ 0). omega arith) in
      rw (
        fits_checked accepted s m output f,
        ticks_accepted s floats ticks,
        le-leb _ _ room.short.narrow,
        le-leb _ _ room.long.narrow,
        bars,
        short,
        long,
        lt-ltb _ _ order,
      )
