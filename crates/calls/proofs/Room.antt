-- The table of refusals in the forms that the checks meet it, and what is known of a call that it let pass. Assumes
-- nothing.
use mathlib.Core.Path.{◌≡◌, refl, sym, ◌∙◌}
use mathlib.Core.Bool.{Bool, true, false, ◌&&◌, ◌||◌, true≢false}
use mathlib.Core.List.{List, [], ◌∷◌}
use Prim.Native.Nat.{ℕ, zero, suc, ◌*◌, ◌<◌, ◌≤◌}
use native.Mathlib.Omega.{arith}
use borrow.Author.Tests.{leb-true, leb-false, le-leb, ltb-true, lt-ltb, ne_eqb, eq-eqb, eqb-false}
use lib.Dec.{leb, ltb, eqb}
use lib.ListN.{length}
use lib.Ieee.{Float}
use Rattle.calls.specs.declared.Refusal.{Refusal}
use Rattle.calls.specs.declared.Refusal.TheVariants.{
  SeriesTooLong,
  LengthsDiffer,
  OutputTooShort,
  WorkTooShort,
  ValueNotAccepted,
}
use Rattle.calls.specs.Answer.{Answer, count_of, first, unless, and_then, empty_if, slices, checked, any_zero, limited, unless_empty, windowed, answered, answered_with}
use Rattle.std.specs.Prelude.{Ok, Err}
use Rattle.values.specs.Accepted.{finite, all}
use Rattle.values.proofs.All.{and_true, and_parts}
use Rattle.calls.proofs.Call.{AllBars}
use Rattle.calls.specs.inner.Fits.{window_fits, Fits}
use Rattle.calls.specs.inner.Room.{AtLeast}
use Rattle.limits.specs.Limits.{longest_series, longest_window, longest_period, Window}

-- ---- the table for one series

pub or_false : (t : Bool) → t || false ≡ t
or_false true = refl
or_false false = refl

-- refusals 1 to 3, and then the next
parted : (t u v : Bool) (l : ℕ) (next : Answer)
    → unless t SeriesTooLong (unless u LengthsDiffer (unless v OutputTooShort next))
    ≡ and_then (unless t SeriesTooLong (unless u LengthsDiffer (unless v OutputTooShort (Ok l)))) next
parted true true true l next = refl
parted true true false l next = refl
parted true false v l next = refl
parted false u v l next = refl

pub slices_one : (l out : ℕ) (work : List ℕ)
    → slices (l ∷ []) (out ∷ []) work
    ≡ unless (leb l longest_series) SeriesTooLong
    (unless (leb l out) OutputTooShort (unless (all (λ room. leb (8 * l) room) work) WorkTooShort (Ok l)))
unfolding slices
slices_one l out work = rw (and_true (leb l longest_series), and_true (eqb l l), eq-eqb l l refl, and_true (leb l out))

-- the work slice comes after the other lengths
pub slices_work : (series outputs : List ℕ) (work : ℕ)
    → slices series outputs (work ∷ [])
    ≡ and_then (slices series outputs []) (unless (leb (8 * first series) work) WorkTooShort (Ok (first series)))
unfolding slices
slices_work series outputs work =
    let l = first series in
    rw (and_true (leb (8 * l) work))
    (parted (all (λ k. leb k longest_series) series) (all (λ k. eqb k l) series) (all (λ room. leb l room) outputs) l
    (unless (leb (8 * l) work) WorkTooShort (Ok l)))

pub checked_one : (ok : Float → Bool) (s : List Float) (outputs work : List ℕ)
    → checked ok (s ∷ []) outputs work
    ≡ and_then (slices (length s ∷ []) outputs work) (unless (all ok s) ValueNotAccepted (Ok (length s)))
unfolding checked
checked_one ok s outputs work = rw (and_true (all ok s))

-- ---- what is known where a count was answered

pub record Room (ok : Float → Bool) (s : List Float) (out : ℕ) (work : List ℕ) : Type 0 where
  pub short : length s ≤ longest_series
  pub out_long : length s ≤ out
  pub work_long : AtLeast (8 * length s) work
  pub values : all ok s ≡ true

pub unless_cells : (t : Bool) (q : Refusal) (next : Answer) (k : ℕ) → unless t q next ≡ Ok k → (t ≡ true)
    × (next ≡ Ok k)
unless_cells true q next k e = (refl, e)
unless_cells false q next k e = let z : ◌≡◌ {A = ℕ} 0 1 = cc in absurd (omega arith)

pub and_then_cells : (a next : Answer) (k : ℕ) → and_then a next ≡ Ok k → (a ≡ Ok (count_of a)) × (next ≡ Ok k)
and_then_cells (Ok j) next k e = (refl, e)
and_then_cells (Err q) next k e = let z : ◌≡◌ {A = ℕ} 0 1 = cc in absurd (omega arith)

pub empty_if_cells : (t : Bool) (next : Answer) (k : ℕ) → empty_if t next ≡ Ok k → 0 < k → (t ≡ false)
    × (next ≡ Ok k)
empty_if_cells false next k e h = (refl, e)
empty_if_cells true next k e h = let z : 0 ≡ k = cc in absurd (omega arith)

pub same_count : (j k : ℕ) → ◌≡◌ {A = Answer} (Ok j) (Ok k) → j ≡ k
same_count j k e = cc

positive : (n : ℕ) → (n ≡ 0 → ⊥) → 0 < n
positive zero h = absurd (h refl)
positive (suc n) h = omega arith

pub nonzero : (n : ℕ) → eqb n 0 ≡ false → 0 < n
nonzero n e = let h = eqb-false n 0 e in positive n h

pub or_parts : (t u : Bool) → t || u ≡ false → (t ≡ false) × (u ≡ false)
or_parts false u e = (refl, e)
or_parts true u e = let z : ◌≡◌ {A = ℕ} 0 1 = cc in absurd (omega arith)

pub at_least : (k : ℕ) (rooms : List ℕ) → all (λ room. leb k room) rooms ≡ true → AtLeast k rooms
at_least k [] e = tt
at_least k (room ∷ rooms) e =
    let parts = and_parts (leb k room) (all (λ room. leb k room) rooms) e in
    (leb-true k room parts.0, at_least k rooms parts.1)

pub checked_room : (ok : Float → Bool) (s : List Float) (out : ℕ) (work : List ℕ) (k : ℕ)
    → checked ok (s ∷ []) (out ∷ []) work ≡ Ok k
    → Room ok s out work
checked_room ok s out work k e =
    let a = and_then_cells _ _ k (sym (checked_one ok s (out ∷ []) work) ∙ e) in
    let b = unless_cells _ _ _ _ (sym (slices_one (length s) out work) ∙ a.0) in
    let c = unless_cells _ _ _ _ b.1 in
    let d = unless_cells _ _ _ _ c.1 in
    record {
      short = leb-true _ _ b.0;
      out_long = leb-true _ _ c.0;
      work_long = at_least (8 * length s) work d.0;
      values = (unless_cells (all ok s) _ _ k a.1).0;
    }

-- ---- the parameters

-- each of the windows has a bar at least, and is not too long
abbrev pub EachWindow : List ℕ → Type 0
EachWindow [] = Unit {0}
EachWindow (n ∷ ns) = Window n × EachWindow ns

each_window : (ns : List ℕ) → all (λ n. leb n longest_window) ns ≡ true → any_zero ns ≡ false → EachWindow ns
each_window [] e z = tt
each_window (n ∷ ns) e z =
    let narrow = and_parts (leb n longest_window) _ e in
    let some = or_parts (eqb n 0) (any_zero ns) z in
    (record { some = nonzero n some.0; narrow = leb-true _ _ narrow.0 }, each_window ns narrow.1 some.1)

-- what is known of the parameters of a call of l bars that has cells, and what came after them
pub record Asked (l : ℕ) (numbers : List Float) (windows periods : List ℕ) (next : Answer) (k : ℕ) : Type 0 where
  pub short_periods : all (λ n. leb n longest_period) periods ≡ true
  pub some_periods : any_zero periods ≡ false
  pub each : EachWindow windows
  pub bars : 0 < l
  pub rest : next ≡ Ok k

pub asked : (l : ℕ) (numbers : List Float) (windows periods : List ℕ) (next : Answer) (k : ℕ)
    → limited numbers windows periods (unless_empty l windows periods next) ≡ Ok k → 0 < k
    → Asked l numbers windows periods next k
asked l numbers windows periods next k e h =
    let a = unless_cells (all finite numbers) _ _ k e in
    let b = unless_cells (all (λ n. leb n longest_period) periods) _ _ k a.1 in
    let c = unless_cells (all (λ n. leb n longest_window) windows) _ _ k b.1 in
    let d = empty_if_cells (any_zero periods || any_zero (l ∷ windows)) next k c.1 h in
    let some = or_parts (any_zero periods) _ d.0 in
    let bars = or_parts (eqb l 0) (any_zero windows) some.1 in
    record {
      short_periods = b.0;
      some_periods = some.0;
      each = each_window windows c.0 bars.1;
      bars = nonzero l bars.0;
      rest = d.1;
    }

-- ---- a call of one series with numbers and windows

module _ (ok : Float → Bool) (s numbers : List Float) (windows : List ℕ) (out : ℕ) (work : List ℕ) where
  module _ (k : ℕ) (e : answered_with ok s numbers windows out work ≡ Ok k) where
    -- it has room for its cells
    with_room : Room ok s out work
    unfolding answered_with
    with_room = checked_room ok s out work _ (and_then_cells (checked ok (s ∷ []) (out ∷ []) work) _ k e).0

    -- and where there are cells to be written, windows
    with_opened : 0 < k → Asked (length s) numbers windows [] (Ok (length s)) k
    unfolding answered_with
    with_opened h = asked (length s) numbers windows [] (Ok (length s)) k
        (and_then_cells (checked ok (s ∷ []) (out ∷ []) work) _ k e).1 h

  -- it has a cell for each bar
  pub with_bars : AllBars (answered_with ok s numbers windows out work) (length s)
  with_bars k e h = sym (same_count _ _ (with_opened k e h).rest)

  -- where an answer has cells its windows are open, and there are bars
  pub with_windows : {r : Answer} → r ≡ answered_with ok s numbers windows out work → 0 < count_of r
      → EachWindow windows × (0 < length s)
  with_windows {r = Ok k} e h = let a = with_opened k (sym e) h in (a.each, a.bars)
  with_windows {r = Err q} e h = let none : 0 < 0 = h in absurd (omega arith)

-- ---- with windows alone

module _ (ok : Float → Bool) (s : List Float) (windows : List ℕ) (out : ℕ) (work : List ℕ) where
  with_none : answered ok s windows out work ≡ answered_with ok s [] windows out work
  unfolding answered windowed answered_with
  with_none = refl

  module _ (k : ℕ) (e : answered ok s windows out work ≡ Ok k) where
    pub room : Room ok s out work
    room = with_room ok s [] windows out work k (sym with_none ∙ e)

    pub opened : 0 < k → Asked (length s) [] windows [] (Ok (length s)) k
    opened = with_opened ok s [] windows out work k (sym with_none ∙ e)

  pub all_bars : AllBars (answered ok s windows out work) (length s)
  all_bars = rw with_none (with_bars ok s [] windows out work)

  pub answered_room : {r : Answer} → r ≡ answered ok s windows out work → 0 < count_of r → Room ok s out work
  answered_room {r = Ok k} e h = room k (sym e)
  answered_room {r = Err q} e h = let none : 0 < 0 = h in absurd (omega arith)

  pub answered_windows : {r : Answer} → r ≡ answered ok s windows out work → 0 < count_of r → EachWindow windows
  answered_windows e h = (with_windows ok s [] windows out work (e ∙ with_none) h).0

-- ---- a window that fits

pub fits_parts : (bars n out : ℕ) → window_fits bars n out ≡ true → Fits bars n out
unfolding window_fits
fits_parts bars n out e =
    let a = and_parts (ltb 0 n && leb n longest_window && leb n bars && leb bars longest_series) (leb bars out) e in
    let b = and_parts (ltb 0 n && leb n longest_window && leb n bars) (leb bars longest_series) a.0 in
    let c = and_parts (ltb 0 n && leb n longest_window) (leb n bars) b.0 in
    let d = and_parts (ltb 0 n) (leb n longest_window) c.0 in
    record {
      window = record { some = ltb-true _ _ d.0; narrow = leb-true _ _ d.1 };
      inside = leb-true _ _ c.1;
      short = leb-true _ _ b.1;
      room = leb-true _ _ a.1;
    }

-- where it does not fit though all else is in order, the bars end before the window does
pub none_fits : (bars n out : ℕ) → window_fits bars n out ≡ false → Window n → bars ≤ longest_series → bars ≤ out
    → bars < n
unfolding window_fits
none_fits bars n out e w r s = go (leb n bars) refl
  where
    go : (t : Bool) → leb n bars ≡ t → bars < n
    go false f = leb-false _ _ f
    go true f = absurd (true≢false (sym (rw
        (lt-ltb 0 n w.some, le-leb n longest_window w.narrow, f, le-leb bars longest_series r, le-leb bars out s))
        ∙ e))

-- a count that is answered twice
pub counted_twice : (t : Bool) (q : Refusal) (k : ℕ) → and_then (unless t q (Ok k)) (Ok k) ≡ unless t q (Ok k)
counted_twice true q k = refl
counted_twice false q k = refl

module _ (ok : Float → Bool) (s : List Float) (n out : ℕ) (f : window_fits (length s) n out ≡ true) where
  -- then the values decide
  pub fits_checked : checked ok (s ∷ []) (out ∷ []) [] ≡ unless (all ok s) ValueNotAccepted (Ok (length s))
  fits_checked =
      let h = fits_parts (length s) n out f in
      rw (checked_one ok s (out ∷ []) [], slices_one (length s) out [], le-leb _ _ h.short, le-leb _ _ h.room)

  pub fits_answered : answered ok s (n ∷ []) out [] ≡ unless (all ok s) ValueNotAccepted (Ok (length s))
  unfolding answered windowed
  fits_answered =
      let h = fits_parts (length s) n out f in
      let bars : eqb (length s) 0 ≡ false = ne_eqb (length s) 0 (λ (e : length s ≡ 0). omega arith) in
      let some : eqb n 0 ≡ false = ne_eqb n 0 (λ (e : n ≡ 0). omega arith) in
      rw (fits_checked, le-leb _ _ h.window.narrow, bars, some, counted_twice (all ok s))
