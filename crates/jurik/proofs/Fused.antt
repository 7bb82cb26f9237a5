-- The first two passes in one loop, where both of them average. Assumes nothing.
use mathlib.Core.Path.{◌≡◌, refl, sym, ◌∙◌}
use mathlib.Core.Bool.{Bool, true, false, ◌||◌, true≢false}
use mathlib.Core.List.{List}
use Prim.Native.Nat.{ℕ, zero, suc, ◌+◌, ◌-◌, ◌/◌, ◌<◌, ◌≤◌}
use native.Mathlib.Omega.{arith}
use borrow.Author.Tests.{lt-leb}
use lib.Ieee.{Float, nan, is_nan}
use Rattle.cells.specs.Line.{Line, plus_zero}
use Rattle.cells.specs.Recur.{carried}
use Rattle.cells.specs.Search.{non_zero, first_bar}
use Rattle.cells.specs.Written.{Writing}
use Rattle.cells.proofs.Line.{before_bar, from_bar_lem}
use Rattle.cells.proofs.Carried.{carried_seed, carried_next}
use Rattle.cells.proofs.Search.{first_bar_found, first_bar_under}
use Rattle.cells.proofs.Touched.{touched, untouched}
use Rattle.cells.proofs.Written.{writing_same}
use Rattle.averages.specs.Blend.{blend, ema_alpha}
use Rattle.jurik.specs.Jurik.{
  averaged,
  all_same,
  is_number,
  price_change,
  smooth1,
  smooth2,
  jv_of,
  jv,
  jurik_with,
  jurik_line,
}
use Rattle.jurik.specs.inner.Passes.{
  differs,
  tested,
  blended_once,
  blended_twice,
  Started,
  Other,
  Differing,
  JvWritten,
  BothAverage,
}
use Rattle.jurik.proofs.Causal.{causal_averaged, causal_jv}
use Rattle.jurik.proofs.TwoPasses.{differing_is, differing_same, averaged_is}
use Rattle.jurik.proofs.Stages.{local_causal}

-- ---- what the loops find

-- one more bar, where one of those before may have passed
or_under : (t : ℕ → Bool) (j l : ℕ) {p q : Bool} → (p ≡ true → first_bar t l < l) → q ≡ t j → j < l → p || q ≡ true
    → first_bar t l < l
or_under t j l {p = true} h e k z = h refl
or_under t j l {p = false} h e k z = first_bar_under t j l (sym e ∙ z) k

-- bars 1 and i differ
pub differing_found : (f : Line) (i l : ℕ) {x y : Float} → x ≡ f 1 → y ≡ f i → is_number x ≡ true
    → differs is_number x y ≡ true
    → (2 ≤ i) × (i < l)
    → Differing l f
differing_found f i l p q number e (g, h) =
    record {
      start = record { bars = omega arith; number = rw p at number };
      other = first_bar_under (λ j. differs is_number (f 1) (f j)) i l (rw (p, q) at e) h;
    }

-- the averages begin with the value of bar 1
pub begun : (alpha : Float) (f : Line) (i : ℕ) {x : Float} → x ≡ f 1 → i ≡ 2 → x ≡ blended_once alpha f (i - 1)
begun alpha f i e h =
    let one : i - 1 ≡ 1 = omega arith in
    e ∙ rw (one, carried_seed nan (blend alpha) 1 (f 1) f)

pub begun_twice : (alpha : Float) (f : Line) (i : ℕ) {x : Float} → x ≡ f 1 → i ≡ 2
    → x ≡ blended_twice alpha f (i - 1)
begun_twice alpha f i e h =
    begun alpha (blended_once alpha f) i (e ∙ sym (carried_seed nan (blend alpha) 1 (f 1) f)) h

-- and go on with each bar's
pub next_blend : (alpha : Float) (f : Line) (i : ℕ) {x m y : Float} → x ≡ blended_once alpha f (i - 1) → m ≡ f i
    → y ≡ blend alpha x m
    → 1 < i
    → y ≡ blended_once alpha f i
next_blend alpha f i p q e h = e ∙ rw (p, q) (sym (carried_next nan (blend alpha) 1 (f 1) f i h))

-- the bar, as the next turn has it
pub at_last : (f : Line) (i : ℕ) {x : Float} → x ≡ f i → x ≡ f (i + 1 - 1)
at_last f i e = let last : i + 1 - 1 ≡ i = omega arith in rw last e

-- whether one differed, with one more bar
pub other_more : (alpha : Float) (f : Line) (i l : ℕ) {p r : Bool} {x y : Float}
    → (p ≡ true → Other l (blended_once alpha f)) → x ≡ f 1 → y ≡ blended_once alpha f i → r ≡ differs is_number x y
    → i < l
    → p || r ≡ true
    → Other l (blended_once alpha f)
other_more alpha f i l h a b e m =
    let average = blended_once alpha f in
    let seed = carried_seed nan (blend alpha) 1 (f 1) f in
    or_under (λ j. differs is_number (average 1) (average j)) i l h (e ∙ rw (a, b, seed)) m

-- the cell of `jv` at a later bar
pub jv_later : (power : Float) (f : Line) (i : ℕ) {last x y : Float} → y ≡ jv_of power last x → last ≡ f (i - 1)
    → x ≡ f i → 2 ≤ i
    → y ≡ jv power f i
unfolding jv
jv_later power f i e p q h = rw (e, p, q, from_bar_lem 2 plus_zero (λ j. jv_of power (f (j - 1)) (f j)) i h)

-- ---- averages from bar 1 on

price_change_begin : (f : Line) → is_number (price_change f 0) ≡ false
unfolding price_change is_nan
price_change_begin f = rw (before_bar 1 nan _ 0 (omega arith))

blended_begin : (alpha : Float) (f : Line) → is_number (blended_once alpha f 0) ≡ false
unfolding carried is_nan
blended_begin alpha f = rw (before_bar 1 nan _ 0 (omega arith))

module _ (l : ℕ) (h : 1 < l) (f : Line) (begin : is_number (f 0) ≡ false) (number : is_number (f 1) ≡ true) where
  first_number : 1 ≡ first_bar (λ j. is_number (f j)) l
  first_number = sym (first_bar_found (λ j. is_number (f j)) 1 l none number h)
    where
      none : (j : ℕ) → j < 1 → is_number (f j) ≡ false
      none zero m = begin
      none (suc j) m = absurd (omega arith)

  -- the pass averages
  not_all_same : Other l f → all_same is_number l f ≡ false
  not_all_same o =
      let here = differing_is is_number l f first_number in
      lt-leb l _ (rw here at o)

  -- and these are its cells
  smooth1_is : (alpha : Float) (i : ℕ) → i < l → blended_once alpha f i ≡ averaged is_number nan alpha f i
  smooth1_is alpha = averaged_is is_number nan alpha l f 1 first_number

module _ (l n : ℕ) (f : Line) (start : Started l (price_change f)) where
  abbrev alpha : Float
  alpha = ema_alpha (n / 2)

  abbrev average : Line
  average = blended_once alpha (price_change f)

  average_is : (i : ℕ) → i < l → average i ≡ smooth1 false n f i
  unfolding smooth1
  average_is = smooth1_is l start.bars (price_change f) (price_change_begin f) start.number alpha

  average_number : is_number (average 1) ≡ true
  average_number = rw (carried_seed nan (blend alpha) 1 (price_change f 1) (price_change f)) start.number

  smooth2_is : (i : ℕ) → i < l → blended_twice alpha (price_change f) i ≡ smooth2 false false n f i
  unfolding smooth2
  smooth2_is i h =
      smooth1_is l start.bars average (blended_begin alpha (price_change f)) average_number alpha i h
      ∙ local_causal l (causal_averaged is_number nan alpha) average (smooth1 false n f) average_is i h

  -- `jv` of both averages
  pub jv_averages : (power : Float) {old now : List Float}
      → Writing l (jv power (blended_twice alpha (price_change f))) old now
      → Writing l (jv power (smooth2 false false n f)) old now
  jv_averages power w =
      let twice = blended_twice alpha (price_change f) in
      writing_same w (local_causal l (causal_jv power) twice (smooth2 false false n f) smooth2_is)

  -- each pass averages where another number differs
  first_averages : Other l (price_change f) → all_same is_number l (price_change f) ≡ false
  first_averages = not_all_same l start.bars (price_change f) (price_change_begin f) start.number

  second_averages : Other l average → all_same is_number l (smooth1 false n f) ≡ false
  second_averages o =
      rw (← differing_same is_number l average (smooth1 false n f) average_is)
      (not_all_same l start.bars average (blended_begin alpha (price_change f)) average_number o)

pub both_average : (l n : ℕ) (f : Line) → Differing l (price_change f)
    → {r : Bool} {power : Float} {old now : List Float}
    → JvWritten r l (ema_alpha (n / 2)) power (price_change f) old now
    → BothAverage r n l power f old now
both_average l n f d {power = power} w =
    record {
      used = touched w.cells;
      cells = λ e. jv_averages l n f d.start power w.cells;
      first = λ e. first_averages l n f d.start d.other;
      second = λ e. second_averages l n f d.start (w.other e);
    }

-- one of them does not
pub none_average : {n l : ℕ} {power : Float} {f : Line} {old : List Float} → BothAverage false n l power f old old
none_average =
    record {
      used = untouched;
      cells = λ e. absurd (true≢false (sym e));
      first = λ e. absurd (true≢false (sym e));
      second = λ e. absurd (true≢false (sym e));
    }

-- ---- the line, where both average

pub averages_then : (l n : ℕ) (power : Float) (f : Line) → all_same is_number l (price_change f) ≡ false
    → all_same is_number l (smooth1 false n f) ≡ false
    → (i : ℕ) → tested non_zero plus_zero (ema_alpha (n / 3)) l (jv power (smooth2 false false n f)) i
    ≡ jurik_line l n power f i
unfolding jurik_line jurik_with
averages_then l n power f p q i = rw (p, q)
