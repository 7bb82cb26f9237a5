-- What specs/NoLookAhead.antt speaks of, for each function. Assumes nothing.
use Rattle.std.specs.Prelude.{◌≡◌, Bool, ℕ, ◌≤◌, ℤ, pos, length, Float, Ok, Option}
use Rattle.std.proofs.Common.{sym, ◌∙◌, arith}
use mathlib.Core.List.{List, [], ◌∷◌}
use Rattle.std.specs.Float.Ieee.{nan}
use Rattle.values.specs.Accepted.{accepted, tick}
use Rattle.cells.specs.Line.{Line, line, Causal}
use Rattle.calls.specs.Answer.{Answer, and_then, checked, answered, answered_with}
use Rattle.calls.specs.Call.{Call}
use Rattle.calls.proofs.Room.{EachWindow, room, opened}
use Rattle.calls.proofs.Cells.{cell_at, room_after, no_look_ahead}
use Rattle.checks.proofs.Passed.{three_passed}
use Rattle.averages.specs.Sma.{SmaCall}
use Rattle.averages.proofs.Causal.{causal_sma}
use Rattle.averages.specs.Ema.{EmaCall}
use Rattle.averages.specs.ExponentialSmoothing.{exponential_answer, ExponentialSmoothingCall}
use Rattle.averages.proofs.CausalExponential.{causal_ema, causal_exponential}
use Rattle.averages_ticks.specs.TickMean.{TickMeanCall}
use Rattle.averages_ticks.proofs.Causal.{causal_tick_mean}
use Rattle.smoother_table.specs.Coefficients.{coefficients}
use Rattle.smoother_table.specs.Period.{whole_part}
use Rattle.smoother.specs.Smoother.{smoother_answer, UltimateSmootherCall}
use Rattle.smoother.proofs.Smoother.{causal_smooth}
use Rattle.true_range.specs.TrueRange.{TrueRangeCall}
use Rattle.true_range.proofs.TrueRange.{Causal₃, causal_given, causal_ranges, range_ready}
use Rattle.oscillator.specs.Oscillator.{oscillator_answer, OscillatorCall}
use Rattle.oscillator.proofs.Oscillator.{causal_oscillator}
use Rattle.rules_single.specs.Single.{SingleCall}
use Rattle.rules_single.proofs.Single.{causal_single}
use Rattle.rules_double.specs.Double.{double_answer, DoubleCall}
use Rattle.rules_double.proofs.Double.{causal_double}
use Rattle.rules_double.proofs.Open.{double_opened}
use Rattle.rules_double_ranges.specs.Ranges.{RangesCall}
use Rattle.rules_double_ranges.proofs.Meaning.{causal_double_ranges}
use Rattle.rules_double_ranges.proofs.Open.{ranges_opened}
use Rattle.rules_middle.specs.Middle.{MidCall}
use Rattle.rules_middle.proofs.Middle.{causal_mid}
use Rattle.averages_wilder.proofs.Causal.{causal_wilder_rsi}
use Rattle.averages_wilder.specs.WilderRsi.{WilderRsiCall}
use Rattle.holt_winters.proofs.Causal.{causal_holt_winters}
use Rattle.holt_winters.specs.HoltWinters.{HoltWintersCall, weights, holt_winters_answer}
use Rattle.rsx.proofs.Causal.{causal_rsx}
use Rattle.rsx.specs.Rsx.{RsxCall, rsx_answer}
use Rattle.bands.proofs.Call.{bands_ready}
use Rattle.bands.proofs.Lines.{causal_bands_middle, causal_bands_upper, causal_bands_lower}
use Rattle.bands.specs.Bands.{UltimateBandsCall}
use Rattle.channel.proofs.Causal.{causal_channel_middle, causal_channel_upper, causal_channel_lower}
use Rattle.channel.proofs.Stages.{channel_ready}
use Rattle.channel.specs.Channel.{ChannelCall}
use Rattle.rules_bands.proofs.Bands.{causal_boll, causal_boll_reverse}
use Rattle.rules_bands.specs.Boll.{BollCall}
use Rattle.rules_bands.specs.BollReverse.{BollReverseCall}
use Rattle.rules_mms.proofs.Scaled.{causal_mms}
use Rattle.rules_mms.specs.Mms.{MmsCall}
use Rattle.rules_rank.proofs.Causal.{causal_rank}
use Rattle.rules_rank.specs.Rank.{RankCall}
use Rattle.rules_rank.proofs.CausalRolling.{causal_rolling_rank}
use Rattle.rules_rank.specs.RollingRank.{RollingRankCall, rolling_rank_answer}
use Rattle.rules_rank_table.proofs.Causal.{causal_rank_table}
use Rattle.rules_rank_table.proofs.Open.{rank_table_opened}
use Rattle.rules_rank_table.specs.RankTable.{RankTableCall, rank_table_answer}
use Rattle.rules_rank_table.specs.Table.{rows_read}
use Rattle.rules_rsi.proofs.Index.{causal_rsi_reverse}
use Rattle.rules_rsi.specs.RsiReverse.{RsiReverseCall}
use Rattle.rules_triple.proofs.Crossover.{causal_triple}
use Rattle.rules_tanh.proofs.Cells.{causal_tanh}
use Rattle.rules_tanh.specs.Tanh.{TanhCall}
use Rattle.rules_triple.specs.Triple.{TripleCall, triple_answer}
use Rattle.guarantees.specs.NoLookAhead.{EqualBars, EqualCells}

-- ---- the law, for calls of one series

module _ {A : Type 0} (d : A) {F : Line → ℕ → A} (ok : Float → Bool) {s t : List Float} {b : ℕ}
    (equal : EqualBars s t b)
    {out₀ out₁ out₀' out₁' : List A} where
  -- whatever follows the checks
  table_agrees : (work work' : List ℕ) (next next' : Answer) → Causal F
      → Call (and_then (checked ok (s ∷ []) (length out₀ ∷ []) work) next) (F (line s)) out₀ (Ok (length s)) out₁
      → Call (and_then (checked ok (t ∷ []) (length out₀' ∷ []) work') next') (F (line t)) out₀' (Ok (length t))
      out₁'
      → EqualCells d out₁ out₁' b
  table_agrees work work' next next' causal c c' =
      no_look_ahead d causal (line s) (line t) b equal.same
      c (equal.left, (room_after ok s (length out₀) work next (length s) (sym c.answer)).out_long)
      c' (equal.right, (room_after ok t (length out₀') work' next' (length t) (sym c'.answer)).out_long)

  -- with windows, which are open where there are cells
  windows_agree : (windows work work' : List ℕ) → (EachWindow windows → Causal F)
      → Call (answered ok s windows (length out₀) work) (F (line s)) out₀ (Ok (length s)) out₁
      → Call (answered ok t windows (length out₀') work') (F (line t)) out₀' (Ok (length t)) out₁'
      → EqualCells d out₁ out₁' b
  windows_agree windows work work' causal c c' =
      let e = sym c.answer in
      let l = equal.left in
      let each = (opened ok s windows (length out₀) work (length s) e (omega arith)).each in
      no_look_ahead d (causal each) (line s) (line t) b equal.same
      c (equal.left, (room ok s windows (length out₀) work (length s) e).out_long)
      c' (equal.right, (room ok t windows (length out₀') work' (length t) (sym c'.answer)).out_long)

-- ---- the statements

module _ {s t out₀ out₁ out₀' out₁' : List Float} {b : ℕ} (equal : EqualBars s t b) where
  -- the averages
  pub sma_no_look_ahead : (n : ℕ) → SmaCall s n out₀ (Ok (length s)) out₁
      → SmaCall t n out₀' (Ok (length t)) out₁'
      → EqualCells nan out₁ out₁' b
  sma_no_look_ahead n = windows_agree nan accepted equal (n ∷ []) [] [] (λ w. causal_sma n w.0.some)

  pub ema_no_look_ahead : (n : ℕ) → EmaCall s n out₀ (Ok (length s)) out₁
      → EmaCall t n out₀' (Ok (length t)) out₁'
      → EqualCells nan out₁ out₁' b
  ema_no_look_ahead n = windows_agree nan accepted equal (n ∷ []) [] [] (λ w. causal_ema n)

  pub exponential_smoothing_no_look_ahead : (alpha : Float)
      → ExponentialSmoothingCall s alpha out₀ (Ok (length s)) out₁
      → ExponentialSmoothingCall t alpha out₀' (Ok (length t)) out₁' → EqualCells nan out₁ out₁' b
  unfolding exponential_answer
  exponential_smoothing_no_look_ahead alpha = table_agrees nan accepted equal [] [] _ _ (causal_exponential alpha)

  -- the smoother, for every period
  pub ultimate_smoother_no_look_ahead : (period : Float) → UltimateSmootherCall s period out₀ (Ok (length s)) out₁
      → UltimateSmootherCall t period out₀' (Ok (length t)) out₁' → EqualCells nan out₁ out₁' b
  unfolding smoother_answer
  ultimate_smoother_no_look_ahead period =
      table_agrees nan accepted equal [] [] _ _ (causal_smooth (coefficients (whole_part period)))

  -- the rules of the sheet
  pub double_no_look_ahead : (n m : ℕ) → DoubleCall s n m out₀ (Ok (length s)) out₁
      → DoubleCall t n m out₀' (Ok (length t)) out₁'
      → EqualCells nan out₁ out₁' b
  unfolding double_answer
  double_no_look_ahead n m c c' =
      let l = equal.left in
      let o = double_opened s n m (length out₀) (length s) (sym c.answer) (omega arith) in
      table_agrees nan accepted equal [] [] _ _ (causal_double n m o.short.some o.order) c c'

  module _ {work₀ work₁ work₀' work₁' : List Float} where
    pub single_no_look_ahead : (n : ℕ) → SingleCall s n out₀ work₀ (Ok (length s)) out₁ work₁
        → SingleCall t n out₀' work₀' (Ok (length t)) out₁' work₁' → EqualCells nan out₁ out₁' b
    single_no_look_ahead n c c' = windows_agree nan accepted equal (n ∷ []) _ _ (λ w. causal_single n) c.call
        c'.call

    pub mid_no_look_ahead : (n : ℕ) → MidCall s n out₀ work₀ (Ok (length s)) out₁ work₁
        → MidCall t n out₀' work₀' (Ok (length t)) out₁' work₁' → EqualCells nan out₁ out₁' b
    mid_no_look_ahead n c c' =
        windows_agree nan accepted equal (n ∷ []) _ _ (λ w. causal_mid n w.0.some) c.call c'.call

-- the rules and series functions with a work slice
module _ {s t out₀ out₁ out₀' out₁' work₀ work₁ work₀' work₁' : List Float} {b : ℕ} (equal : EqualBars s t b) where
  pub mms_no_look_ahead : (n w : ℕ) → MmsCall s n w out₀ work₀ (Ok (length s)) out₁ work₁
      → MmsCall t n w out₀' work₀' (Ok (length t)) out₁' work₁' → EqualCells nan out₁ out₁' b
  mms_no_look_ahead n w c c' =
      windows_agree nan accepted equal (n ∷ w ∷ []) _ _ (λ o. causal_mms n w o.1.0.some) c.call c'.call

  pub tanh_no_look_ahead : (n : ℕ) → TanhCall s n out₀ work₀ (Ok (length s)) out₁ work₁
      → TanhCall t n out₀' work₀' (Ok (length t)) out₁' work₁' → EqualCells nan out₁ out₁' b
  tanh_no_look_ahead n c c' =
      windows_agree nan accepted equal (n ∷ []) _ _ (λ o. causal_tanh n) c.call c'.call

  pub rank_no_look_ahead : (n : ℕ) → RankCall s n out₀ work₀ (Ok (length s)) out₁ work₁
      → RankCall t n out₀' work₀' (Ok (length t)) out₁' work₁' → EqualCells nan out₁ out₁' b
  rank_no_look_ahead n c c' =
      windows_agree nan accepted equal (n ∷ []) _ _ (λ o. causal_rank n o.0.some) c.call c'.call

  pub wilder_rsi_no_look_ahead : (n : ℕ) → WilderRsiCall s n out₀ work₀ (Ok (length s)) out₁ work₁
      → WilderRsiCall t n out₀' work₀' (Ok (length t)) out₁' work₁' → EqualCells nan out₁ out₁' b
  wilder_rsi_no_look_ahead n c c' =
      windows_agree nan accepted equal (n ∷ []) _ _ (λ o. causal_wilder_rsi n) c.call c'.call

  pub rsx_no_look_ahead : (n m : ℕ) → RsxCall s n m out₀ work₀ (Ok (length s)) out₁ work₁
      → RsxCall t n m out₀' work₀' (Ok (length t)) out₁' work₁' → EqualCells nan out₁ out₁' b
  unfolding rsx_answer
  rsx_no_look_ahead n m c c' = table_agrees nan accepted equal _ _ _ _ (causal_rsx n m) c.call c'.call

  -- at every bar: a cell of the first season is its own price, so nothing after it is read
  pub holt_winters_no_look_ahead : (m : ℕ) (alpha beta gamma : Float)
      → HoltWintersCall s m alpha beta gamma out₀ work₀ (Ok (length s)) out₁ work₁
      → HoltWintersCall t m alpha beta gamma out₀' work₀' (Ok (length t)) out₁' work₁' → EqualCells nan out₁ out₁' b
  unfolding holt_winters_answer
  holt_winters_no_look_ahead m alpha beta gamma c c' =
      table_agrees nan accepted equal _ _ _ _ (causal_holt_winters m (weights alpha beta gamma)) c.call c'.call

-- the bands, in each of their three outputs
module _ {s t middle₀ upper₀ lower₀ work₀ middle₁ upper₁ lower₁ work₁ : List Float}
    {middle₀' upper₀' lower₀' work₀' middle₁' upper₁' lower₁' work₁' : List Float} {b : ℕ} (equal : EqualBars s t b)
  where
    pub bands_no_look_ahead : (n : ℕ) (k : Float) (m : ℕ)
        → UltimateBandsCall s n k m middle₀ upper₀ lower₀ work₀ (Ok (length s)) middle₁ upper₁ lower₁ work₁
        → UltimateBandsCall t n k m middle₀' upper₀' lower₀' work₀' (Ok (length t)) middle₁' upper₁' lower₁' work₁'
        → EqualCells nan middle₁ middle₁' b × EqualCells nan upper₁ upper₁' b × EqualCells nan lower₁ lower₁' b
    bands_no_look_ahead n k m c c' =
        let p = equal.left in
        let q = equal.right in
        let same = equal.same in
        let room = (bands_ready s n k m _ _ _ _ c.middle.answer (omega arith)).0 in
        let room' = (bands_ready t n k m _ _ _ _ c'.middle.answer (omega arith)).0 in (
          no_look_ahead nan (causal_bands_middle n) (line s) (line t) b same c.middle (omega arith) c'.middle
              (omega arith),
          no_look_ahead nan (causal_bands_upper n k m) (line s) (line t) b same c.upper (omega arith) c'.upper
              (omega arith),
          no_look_ahead nan (causal_bands_lower n k m) (line s) (line t) b same c.lower (omega arith) c'.lower
              (omega arith),
        )

-- those whose cells are whole numbers
module _ {s t : List Float} {out₀ out₁ out₀' out₁' : List ℤ} {work₀ work₁ work₀' work₁' : List Float} {b : ℕ}
    (equal : EqualBars s t b) where
  pub triple_no_look_ahead : (m1 m2 m3 : ℕ) → TripleCall s m1 m2 m3 out₀ work₀ (Ok (length s)) out₁ work₁
      → TripleCall t m1 m2 m3 out₀' work₀' (Ok (length t)) out₁' work₁' → EqualCells (pos 0) out₁ out₁' b
  unfolding triple_answer
  triple_no_look_ahead m1 m2 m3 c c' =
      table_agrees (pos 0) accepted equal _ _ _ _ (causal_triple m1 m2 m3) c.call c'.call

  pub boll_no_look_ahead : (n : ℕ) (k : Float) → BollCall s n k out₀ work₀ (Ok (length s)) out₁ work₁
      → BollCall t n k out₀' work₀' (Ok (length t)) out₁' work₁' → EqualCells (pos 0) out₁ out₁' b
  unfolding answered_with
  boll_no_look_ahead n k c c' =
      table_agrees (pos 0) accepted equal (length work₀ ∷ []) (length work₀' ∷ []) _ _
      (causal_boll n k) c.call c'.call

  pub boll_reverse_no_look_ahead : (n : ℕ) (k : Float) → BollReverseCall s n k out₀ work₀ (Ok (length s)) out₁ work₁
      → BollReverseCall t n k out₀' work₀' (Ok (length t)) out₁' work₁' → EqualCells (pos 0) out₁ out₁' b
  unfolding answered_with
  boll_reverse_no_look_ahead n k c c' =
      table_agrees (pos 0) accepted equal (length work₀ ∷ []) (length work₀' ∷ []) _ _
      (causal_boll_reverse n k) c.call c'.call

  pub rsi_reverse_no_look_ahead : (n : ℕ) (upper lower exit : Float)
      → RsiReverseCall s n upper lower exit out₀ work₀ (Ok (length s)) out₁ work₁
      → RsiReverseCall t n upper lower exit out₀' work₀' (Ok (length t)) out₁' work₁'
      → EqualCells (pos 0) out₁ out₁' b
  unfolding answered_with
  rsi_reverse_no_look_ahead n upper lower exit c c' =
      table_agrees (pos 0) accepted equal (length work₀ ∷ []) (length work₀' ∷ []) _ _
      (causal_rsi_reverse n upper lower exit) c.call c'.call

-- the rank table: the rows read are equal; the rest of the slices, and their lengths, may differ
pub rank_table_no_look_ahead : {s t : List Float} {out₀ out₁ out₀' out₁' : List ℤ}
    {work₀ work₁ work₀' work₁' : List Float} {b : ℕ}
    → EqualBars s t b → (n : ℕ) (table table' : List ℤ) → rows_read table ≡ rows_read table'
    → RankTableCall s n table out₀ work₀ (Ok (length s)) out₁ work₁
    → RankTableCall t n table' out₀' work₀' (Ok (length t)) out₁' work₁' → EqualCells (pos 0) out₁ out₁' b
unfolding rank_table_answer
rank_table_no_look_ahead {s = s} {out₀ = out₀} {work₀ = work₀} equal n table table' rows c c' =
    let l = equal.left in
    let o = rank_table_opened s n table (length out₀) (length work₀) c.call.answer (omega arith) in
    table_agrees (pos 0) accepted equal _ _ _ _ (causal_rank_table (rows_read table) n o.window.some) c.call
    (rw (← rows) at c'.call)

pub rolling_rank_no_look_ahead : {s t : List Float} {out₀ out₁ out₀' out₁' : List ℕ}
    {work₀ work₁ work₀' work₁' : List Float} {b : ℕ}
    → EqualBars s t b → (w : ℕ) → RollingRankCall s w out₀ work₀ (Ok (length s)) out₁ work₁
    → RollingRankCall t w out₀' work₀' (Ok (length t)) out₁' work₁' → EqualCells 0 out₁ out₁' b
unfolding rolling_rank_answer
rolling_rank_no_look_ahead equal w c c' =
    table_agrees 0 accepted equal _ _ _ _ (causal_rolling_rank w) c.call c'.call

-- the tick mean
pub tick_mean_no_look_ahead : {s t : List Float} {out₀ out₁ out₀' out₁' : List ℤ} {b : ℕ} → EqualBars s t b → (n : ℕ)
    → TickMeanCall s n out₀ (Ok (length s)) out₁ → TickMeanCall t n out₀' (Ok (length t)) out₁'
    → EqualCells (pos 0) out₁ out₁' b
tick_mean_no_look_ahead equal n = windows_agree (pos 0) tick equal (n ∷ []) [] [] (λ w. causal_tick_mean n)

-- the rule on ranges, two series each with equal bars
pub ranges_no_look_ahead : {low high low' high' : List Float} {out₀ out₁ out₀' out₁' : List ℤ} {b : ℕ}
    → EqualBars low low' b → EqualBars high high' b → (n m : ℕ)
    → RangesCall low high n m out₀ (Ok (length low)) out₁
    → RangesCall low' high' n m out₀' (Ok (length low')) out₁'
    → EqualCells (pos 0) out₁ out₁' b
ranges_no_look_ahead {low} {high} {low'} {high'} {out₀} {out₀' = out₀'} p q n m c c' j l =
    let u = p.left in
    let v = p.right in
    let o = ranges_opened low high n m (length out₀) (length low) (sym c.answer) (omega arith) in
    let o' = ranges_opened low' high' n m (length out₀') (length low') (sym c'.answer) (omega arith) in
    cell_at (pos 0) c o.ranges.room j (omega arith)
    ∙ causal_double_ranges n m o.short.some o.order (line low) (line low') (line high) (line high') j
    (λ i a. p.same i (omega arith)) (λ i a. q.same i (omega arith))
    ∙ sym (cell_at (pos 0) c' o'.ranges.room j (omega arith))

-- ---- three series, each with equal bars

module _ {high low close high' low' close' : List Float} {b : ℕ} (h : EqualBars high high' b) (l : EqualBars low low' b)
    (e : EqualBars close close' b) {F : Line → Line → Line → Line} {due due' : Answer}
    {out₀ out₁ out₀' out₁' : List Float} where
  -- whatever is asked, where there is room for the cells
  three_agree : Causal₃ F → length high ≤ length out₀ → length high' ≤ length out₀'
      → Call due (F (line high) (line low) (line close)) out₀ (Ok (length high)) out₁
      → Call due' (F (line high') (line low') (line close')) out₀' (Ok (length high')) out₁'
      → EqualCells nan out₁ out₁' b
  three_agree causal room room' c c' j m =
      let p = h.left in
      let q = h.right in
      cell_at nan c room j (omega arith)
      ∙ causal _ _ _ _ _ _ j (λ i k. h.same i (omega arith)) (λ i k. l.same i (omega arith))
      (λ i k. e.same i (omega arith))
      ∙ sym (cell_at nan c' room' j (omega arith))

-- true range, of one close before bar 0, or of none
pub true_range_no_look_ahead : {high low before high' low' before' out₀ out₁ out₀' out₁' : List Float} {b : ℕ}
    → EqualBars high high' b → EqualBars low low' b → EqualBars before before' b → (first : Option Float)
    → TrueRangeCall high low before first out₀ (Ok (length high)) out₁
    → TrueRangeCall high' low' before' first out₀' (Ok (length high')) out₁'
    → EqualCells nan out₁ out₁' b
true_range_no_look_ahead h l e first c c' =
    let p = h.left in
    let q = h.right in
    let room = (range_ready _ _ _ first _ c.answer (omega arith)).0.out_long in
    let room' = (range_ready _ _ _ first _ c'.answer (omega arith)).0.out_long in
    three_agree h l e (causal_ranges (causal_given first)) room room' c c'

-- the channel, in each of its three outputs
module _ {high low close high' low' close' : List Float} {b : ℕ} (h : EqualBars high high' b) (l : EqualBars low low' b)
    (e : EqualBars close close' b)
    {middle₀ upper₀ lower₀ work₀ middle₁ upper₁ lower₁ work₁ : List Float}
    {middle₀' upper₀' lower₀' work₀' middle₁' upper₁' lower₁' work₁' : List Float} where
  pub channel_no_look_ahead : (n : ℕ) (k : Float) (first : Option Float)
      → ChannelCall high low close n k first middle₀ upper₀ lower₀ work₀ (Ok (length high))
      middle₁ upper₁ lower₁ work₁
      → ChannelCall high' low' close' n k first middle₀' upper₀' lower₀' work₀' (Ok (length high'))
      middle₁' upper₁' lower₁' work₁'
      → EqualCells nan middle₁ middle₁' b × EqualCells nan upper₁ upper₁' b × EqualCells nan lower₁ lower₁' b
  channel_no_look_ahead n k first c c' =
      let p = h.left in
      let q = h.right in
      let room = (channel_ready high low close n k first _ _ _ _ c.middle.answer (omega arith)).0.out_long in
      let room' = (channel_ready high' low' close' n k first _ _ _ _ c'.middle.answer (omega arith)).0.out_long in (
        three_agree h l e (causal_channel_middle n) (omega arith) (omega arith) c.middle c'.middle,
        three_agree h l e (causal_channel_upper n k first) (omega arith) (omega arith) c.upper c'.upper,
        three_agree h l e (causal_channel_lower n k first) (omega arith) (omega arith) c.lower c'.lower,
      )

-- the ultimate oscillator
pub ultimate_oscillator_no_look_ahead : {high low close high' low' close' out₀ out₁ out₀' out₁' work₀ work₁ work₀'
    work₁' : List Float} {b : ℕ}
    → EqualBars high high' b → EqualBars low low' b → EqualBars close close' b → (n m k : ℕ)
    (first : Option Float)
    → OscillatorCall high low close n m k first out₀ work₀ (Ok (length high)) out₁ work₁
    → OscillatorCall high' low' close' n m k first out₀' work₀' (Ok (length high')) out₁' work₁'
    → EqualCells nan out₁ out₁' b
unfolding oscillator_answer
ultimate_oscillator_no_look_ahead h l e n m k first c c' =
    let p = h.left in
    let q = h.right in
    let room = (three_passed _ _ _ _ _ _ c.call.answer (omega arith)).0.out_long in
    let room' = (three_passed _ _ _ _ _ _ c'.call.answer (omega arith)).0.out_long in
    three_agree h l e (causal_oscillator n m k first) room room' c.call c'.call
