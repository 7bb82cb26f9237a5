-- Lines that are NaN at every bar. The warm-up of an average stays in the smoother's feedback. Assumes nothing.
use Rattle.std.specs.Prelude.{◌≡◌, List, ℕ, ◌<◌, ◌≤◌, get_or, Float, Ok, Option}
use Rattle.std.proofs.Common.{sym, ◌∙◌, arith}
use Rattle.std.specs.Float.{nan}
use Rattle.cells.specs.Line.{line, plus_zero}
use Rattle.calls.proofs.Cells.{cell_at}
use Rattle.bands.specs.Bands.{UltimateBandsCall}
use Rattle.bands.proofs.Call.{bands_bars, bands_ready}
use Rattle.bands.proofs.Lines.{nan_bands}
use Rattle.channel.specs.Channel.{ChannelCall}
use Rattle.channel.proofs.Stages.{channel_bars, channel_ready, nan_outer}

-- With period 5 or more, both outer lines of the channel are NaN at every bar, whatever the close before bar 0.
pub channel_outer_lines_nan : (high low close : List Float) (n : ℕ) (k : Float) (first : Option Float)
    {middle₀ upper₀ lower₀ work₀ middle₁ upper₁ lower₁ work₁ : List Float} {count : ℕ}
    → ChannelCall high low close n k first middle₀ upper₀ lower₀ work₀ (Ok count) middle₁ upper₁ lower₁ work₁
    → 5 ≤ n → (i : ℕ) → i < count → (get_or upper₁ i plus_zero ≡ nan) × (get_or lower₁ i plus_zero ≡ nan)
channel_outer_lines_nan high low close n k first c h i l =
    let bars = channel_bars high low close n k first _ _ _ _ _ (sym c.upper.answer) (omega arith) in
    let room = (channel_ready high low close n k first _ _ _ _ c.upper.answer (omega arith)).0.out_long in
    let outer = nan_outer n first (line high) (line low) (line close) h k i in
    (cell_at plus_zero c.upper (omega arith) i l ∙ outer.0, cell_at plus_zero c.lower (omega arith) i l ∙ outer.1)

-- With period 5 or more, both outer lines of the bands are NaN at every bar.
pub bands_outer_lines_nan : (s : List Float) (n : ℕ) (k : Float) (m : ℕ)
    {middle₀ upper₀ lower₀ work₀ middle₁ upper₁ lower₁ work₁ : List Float} {count : ℕ}
    → UltimateBandsCall s n k m middle₀ upper₀ lower₀ work₀ (Ok count) middle₁ upper₁ lower₁ work₁
    → 5 ≤ n → (i : ℕ) → i < count → (get_or upper₁ i plus_zero ≡ nan) × (get_or lower₁ i plus_zero ≡ nan)
bands_outer_lines_nan s n k m c h i l =
    let bars = bands_bars s n k m _ _ _ _ _ (sym c.upper.answer) (omega arith) in
    let room = (bands_ready s n k m _ _ _ _ c.upper.answer (omega arith)).0 in
    let outer = nan_bands n k m (line s) h i in
    (cell_at plus_zero c.upper (omega arith) i l ∙ outer.0, cell_at plus_zero c.lower (omega arith) i l ∙ outer.1)
