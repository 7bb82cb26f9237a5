-- The channel's lines have no look-ahead. Assumes nothing.
use Prim.Native.Nat.{ℕ, ◌-◌, ◌/◌}
use native.Mathlib.Omega.{arith}
use lib.Ieee.{Float}
use Rattle.std.specs.Prelude.{Option}
use Rattle.true_range.proofs.TrueRange.{Causal₃, causal₃-then, causal_close, causal_ranges}
use Rattle.averages_wilder.proofs.Causal.{causal_wilder}
use Rattle.smoother_table.specs.Coefficients.{coefficients}
use Rattle.smoother.proofs.Smoother.{causal_smooth}
use Rattle.outer_lines.specs.OuterLines.{upper_line, lower_line}
use Rattle.channel.specs.Channel.{average_range, channel_middle, channel_width, channel_upper, channel_lower}

module _ (n : ℕ) where
  causal_average : (first : Option Float) → Causal₃ (average_range n first)
  unfolding average_range
  causal_average first = causal₃-then (causal_ranges (causal_close first)) (causal_wilder n (n - 1) (omega arith))

  causal_width : (first : Option Float) → Causal₃ (channel_width n first)
  unfolding channel_width
  causal_width first = causal₃-then (causal_average first) (causal_smooth (coefficients (n / 2)))

  pub causal_channel_middle : Causal₃ (λ high low close. channel_middle n close)
  causal_channel_middle h h' l l' c c' b x y z = causal_smooth (coefficients n) c c' b z

  module _ (k : Float) (first : Option Float) where
    pub causal_channel_upper : Causal₃ (channel_upper n k first)
    unfolding upper_line
    causal_channel_upper h h' l l' c c' b x y z =
        rw (causal_channel_middle h h' l l' c c' b x y z, causal_width first h h' l l' c c' b x y z)

    pub causal_channel_lower : Causal₃ (channel_lower n k first)
    unfolding lower_line
    causal_channel_lower h h' l l' c c' b x y z =
        rw (causal_channel_middle h h' l l' c c' b x y z, causal_width first h h' l l' c c' b x y z)
