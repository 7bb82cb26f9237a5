-- `has_feed` meets its contract: the bytes contain a line feed. Assumes nothing.
use mathlib.Core.Path.{◌≡◌, refl, ◌∙◌}
use mathlib.Core.Bool.{Bool, true, false, not, ◌&&◌, ◌||◌}
use mathlib.Core.List.{List, [], ◌∷◌}
use Prim.Native.Nat.{ℕ}
use lib.Dec.{eqb}
use Rattle.std.specs.List.{list_any}
use Rattle.sheet_lines.specs.Reason.{no_feed}
use Rattle.sheet_lines.proofs.reasons.has_feed.Goals as goal

any_feed : (bytes : List ℕ) → list_any (λ b. eqb b 10) bytes ≡ not (no_feed bytes)
any_feed [] = refl
any_feed (b ∷ rest) = rw (any_feed rest) (go (eqb b 10))
  where
    go : (t : Bool) → t || not (no_feed rest) ≡ not (not t && no_feed rest)
    go true = refl
    go false = refl

pub returns : goal.returns
returns c = c.contains.ensures.value ∙ any_feed c.args.bytes.now
