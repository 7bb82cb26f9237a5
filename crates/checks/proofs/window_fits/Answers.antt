-- `window_fits` meets its contract: it is the five tests. Assumes nothing.
use mathlib.Core.Path.{refl}
use Rattle.calls.specs.inner.Fits.{window_fits}
use Rattle.checks.proofs.window_fits.Goals as goal

pub returns : goal.returns
returns c = unfold window_fits in refl
