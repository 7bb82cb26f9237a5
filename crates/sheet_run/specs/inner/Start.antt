-- What is carried before the first turn. Assumes nothing.
use Rattle.std.specs.Prelude.{true}
use Rattle.sheet_requests.specs.inner.Place.{beginning}
use Rattle.sheet_run.specs.declared.input.Input.TheVariants.{Bytes}
use Rattle.sheet_run.specs.declared.carried.Carried.{Carried}

-- before the first turn
abbrev pub start : Carried
start =
    record {
      place = record { sheet = beginning; at = 0; filled = 0 };
      end = 0;
      input = Bytes 0;
      output = record { bytes = 0; taken = true };
    }
