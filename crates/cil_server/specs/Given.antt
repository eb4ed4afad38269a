-- What a writer has taken.
use Rattle.std.specs.Prelude.{◌≡◌, ℕ, ◌+◌, Bool, true, false, List, Option}
use Rattle.std.specs.Io.KnownBytes.{Appends}
use Rattle.cil_server.specs.Devices.{AppendsFront}

-- all of the bytes, or the first of them
abbrev pub Gives : Option (List ℕ) → Option (List ℕ) → List ℕ → Bool → Type 0
Gives old new bytes true = Appends old new bytes
Gives old new bytes false = AppendsFront old new bytes

-- one more call has failed, where not all bytes were taken
abbrev pub GivesCounted : ℕ → ℕ → Bool → Type 0
GivesCounted old new true = new ≡ old
GivesCounted old new false = new ≡ old + 1
