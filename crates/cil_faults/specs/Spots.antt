-- Positions in the modules.
use Rattle.std.specs.Prelude.{ℕ}
use Rattle.cil_faults.specs.declared.spot.Spot.{Spot}

-- a position of a module, by the number of bytes before it
abbrev pub spot_at : ℕ → ℕ → Spot
spot_at m at = record { «module» = m; at = at }
