-- What tables are told by: the length of their bytes, and the digest.
use Rattle.std.specs.Prelude.{ℕ, List, length}
use Rattle.sha2.specs.Sha256.{sha256}
use Rattle.cil_table_bytes.specs.declared.measuring.Measured.{Measured}

abbrev pub measured : List ℕ → Measured
measured bytes = record { length = length bytes; digest = sha256 bytes }
