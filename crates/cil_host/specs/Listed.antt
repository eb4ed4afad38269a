-- How modules are listed. This project's profile.
use Rattle.std.specs.Prelude.{ℕ, List, length}
use Rattle.sha2.specs.Sha256.{sha256}
use Rattle.cil_host.specs.declared.listing.ListLine.{ListLine}

-- the digest of a text, and its length
abbrev pub line_of : List ℕ → ListLine
line_of text = record { digest = sha256 text; length = length text }
