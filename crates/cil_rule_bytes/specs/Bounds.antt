-- What a reader is handed of the sections before, as the formats see it. No other crate needs this word.
use Rattle.cil_rule_bytes.specs.declared.bounds.Bounds.{Bounds}
use Rattle.cil_rule_bytes.specs.Layout.{Limits}

abbrev pub limits_of : Bounds → Limits
limits_of b = record { types = b.types; booleans = b.booleans; widths = b.widths.now }
