-- What a reader is handed of the sections before, as the layout sees it. This project's profile.
use Rattle.cil_constraint_bytes.specs.declared.bounds.Bounds.{Bounds}
use Rattle.cil_constraint_bytes.specs.Layout.{Limits}

abbrev pub limits_of : Bounds → Limits
limits_of b = record { widths = b.widths.now; users = b.users; roles = b.roles; types = b.types; are_on = b.are_on }
