-- The numbers of what keeps a query from its answer. This project's profile.
use Rattle.std.specs.Prelude.{ℕ}
use Rattle.cil_host.specs.declared.fault.QueryFault.{QueryFault}
use Rattle.cil_host.specs.declared.fault.QueryFault.TheVariants.{NoPolicy, BadSource, BadTarget, NoClass, NoPermission, NoBoolean}

-- the number of a fault; a bad source and a bad target share theirs
abbrev pub number_of : QueryFault → ℕ
number_of NoPolicy = 71
number_of BadSource = 72
number_of BadTarget = 72
number_of NoClass = 73
number_of NoPermission = 74
number_of NoBoolean = 75
