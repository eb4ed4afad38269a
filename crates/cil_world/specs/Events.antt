-- Events of hosts. This project's profile.
use Rattle.std.specs.Prelude.{ℕ, Bool, true, false}
use Rattle.cil_world.specs.declared.event.Event.{Event}
use Rattle.cil_world.specs.declared.event.Event.TheVariants.{Install, Export, Deliver, Load, Set, Ask, Restart}

-- the host to which it happens
abbrev pub host_of : Event → ℕ
host_of (Install h text) = h
host_of (Export h) = h
host_of (Deliver k h) = h
host_of (Load h) = h
host_of (Set h name value) = h
host_of (Ask h source target class_name) = h
host_of (Restart h) = h

-- each export has a number, whether it is answered or not
abbrev pub is_export : Event → Bool
is_export (Export h) = true
is_export (Install h text) = false
is_export (Deliver k h) = false
is_export (Load h) = false
is_export (Set h name value) = false
is_export (Ask h source target class_name) = false
is_export (Restart h) = false
