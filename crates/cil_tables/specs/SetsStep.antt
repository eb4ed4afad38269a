-- What is wrong with the aliases, attributes, classes, booleans and orders of a policy: the faults of one step. This project's profile.
use Rattle.std.specs.Prelude.{◌⊎◌, List}
use Rattle.cil_faults.specs.declared.fault.Fault.{Fault}
use Rattle.cil_syntax.specs.declared.kind.Kind.TheVariants as kinds
use Rattle.cil_macros.specs.Item.{Item, OptSet}
use Rattle.cil_known.specs.Members.{space_of}
use Rattle.cil_level_rows.specs.attrs.SetFaults.{SetFault}
use Rattle.cil_classes.specs.Faults.{ClassFault}
use Rattle.cil_level_rows.specs.mls.OrderFaults.{OrderFault}
use Rattle.cil_tables.specs.Booleans.{HasManyBooleans}

-- the faults of aliases and attributes, and of how many items there are: of users, roles and types
abbrev pub MembersFault : OptSet → List Item → Fault → Type 0
MembersFault s xs f = SetFault xs s (space_of kinds.User) f ⊎ (SetFault xs s (space_of kinds.Role) f ⊎ SetFault xs s (space_of kinds.Type_) f)

abbrev pub SetsFault : OptSet → List Item → Fault → Type 0
SetsFault s xs f = ClassFault s xs f ⊎ (MembersFault s xs f ⊎ (HasManyBooleans s xs f ⊎ OrderFault xs s f))
