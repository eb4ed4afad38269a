use Rattle.std.specs.Prelude.{ℕ, List, take}
use Rattle.std.specs.List.Sorted.{IsStrictlySortedBy}
use Rattle.cil_syntax.specs.declared.kind.Kind.{Kind}
use Rattle.cil_macros.specs.Items.{items_in}
use Rattle.cil_known.specs.Known.{AreStanding, IsKnown, enabled_in}
use Rattle.cil_tables.specs.Links.{AreJoinedBy}
use Rattle.cil_tables.specs.Table.{link_cmp}
use Rattle.cil_tables.proofs.links.links_of.Given as goal

-- the links rise, and are those of the statements before this place
abbrev pub invariant-loop-at : goal.invariant-loop-at
invariant-loop-at l =
    IsStrictlySortedBy link_cmp l.links
    × ((names : Kind → List (List ℕ)) → IsKnown l.known (items_in l.instances) names → AreStanding l.known (items_in l.instances) names l.joins.holder_kind l.holders
    → AreStanding l.known (items_in l.instances) names l.joins.held_kind l.helds
    → AreJoinedBy (items_in l.instances) (enabled_in l.known) l.joins.keyword l.joins.holder_kind l.joins.held_kind (names l.joins.holder_kind) (names l.joins.held_kind) (take l.at (items_in l.instances)) l.links)
