use Rattle.std.proofs.Common.{ap, length, subst, sym}
use Rattle.cil_attrs.specs.macros.Items.{items_in}
use Rattle.cil_attrs.specs.known.Known.{AreStanding}
use Rattle.cil_attrs.specs.known.Members.{space_of}
use Rattle.cil_attrs.specs.Members.{AreMembers}
use Rattle.cil_mls.proofs.item_order.order_by.Goals as goal

pub order_in-requires-clause-numbered : goal.order_in-requires-clause-numbered
order_in-requires-clause-numbered c =
    let (sections, known, named, are) = c.requires.members in
    let k = c.args.known.now in
    let xs = items_in c.args.instances.now in
    let stand = c.in_ok-standing.ensures k xs sections c.args.kind known c.requires.section (subst (AreMembers k xs sections (space_of c.args.kind)) (sym c.held.ensures) are) (ap length (sym named)) in
    (sections, record { known = known; named = named; standing = subst (AreStanding k xs sections c.args.kind) (sym c.as_slice.ensures.value) stand.0 })
