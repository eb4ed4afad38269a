use Rattle.std.proofs.Common.{sym, ap, ◌∙◌, subst}
use Rattle.cil_attrs.specs.declared.giver.SpaceKinds.{SpaceKinds}
use Rattle.cil_attrs.specs.Laws.{IsSpace}
use Rattle.cil_attrs.specs.Members.{IsIn}
use Rattle.cil_attrs.specs.SetFaults.{limit_of}
use Rattle.cil_attrs.proofs.checked.members.Goals as goal

pub members_of-requires-clause-space : goal.members_of-requires-clause-space
members_of-requires-clause-space g c =
    let laws = g.met.S.Space in
    let space : IsSpace g.S.Space.kinds g.S.Space.sign = record { whole = laws.whole; wanted = laws.wanted; written = laws.written; numbered = laws.numbered } in
    subst (λ r. IsSpace r c.sign.result) (sym c.kinds-space.ensures) (subst (IsSpace g.S.Space.kinds) (sym c.sign.ensures) space)

pub members_of-requires-clause-limit : goal.members_of-requires-clause-limit
members_of-requires-clause-limit g c = ap (λ (r : SpaceKinds). limit_of r.item) c.kinds-space.ensures ∙ c.limit.ensures

pub members_of-requires-clause-known : goal.members_of-requires-clause-known
members_of-requires-clause-known g c =
    let (sections, which, policy) = c.requires.known in
    (sections, which, subst (λ r. IsIn c.args.known.now c.args.instances.now r c.args.names.now sections which) (sym c.kinds-space.ensures) policy)

pub returns : goal.returns
returns g c = λ sections which policy.
    c.members_of.ensures sections which (subst (λ r. IsIn c.args.known.now c.args.instances.now r c.args.names.now sections which) (sym c.kinds-space.ensures) policy)
