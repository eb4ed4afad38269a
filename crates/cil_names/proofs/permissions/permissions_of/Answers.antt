use Rattle.std.proofs.Common.{◌∙◌, subst}
use Rattle.cil_macros.specs.blocks.Namespaces.{AreNamespaces}
use Rattle.cil_macros.specs.Items.{items_in, namespaces_in}
use Rattle.cil_names.proofs.SharedLemmas.{are_apart, permissions_are}
use Rattle.cil_names.proofs.permissions.permissions_of.Goals as goal

pub with_commons-requires-clause-apart : goal.with_commons-requires-clause-apart
with_commons-requires-clause-apart c =
    let i = c.args.instances.now in
    are_apart (namespaces_in i) (subst AreNamespaces c.namespaces.ensures.value c.namespaces.ensures.once) (items_in i) c.args.names.now c.requires.entries c.args.shared.now c.requires.shared _ c.in_ok-own.ensures.len

pub returns-clause-len : goal.returns-clause-len
returns-clause-len c = c.in_ok-all.ensures.len ∙ c.in_ok-own.ensures.len

pub returns-clause-permissions : goal.returns-clause-permissions
returns-clause-permissions c =
    let i = c.args.instances.now in
    permissions_are (namespaces_in i) (subst AreNamespaces c.namespaces.ensures.value c.namespaces.ensures.once) (items_in i) c.args.names.now c.requires.entries c.args.shared.now c.requires.shared c.in_ok-own.own.items
    c.in_ok-all.all.items c.in_ok-own.ensures.own c.in_ok-all.ensures
