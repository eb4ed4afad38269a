use Rattle.cil_decide.proofs.ContextParts.{none_all, none_first, none_more, one_found}
use Rattle.cil_decide.proofs.context.by_alias.Goals as goal

pub aliases_named-alias-items-requires : goal.aliases_named-alias-items-requires
aliases_named-alias-items-requires c = rw c.type_aliases-aliases.ensures.aliases c.type_aliases-aliases.ensures.orderly.type_aliases

pub loop-alias-init : goal.loop-alias-init
loop-alias-init c = none_first c.args.tables.now c.args.names.now.role.now c.args.names.now.kind.now c.args.bearer.now c.aliases_named-alias-items.result.now

pub loop-alias-preserved : goal.loop-alias-preserved
loop-alias-preserved c =
    none_more c.args.tables.now c.args.names.now.role.now c.args.names.now.kind.now c.args.bearer.now c.aliases_named-alias-items.result.now c.loop-alias.alias-index c.alias-item.result
    c.loop-alias-test.true c.alias-item.is c.loop-alias.invariant c.in_default.ensures

pub returns-in-Some : goal.returns-in-Some
returns-in-Some c =
    one_found c.args.tables.now c.args.names.now.role.now c.args.names.now.kind.now c.args.bearer.now c.type_aliases-aliases.result.now c.aliases_named-alias-items.result.now c.loop-alias.alias-index c.alias-item.result
    c.loop-alias-test.true c.alias-item.is c.type_aliases-aliases.ensures.aliases c.aliases_named-alias-items.ensures c.in-Some.context c.in-Some.ensures

pub returns : goal.returns
returns c =
    none_all c.args.tables.now c.args.names.now.role.now c.args.names.now.kind.now c.args.bearer.now c.type_aliases-aliases.result.now c.aliases_named-alias-items.result.now c.loop-alias.alias-index c.loop-alias-test.false
    c.type_aliases-aliases.ensures.aliases c.aliases_named-alias-items.ensures c.loop-alias.invariant
