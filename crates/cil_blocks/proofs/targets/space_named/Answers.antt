use Rattle.std.proofs.Common.{rules}
use Rattle.cil_blocks.proofs.PathLemmas.{at_end, leads_nowhere, one_further}
use Rattle.cil_blocks.proofs.targets.space_named.Goals as goal

pub returns-in_err-space : goal.returns-in_err-space
returns-in_err-space c =
    let none = leads_nowhere c.args.namespaces.now c.requires.once c.args.from c.args.path.now c.loop-parts.space c.loop-parts.rest.now c.loop-parts.invariant
    c.in-Some.parts.first.now c.in-Some.parts.rest.now c.in-Some.ensures c.in_err-space.ensures in
    search (rules, none)

pub loop-parts-preserved : goal.loop-parts-preserved
loop-parts-preserved c =
    one_further c.args.namespaces.now c.requires.once c.args.from c.args.path.now c.loop-parts.space c.loop-parts.rest.now c.loop-parts.invariant
    c.in-Some.parts.first.now c.in-Some.parts.rest.now c.in-Some.ensures c.in_ok-space.space c.in_ok-space.ensures

pub returns : goal.returns
returns c =
    at_end c.args.namespaces.now c.requires.once c.args.from c.args.path.now c.loop-parts.space c.loop-parts.rest.now c.loop-parts.invariant c.child-2.result c.in_default.ensures c.child-2.ensures
