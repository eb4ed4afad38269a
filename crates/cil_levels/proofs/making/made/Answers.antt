use Rattle.std.proofs.Common.{get_or, take}
use Rattle.std.proofs.lemmas.List.{get_or_default}
use Rattle.std.proofs.lemmas.List.Elements.{Contains-get_or}
use Rattle.cil_levels.specs.declared.definitions.Definition.{Definition}
use Rattle.cil_levels.proofs.MakingLemmas.{all_made, can_still, made_step, none_made}
use Rattle.cil_levels.proofs.making.made.Goals as goal

abbrev none : Definition
none = record { set = 0; at = 0 }

pub loop-definition-init : goal.loop-definition-init
loop-definition-init c = (none_made c.args.known.now c.args.instances.now c.args.count c.args.definitions.now c.args.begun.items, c.requires.few)

pub give-requires-clause-can : goal.give-requires-clause-can
give-requires-clause-can c =
    let all = c.args.definitions.now in
    let n = c.loop-definition.definition-index in
    can_still c.args.known.now c.args.instances.now c.args.count (take n all) c.args.begun.items c.loop-definition.helds.items c.loop-definition.invariant.0 (get_or all n none)
    (c.requires.can (get_or all n none) (Contains-get_or all n none c.loop-definition-test.true))

pub loop-definition-preserved : goal.loop-definition-preserved
loop-definition-preserved c =
    let all = c.args.definitions.now in
    let n = c.loop-definition.definition-index in
    let can =
    can_still c.args.known.now c.args.instances.now c.args.count (take n all) c.args.begun.items c.loop-definition.helds.items c.loop-definition.invariant.0 (get_or all n none)
    (c.requires.can (get_or all n none) (Contains-get_or all n none c.loop-definition-test.true)) in (
      made_step c.args.known.now c.args.instances.now c.args.count all c.requires.order n (get_or all n none) c.loop-definition-test.true (get_or_default all n none (get_or all n none) c.loop-definition-test.true) c.args.begun.items c.loop-definition.helds.items c.give.new.helds.items
          c.in_ok-give.ensures.given can.is_set c.loop-definition.invariant.0,
      c.in_ok-give.ensures.few,
    )

pub returns-clause-made : goal.returns-clause-made
returns-clause-made c = all_made c.args.known.now c.args.instances.now c.args.count c.args.definitions.now c.loop-definition.definition-index c.loop-definition-test.false c.args.begun.items c.loop-definition.helds.items c.loop-definition.invariant.0
