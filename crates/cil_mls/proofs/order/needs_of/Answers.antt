use Rattle.std.specs.Prelude.{take, set, ◌+◌}
use Rattle.std.proofs.Common.{◌<◌, length, get_or, arith, rules, subst, sym, ◌∙◌, false}
use Rattle.std.proofs.lemmas.List.{get_or_default, take_more, length-take-le}
use Rattle.std.proofs.lemmas.List.Elements.{All-get_or}
use Rattle.cil_settle.specs.declared.edge.Edge.{Edge}
use Rattle.cil_settle.specs.Cycles.{IsWithin}
use Rattle.cil_mls.specs.OrderSteps.{IsCounted}
use Rattle.cil_mls.proofs.EdgeLemmas.{counted_more, few}
use Rattle.cil_mls.proofs.order.needs_of.Goals as goal

abbrev none : Edge
none = record { from = 0; to = 0; counted = false }

pub overflow_add-index_mut : goal.overflow_add-index_mut
overflow_add-index_mut c =
    let i = c.loop-at.at in
    let l : i < length c.args.edges.now = omega (arith, c.loop-at-test.true) in
    let e = get_or c.args.edges.now i none in
    let within = All-get_or (IsWithin c.args.count) c.args.edges.now i none l c.requires in
    let most = few (take i c.args.edges.now) c.args.count e.to c.loop-at.need.items c.loop-at.invariant within.to_node in
    let len = length-take-le i c.args.edges.now (omega (arith, l)) in
    let size = c.loop-at.invariant.len in
    let value = c.index_mut.ensures.value ∙ get_or_default c.loop-at.need.items e.to c.index_mut.result.now 0 (omega (arith, size, within.to_node)) in
    let room = c.well_formed in
    let most_now : c.index_mut.result.now + 1 < 18446744073709551616 = omega (arith, value, most, len, l, c.well_formed) in search (rules, most_now)

pub loop-at-preserved : goal.loop-at-preserved
loop-at-preserved c =
    let i = c.loop-at.at in
    let l : i < length c.args.edges.now = omega (arith, c.loop-at-test.true) in
    let e = get_or c.args.edges.now i none in
    let within = All-get_or (IsWithin c.args.count) c.args.edges.now i none l c.requires in
    let size = c.loop-at.invariant.len in
    let value = c.index_mut.ensures.value ∙ get_or_default c.loop-at.need.items e.to c.index_mut.result.now 0 (omega (arith, size, within.to_node)) in
    subst (λ es. IsCounted es c.args.count (set c.loop-at.need.items e.to (c.index_mut.result.now + 1))) (sym (take_more c.args.edges.now i none l))
    (counted_more (take i c.args.edges.now) c.args.count c.loop-at.need.items e c.index_mut.result.now within.to_node value c.loop-at.invariant)
