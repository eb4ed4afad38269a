use Rattle.std.proofs.Common.{arith, ap, ◌∙◌, get_or, false}
use Rattle.std.specs.List.{count_by}
use Rattle.cil_settle.specs.Plain.{is_set}
use Rattle.cil_settle.proofs.PlainLemmas.{at_end, counted_falls, counted_more, counted_none, counted_on}
use Rattle.cil_settle.proofs.plain.searched_cycles.Goals as goal

pub loop-node-init : goal.loop-node-init
loop-node-init c = counted_none c.args.edges.now c.args.nodes _ _ c.new-on.ensures.items c.new-ranks.ensures.items

pub loop-node-preserved : goal.loop-node-preserved
loop-node-preserved c =
    counted_more c.args.edges.now c.args.nodes c.loop-node.node c.count.result _ _ _ _ c.flag_at.result c.in_ok-flags.flags.items c.loop-node.invariant c.in_ok-flags.ensures
    (c.flag_at.ensures ∙ ap (λ xs. get_or xs c.loop-node.node false) c.as_slice.ensures.value) (c.count.ensures ∙ ap (count_by is_set) c.as_slice-in-loop-node.ensures.value) c.in_ok-push.ensures.items
    c.in_ok-push-2.ensures.items

pub returns-clause-on : goal.returns-clause-on
returns-clause-on c = counted_on c.args.edges.now c.args.nodes _ _ (at_end _ _ _ _ _ c.loop-node.invariant (omega arith))

pub returns-clause-ranks : goal.returns-clause-ranks
returns-clause-ranks c = counted_falls c.args.edges.now c.args.nodes _ _ (at_end _ _ _ _ _ c.loop-node.invariant (omega arith)) c.requires.within
