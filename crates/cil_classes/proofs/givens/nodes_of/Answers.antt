use Rattle.cil_macros.specs.Items.{items_in}
use Rattle.std.proofs.lemmas.Result.{IfOk-from_err}
use Rattle.cil_classes.proofs.GivensLemmas.{nodes_rise, they_are_nodes, they_have_nodes}
use Rattle.cil_classes.proofs.givens.nodes_of.Goals as goal

pub returns-clause-rising : goal.returns-clause-rising
returns-clause-rising c = nodes_rise _ _ _ c.sort_unstable.ensures.permutation c.sort_unstable.ensures.sorted c.dedup.ensures.filtered

pub returns-clause-nodes : goal.returns-clause-nodes
returns-clause-nodes c = λ names known.
    they_are_nodes c.args.known.now (items_in c.args.instances.now) _ (c.in_ok-nodes.ensures names known) _ _ c.sort_unstable.ensures.permutation c.sort_unstable.ensures.sorted c.dedup.ensures.filtered

pub returns-clause-all : goal.returns-clause-all
returns-clause-all c = λ names known.
    they_have_nodes c.args.known.now (items_in c.args.instances.now) _ (c.in_ok-nodes.ensures names known) _ _ c.sort_unstable.ensures.permutation c.sort_unstable.ensures.sorted c.dedup.ensures.filtered

pub returns-in_err-nodes-clause-rising : goal.returns-in_err-nodes-clause-rising
returns-in_err-nodes-clause-rising c = IfOk-from_err c.from_residual.result _ c.from_residual.ensures.0

pub returns-in_err-nodes-clause-nodes : goal.returns-in_err-nodes-clause-nodes
returns-in_err-nodes-clause-nodes c = IfOk-from_err c.from_residual.result _ c.from_residual.ensures.0

pub returns-in_err-nodes-clause-all : goal.returns-in_err-nodes-clause-all
returns-in_err-nodes-clause-all c = IfOk-from_err c.from_residual.result _ c.from_residual.ensures.0
