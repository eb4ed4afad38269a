use Rattle.std.proofs.Common.{◌-◌, arith}
use Rattle.cil_constraint_bytes.specs.Bounds.{limits_of}
use Rattle.cil_constraint_bytes.specs.Layout.{tree}
use Rattle.cil_constraint_bytes.proofs.StepLemmas.{negated, joined, chosen, compares, belongs, second}
use Rattle.cil_constraint_bytes.proofs.steps.+steps.Goals as goal

pub push_tree-returns-in_ok-push-in-2 : goal.push_tree-returns-in_ok-push-in-2
push_tree-returns-in_ok-push-in-2 t c =
    negated (limits_of c.args.bounds.now) c.args.levels (c.args.levels - 1) (omega (arith, c.if-levels-eq0.false))
    c.args.bytes.now c.in_ok-tag.rest.now c.args.steps.now.items
    c.push_tree.new.steps.items c.push_tree.result (rw c.in-2.is at c.in_ok-tag.ensures) (rw c.in_ok-push-in-2.ensures.items at c.push_tree.ensures)

pub push_tree-returns-in_ok-push-in-3 : goal.push_tree-returns-in_ok-push-in-3
push_tree-returns-in_ok-push-in-3 t c =
    joined (limits_of c.args.bounds.now) c.args.levels (c.args.levels - 1) (omega (arith, c.if-levels-eq0.false))
    c.args.bytes.now c.in_ok-tag.rest.now c.args.steps.now.items
    c.push_two.new.steps.items c.push_two.result (rw c.in-3.is at c.in_ok-tag.ensures) (rw c.in_ok-push-in-3.ensures.items at c.push_two.ensures)

pub push_tree-returns-in_ok-push-in-4 : goal.push_tree-returns-in_ok-push-in-4
push_tree-returns-in_ok-push-in-4 t c =
    chosen (limits_of c.args.bounds.now) c.args.levels (c.args.levels - 1) (omega (arith, c.if-levels-eq0.false))
    c.args.bytes.now c.in_ok-tag.rest.now c.args.steps.now.items
    c.push_two-in-4.new.steps.items c.push_two-in-4.result (rw c.in-4.is at c.in_ok-tag.ensures) (rw c.in_ok-push-in-4.ensures.items at c.push_two-in-4.ensures)

pub push_tree-returns-in-16 : goal.push_tree-returns-in-16
push_tree-returns-in-16 t c =
    compares (limits_of c.args.bounds.now) c.args.levels (c.args.levels - 1) (omega (arith, c.if-levels-eq0.false))
    c.args.bytes.now c.in_ok-tag.rest.now c.args.steps.now.items
    c.push_pair.new.steps.items c.push_pair.result (rw c.in-16.is at c.in_ok-tag.ensures) c.push_pair.ensures

pub push_tree-returns-in-17 : goal.push_tree-returns-in-17
push_tree-returns-in-17 t c =
    belongs (limits_of c.args.bounds.now) c.args.levels (c.args.levels - 1) (omega (arith, c.if-levels-eq0.false))
    c.args.bytes.now c.in_ok-tag.rest.now c.args.steps.now.items
    c.push_member.new.steps.items c.push_member.result (rw c.in-17.is at c.in_ok-tag.ensures) c.push_member.ensures

pub push_two-returns : goal.push_two-returns
push_two-returns t c =
    second (tree (limits_of c.args.bounds.now) c.args.levels) c.args.bytes.now c.in_ok-rest.rest.now c.in_ok-rest-2.rest.now
    c.args.steps.now.items c.push_tree.new.steps.items
    c.push_tree-2.new.steps.items c.in_ok-rest.ensures c.in_ok-rest-2.ensures
