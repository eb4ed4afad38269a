use Rattle.std.proofs.Common.{◌-◌, arith}
use Rattle.cil_rule_bytes.specs.Conditions.{conjoined, disjoined, parted, matched, unmatched}
use Rattle.cil_rule_bytes.specs.Layout.{tree}
use Rattle.cil_rule_bytes.proofs.PushLemmas.{names, negated, joins, second}
use Rattle.cil_rule_bytes.proofs.conditions.+conditions.Goals as goal

pub push_tree-returns-in-1 : goal.push_tree-returns-in-1
push_tree-returns-in-1 t c =
    names c.args.booleans c.args.depth (c.args.depth - 1) (omega (arith, c.if-depth-eq0.false)) c.args.bytes.now c.in_ok-tag.rest.now c.args.tokens.now.items
    c.push_boolean.new.tokens.items c.push_boolean.result (rw c.in-1.is at c.in_ok-tag.ensures) c.push_boolean.ensures

pub push_tree-returns-in_ok-push-in-2 : goal.push_tree-returns-in_ok-push-in-2
push_tree-returns-in_ok-push-in-2 t c =
    negated c.args.booleans c.args.depth (c.args.depth - 1) (omega (arith, c.if-depth-eq0.false)) c.args.bytes.now c.in_ok-tag.rest.now c.args.tokens.now.items
    c.push_tree.new.tokens.items c.push_tree.result (rw c.in-2.is at c.in_ok-tag.ensures) (rw c.in_ok-push-in-2.ensures.items at c.push_tree.ensures)

pub push_tree-returns-in-3 : goal.push_tree-returns-in-3
push_tree-returns-in-3 t c =
    joins c.args.booleans c.args.depth (c.args.depth - 1) (omega (arith, c.if-depth-eq0.false)) c.args.bytes.now c.in_ok-tag.rest.now c.args.tokens.now.items
    c.push_joined.new.tokens.items conjoined c.push_joined.result (rw c.in-3.is at c.in_ok-tag.ensures) c.push_joined.ensures

pub push_tree-returns-in-4 : goal.push_tree-returns-in-4
push_tree-returns-in-4 t c =
    joins c.args.booleans c.args.depth (c.args.depth - 1) (omega (arith, c.if-depth-eq0.false)) c.args.bytes.now c.in_ok-tag.rest.now c.args.tokens.now.items
    c.push_joined-in-4.new.tokens.items disjoined c.push_joined-in-4.result (rw c.in-4.is at c.in_ok-tag.ensures) c.push_joined-in-4.ensures

pub push_tree-returns-in-5 : goal.push_tree-returns-in-5
push_tree-returns-in-5 t c =
    joins c.args.booleans c.args.depth (c.args.depth - 1) (omega (arith, c.if-depth-eq0.false)) c.args.bytes.now c.in_ok-tag.rest.now c.args.tokens.now.items
    c.push_joined-in-5.new.tokens.items parted c.push_joined-in-5.result (rw c.in-5.is at c.in_ok-tag.ensures) c.push_joined-in-5.ensures

pub push_tree-returns-in-6 : goal.push_tree-returns-in-6
push_tree-returns-in-6 t c =
    joins c.args.booleans c.args.depth (c.args.depth - 1) (omega (arith, c.if-depth-eq0.false)) c.args.bytes.now c.in_ok-tag.rest.now c.args.tokens.now.items
    c.push_joined-in-6.new.tokens.items matched c.push_joined-in-6.result (rw c.in-6.is at c.in_ok-tag.ensures) c.push_joined-in-6.ensures

pub push_tree-returns-in-7 : goal.push_tree-returns-in-7
push_tree-returns-in-7 t c =
    joins c.args.booleans c.args.depth (c.args.depth - 1) (omega (arith, c.if-depth-eq0.false)) c.args.bytes.now c.in_ok-tag.rest.now c.args.tokens.now.items
    c.push_joined-in-7.new.tokens.items unmatched c.push_joined-in-7.result (rw c.in-7.is at c.in_ok-tag.ensures) c.push_joined-in-7.ensures

pub push_joined-returns : goal.push_joined-returns
push_joined-returns t c =
    second (tree c.args.booleans c.args.depth) c.args.operator c.args.bytes.now c.in_ok-rest.rest.now c.in_ok-rest-2.rest.now c.args.tokens.now.items c.push_tree.new.tokens.items
    c.push_tree-2.new.tokens.items (rw c.in_ok-push.ensures.items at c.in_ok-rest.ensures) c.in_ok-rest-2.ensures
