use Rattle.cil_macros.proofs.BranchValues.{behind_earlier, behind_later, behind_name, behind_word}
use Rattle.cil_macros.proofs.branches.value_behind.Goals as goal

pub returns-in-Leaf : goal.returns-in-Leaf
returns-in-Leaf c = λ m ts. behind_word m c.args.term.now ts c.args.at c.args.before c.in-Leaf.field-0 c.in-Leaf.is

pub returns-in-Name : goal.returns-in-Name
returns-in-Name c = λ m ts. behind_name m c.args.term.now ts c.args.at c.args.before c.in-Name.field-0 c.in-Name.field-1 c.in-Name.is

pub returns-then-at-from : goal.returns-then-at-from
returns-then-at-from c = λ m ts. behind_later m c.args.term.now ts c.args.at c.args.before c.in-Form.from c.in-Form.op c.in-Form.field-2 c.in-Form.is c.if-at-from.true

pub returns-else-at-from : goal.returns-else-at-from
returns-else-at-from c = λ m ts.
    behind_earlier m c.args.term.now ts c.args.at c.args.before c.in-Form.from c.in-Form.op c.in-Form.field-2 c.in-Form.is c.if-at-from.false c.value_by.result c.value_by.ensures
