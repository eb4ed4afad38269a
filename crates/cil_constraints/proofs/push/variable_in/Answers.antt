use Rattle.std.proofs.Common.{◌∙◌}
use Rattle.cil_constraints.proofs.PushLemmas.{form_variable, leaf_variable, name_variable}
use Rattle.cil_constraints.proofs.push.variable_in.Goals as goal

pub returns-in-Leaf : goal.returns-in-Leaf
returns-in-Leaf c = λ f m. leaf_variable f m c.args.term.now c.in-Leaf.field-0 c.in-Leaf.is

pub returns-in-Name : goal.returns-in-Name
returns-in-Name c = λ f m. name_variable f m c.args.term.now _ _ c.in-Name.is

pub returns-in-Form : goal.returns-in-Form
returns-in-Form c = λ f m. c.variable_of.ensures ∙ form_variable f m c.args.term.now _ c.in-Form.op _ c.in-Form.is
