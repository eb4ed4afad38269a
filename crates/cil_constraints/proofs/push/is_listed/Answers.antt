use Rattle.std.proofs.Common.{◌∙◌}
use Rattle.cil_constraints.proofs.PushLemmas.{form_is_listed, leaf_is_listed, name_is_listed}
use Rattle.cil_constraints.proofs.push.is_listed.Goals as goal

pub returns-in-Leaf : goal.returns-in-Leaf
returns-in-Leaf c = λ f m. leaf_is_listed f m c.args.term.now c.in-Leaf.field-0 c.in-Leaf.is

pub returns-in-Name : goal.returns-in-Name
returns-in-Name c = λ f m. name_is_listed f m c.args.term.now _ _ c.in-Name.is

pub returns-in-Form : goal.returns-in-Form
returns-in-Form c = λ f m. c.is_union.ensures ∙ form_is_listed f m c.args.term.now _ c.in-Form.op _ c.in-Form.is
