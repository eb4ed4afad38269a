use Rattle.cil_macros.proofs.ArgumentLemmas.{form_as_text, name_is_text, word_is_text}
use Rattle.cil_macros.proofs.arguments.is_text.Goals as goal

pub returns-in-Leaf : goal.returns-in-Leaf
returns-in-Leaf c = λ n. word_is_text n c.args.argument.now c.in-Leaf.field-0 c.in-Leaf.is

pub returns-in-Name : goal.returns-in-Name
returns-in-Name c = λ n. name_is_text n c.args.argument.now c.in-Name.field-0 c.in-Name.field-1 c.in-Name.is

pub returns-in-Form : goal.returns-in-Form
returns-in-Form c = λ n. form_as_text n c.args.argument.now c.in-Form.field-1 c.in-Form.op c.in-Form.field-2 _ c.in-Form.is c.is_text_op.ensures
