use Rattle.cil_macros.proofs.ArgumentLemmas.{form_no_word, name_no_word, word_read}
use Rattle.cil_macros.proofs.arguments.is_word.Goals as goal

pub returns-in-Leaf : goal.returns-in-Leaf
returns-in-Leaf c = λ n. word_read n c.args.argument.now c.args.sign c.in-Leaf.word c.as_slice.result.now _ c.in-Leaf.is c.as_slice.ensures c.is_sound.ensures

pub returns-in-Name : goal.returns-in-Name
returns-in-Name c = λ n. name_no_word n c.args.argument.now c.args.sign c.in-Name.field-0 c.in-Name.field-1 c.in-Name.is

pub returns-in-Form : goal.returns-in-Form
returns-in-Form c = λ n. form_no_word n c.args.argument.now c.args.sign c.in-Form.field-1 c.in-Form.field-0 c.in-Form.field-2 c.in-Form.is
