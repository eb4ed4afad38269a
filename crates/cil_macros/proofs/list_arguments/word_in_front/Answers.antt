use Rattle.std.proofs.Common.{arith}
use Rattle.cil_macros.proofs.ListLemmas.{form_in_front, leaf_in_front, name_in_front, none_in_front}
use Rattle.cil_macros.proofs.list_arguments.word_in_front.Goals as goal

pub returns-in-empty : goal.returns-in-empty
returns-in-empty c = λ n. let h = c.in-empty.len_below in none_in_front n c.args.items.now (omega (arith, h))

pub returns-in-Leaf : goal.returns-in-Leaf
returns-in-Leaf c = λ n. leaf_in_front n c.args.items.now c.first-item.result c.in-len1-up.len_at_least c.first-item.is c.in-Leaf.word c.in-Leaf.is c.as_slice.result.now c.as_slice.ensures

pub returns-in-Name : goal.returns-in-Name
returns-in-Name c = λ n. name_in_front n c.args.items.now c.first-item.result c.in-len1-up.len_at_least c.first-item.is c.in-Name.field-0 c.in-Name.field-1 c.in-Name.is

pub returns-in-Form : goal.returns-in-Form
returns-in-Form c = λ n. form_in_front n c.args.items.now c.first-item.result c.in-len1-up.len_at_least c.first-item.is c.in-Form.field-1 c.in-Form.field-0 c.in-Form.field-2 c.in-Form.is
