use Rattle.cil_syntax.proofs.FormLemmas.{list_gives_items, word_gives_none, name_gives_none}
use Rattle.cil_syntax.proofs.statement_forms.items_in_front.Goals as goal

pub returns-in-Form : goal.returns-in-Form
returns-in-Form c =
    list_gives_items c.args.«module» c.args.terms.now c.first-item.result c.in-len1-up.len_at_least c.first-item.is
    c.in-Form.field-1 c.in-Form.field-0 c.in-Form.parts c.as_slice.result.now c.in-Form.is c.as_slice.ensures.value

pub returns-in-Leaf : goal.returns-in-Leaf
returns-in-Leaf c = word_gives_none c.args.«module» c.args.terms.now c.first-item.result c.in-len1-up.len_at_least c.first-item.is c.in-Leaf.field-0 c.in-Leaf.is

pub returns-in-Name : goal.returns-in-Name
returns-in-Name c = name_gives_none c.args.«module» c.args.terms.now c.first-item.result c.in-len1-up.len_at_least c.first-item.is c.in-Name.field-0 c.in-Name.field-1 c.in-Name.is
