use Rattle.cil_syntax.proofs.FormLemmas.{name_then_items, word_then_none, list_then_none}
use Rattle.cil_syntax.proofs.statement_forms.behind_name.Goals as goal

pub returns-in-Name : goal.returns-in-Name
returns-in-Name c =
    name_then_items c.args.«module» c.args.terms.now c.first-item.result c.in-len1-up.len_at_least c.first-item.is
    c.in-Name.field-0 c.in-Name.field-1 c.in-Name.is c.items_in_front.result c.items_in_front.ensures

pub returns-in-Leaf : goal.returns-in-Leaf
returns-in-Leaf c = word_then_none c.args.«module» c.args.terms.now c.first-item.result c.in-len1-up.len_at_least c.first-item.is c.in-Leaf.field-0 c.in-Leaf.is

pub returns-in-Form : goal.returns-in-Form
returns-in-Form c = list_then_none c.args.«module» c.args.terms.now c.first-item.result c.in-len1-up.len_at_least c.first-item.is c.in-Form.field-1 c.in-Form.field-0 c.in-Form.field-2 c.in-Form.is
