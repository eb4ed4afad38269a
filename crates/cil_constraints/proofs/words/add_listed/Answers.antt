use Rattle.cil_constraints.proofs.PushLemmas.{done}
use Rattle.cil_constraints.proofs.WordLemmas.{form_listed, leaf_listed, name_listed}
use Rattle.cil_constraints.proofs.words.add_listed.Goals as goal

pub returns-in-Leaf : goal.returns-in-Leaf
returns-in-Leaf c =
    done c.add_meant.result (λ u. leaf_listed c.args.sets.now c.args.module c.args.operand.now c.args.words.now c.in-Leaf.field-0 c.in-Leaf.is c.meaning_at.result c.meaning_at.ensures _ _ u) c.add_meant.ensures

pub returns-in-Name : goal.returns-in-Name
returns-in-Name c = name_listed c.args.sets.now c.args.module c.args.operand.now c.args.words.now _ _ c.in-Name.is _

pub returns-in-Form : goal.returns-in-Form
returns-in-Form c =
    done c.add_words.result (λ a. form_listed c.args.sets.now c.args.module c.args.operand.now c.args.words.now _ _ c.in-Form.parts c.in-Form.is c.as_slice.result.now c.as_slice.ensures.value _ _ a)
    c.add_words.ensures
