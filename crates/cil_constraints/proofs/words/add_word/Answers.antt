use Rattle.cil_constraints.proofs.WordLemmas.{form_added, leaf_added, name_added}
use Rattle.cil_constraints.proofs.words.add_word.Goals as goal

pub returns-in-Name : goal.returns-in-Name
returns-in-Name c = name_added c.args.sets.now c.args.module c.args.part.now c.args.words.now _ _ c.in-Name.is _

pub returns-in-Form : goal.returns-in-Form
returns-in-Form c = form_added c.args.sets.now c.args.module c.args.part.now c.args.words.now _ _ _ c.in-Form.is c.behind.result.now c.behind.ensures _

pub returns-in_ok-add_meant-in-Leaf : goal.returns-in_ok-add_meant-in-Leaf
returns-in_ok-add_meant-in-Leaf c =
    leaf_added c.args.sets.now c.args.module c.args.part.now c.args.words.now c.in-Leaf.field-0 c.in-Leaf.is c.meaning_at.result c.meaning_at.ensures _ _ c.in_ok-add_meant-in-Leaf.ensures
    c.behind_first.result.now c.behind_first.ensures
