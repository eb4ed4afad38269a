use Rattle.std.proofs.Common.{sym}
use Rattle.std.proofs.lemmas.Bool.{true≢false}
use Rattle.cil_classes.proofs.MaskLemmas.{form_is_none, name_is_none}
use Rattle.cil_classes.proofs.mask.is_leaf.Goals as goal

pub returns-in-Leaf : goal.returns-in-Leaf
returns-in-Leaf c = record { leaf = λ t. (_, c.in-Leaf.is); none = λ f. absurd (true≢false f) }

pub returns-in-Name : goal.returns-in-Name
returns-in-Name c = record { leaf = λ t. absurd (true≢false (sym t)); none = λ f. name_is_none c.args.term.now _ _ c.in-Name.is }

pub returns-in-Form : goal.returns-in-Form
returns-in-Form c = record { leaf = λ t. absurd (true≢false (sym t)); none = λ f. form_is_none c.args.term.now _ _ _ c.in-Form.is }
