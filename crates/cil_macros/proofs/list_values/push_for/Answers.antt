use Rattle.std.proofs.Common.{◌∙◌, sym}
use Rattle.cil_macros.proofs.PutLemmas.{list_for, mapped_for}
use Rattle.cil_macros.proofs.list_values.push_for.Goals as goal

pub returns-then-is_mapped : goal.returns-then-is_mapped
returns-then-is_mapped c = λ ps whole.
    mapped_for ps c.args.sign c.args.list.now c.args.parts.now.items c.push_mapped.new.parts.items (sym c.is_mapped.ensures ∙ c.if-is_mapped.true) (c.in_ok-push_mapped.ensures ps whole)

pub returns : goal.returns
returns c = λ ps whole.
    list_for ps c.args.sign c.args.list.now c.args.parts.now.items c.push_list.new.parts.items (sym c.is_mapped.ensures ∙ c.if-is_mapped.false) (c.in_ok-push_list.ensures ps whole)
