use Rattle.std.proofs.Common.{◌++◌, ◌∙◌, ap}
use Rattle.cil_macros.proofs.PartLemmas.{list_between}
use Rattle.cil_macros.proofs.list_values.push_list.Goals as goal

pub returns : goal.returns
returns c = λ ps whole.
    list_between ps c.args.list.now c.args.parts.now.items c.push_part.new.parts.items c.push_parts.new.parts.items c.push_part-2.new.parts.items c.in_ok-push_part.ensures
    (c.in_ok-push_parts.ensures ∙ ap (λ xs. c.push_part.new.parts.items ++ xs) c.as_slice.ensures.value) c.in_ok-push_part-2.ensures whole
