use Rattle.std.proofs.Common.{◌++◌, ◌∙◌, ap}
use Rattle.cil_macros.specs.Listed.{parts_there, plain_first}
use Rattle.cil_macros.proofs.PutLemmas.{mapped_between}
use Rattle.cil_macros.proofs.list_values.push_mapped.Goals as goal

pub returns : goal.returns
returns c = λ ps whole.
    mapped_between ps c.args.list.now c.args.parts.now.items c.push_part.new.parts.items c.push_plain.new.parts.items c.push_part-2.new.parts.items c.in_ok-push_part.ensures
    (c.in_ok-push_plain.ensures ps ∙ ap (λ xs. parts_there ps c.push_part.new.parts.items ++ plain_first (parts_there ps xs)) c.as_slice.ensures.value) c.in_ok-push_part-2.ensures whole
