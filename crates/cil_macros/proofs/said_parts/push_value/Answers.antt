use Rattle.std.proofs.Common.{◌∙◌, refl, sym}
use Rattle.cil_macros.proofs.SaidPartLemmas.{pushes_list, pushes_plain, pushes_text}
use Rattle.cil_macros.proofs.said_parts.push_value.Goals as goal

pub returns-in_ok-push_word-in-Plain : goal.returns-in_ok-push_word-in-Plain
returns-in_ok-push_word-in-Plain c =
    pushes_plain c.args.kind c.args.argument.now c.args.parts.now.items c.push_word.new.parts.items c.in-Plain.meant c.in-Plain.is c.in_ok-push_word-in-Plain.ensures

pub returns-then-is_text_op : goal.returns-then-is_text_op
returns-then-is_text_op c =
    pushes_text c.args.kind c.args.argument.now c.args.parts.now.items c.args.parts.now.items c.in-List.list c.in-List.is (sym c.is_text_op.ensures ∙ c.if-is_text_op.true) refl

pub returns-in_ok-push_list-in-List : goal.returns-in_ok-push_list-in-List
returns-in_ok-push_list-in-List c =
    pushes_list c.args.kind c.args.argument.now c.args.parts.now.items c.push_list.new.parts.items c.in-List.list c.in-List.is (sym c.is_text_op.ensures ∙ c.if-is_text_op.false)
    c.in_ok-push_list-in-List.ensures
