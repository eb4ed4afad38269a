use Rattle.std.proofs.Common.{◌∙◌, ap, sym}
use Rattle.cil_syntax.specs.declared.kind.Sign.TheVariants as signs
use Rattle.cil_syntax.specs.Said.{word_in}
use Rattle.cil_syntax.specs.Table.{class_permission}
use Rattle.cil_macros.specs.Fits.{is_sound_word}
use Rattle.cil_macros.proofs.ListLemmas.{class_read, name_unread, no_class_permission, permission_word, text_unread_so, word_read_so}
use Rattle.cil_macros.proofs.list_arguments.is_class_permission.Goals as goal

pub returns-in-Leaf : goal.returns-in-Leaf
returns-in-Leaf c = λ n.
    word_read_so class_permission n c.args.argument.now c.in-Leaf.word c.in-Leaf.is c.is_sound.result (c.is_sound.ensures ∙ ap (is_sound_word signs.ClassPermissions) c.as_slice.ensures ∙ sym (permission_word (word_in n c.in-Leaf.word)))

pub returns-in-Name : goal.returns-in-Name
returns-in-Name c = λ n. name_unread class_permission no_class_permission n c.args.argument.now c.in-Name.field-0 c.in-Name.field-1 c.in-Name.is

pub returns-then-is_text_op : goal.returns-then-is_text_op
returns-then-is_text_op c = λ n. text_unread_so class_permission no_class_permission n c.args.argument.now c.in-Form.field-1 c.in-Form.op c.in-Form.items c.in-Form.is c.is_text_op.result c.is_text_op.ensures c.if-is_text_op.true

pub returns-else-is_text_op : goal.returns-else-is_text_op
returns-else-is_text_op c = λ n.
    class_read n c.args.argument.now c.in-Form.field-1 c.in-Form.op c.in-Form.items c.in-Form.is c.is_text_op.result c.is_text_op.ensures c.if-is_text_op.false
    c.as_slice-in-Form.result.now c.as_slice-in-Form.ensures.value c.is_class_list.result (c.is_class_list.ensures n)
