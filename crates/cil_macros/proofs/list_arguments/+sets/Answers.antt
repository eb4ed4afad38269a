use Rattle.std.specs.Prelude.{◌||◌, codes}
use Rattle.std.proofs.Common.{sym, ◌∙◌, ap}
use Rattle.cil_syntax.specs.Said.{word_in}
use Rattle.cil_syntax.specs.Shapes.{set_of}
use Rattle.cil_syntax.specs.Spelling.{same_bytes}
use Rattle.cil_faults.specs.Spots.{spot_at}
use Rattle.cil_macros.specs.Fits.{is_sound_word}
use Rattle.cil_macros.proofs.ListLemmas.{all_among, name_unread, no_set, not_one_operand, not_range, not_two_operands, one_more, one_operand_read, one_unread, range_read, set_read, set_word, text_unread_so, two_operands_read, unheaded, united, word_read_so}
use Rattle.cil_macros.proofs.list_arguments.+sets.Goals as goal

pub is_set-returns-in-Leaf : goal.is_set-returns-in-Leaf
is_set-returns-in-Leaf t c = λ n.
    word_read_so (set_of c.args.sign) n c.args.argument.now c.in-Leaf.word c.in-Leaf.is c.is_set_word.result
    (c.is_set_word.ensures ∙ ap (λ b. same_bytes b (codes "all") || is_sound_word c.args.sign b) c.as_slice.ensures ∙ sym (set_word (word_in n c.in-Leaf.word) c.args.sign))

pub is_set-returns-in-Name : goal.is_set-returns-in-Name
is_set-returns-in-Name t c = λ n. name_unread (set_of c.args.sign) (λ bt bytes. no_set bt bytes c.args.sign) n c.args.argument.now c.in-Name.field-0 c.in-Name.field-1 c.in-Name.is

pub is_set-returns-then-is_text_op : goal.is_set-returns-then-is_text_op
is_set-returns-then-is_text_op t c = λ n.
    text_unread_so (set_of c.args.sign) (λ bt bytes. no_set bt bytes c.args.sign) n c.args.argument.now c.in-Form.field-1 c.in-Form.op c.in-Form.items c.in-Form.is c.is_text_op.result c.is_text_op.ensures c.if-is_text_op.true

pub is_set-returns-else-is_text_op : goal.is_set-returns-else-is_text_op
is_set-returns-else-is_text_op t c = λ n.
    set_read n c.args.argument.now c.in-Form.field-1 c.in-Form.op c.in-Form.items c.in-Form.is c.is_text_op.result c.is_text_op.ensures c.if-is_text_op.false
    c.as_slice-in-Form.result.now c.as_slice-in-Form.ensures.value c.is_set_list.result c.args.sign (c.is_set_list.ensures n (spot_at n c.in-Form.field-1))

pub is_set_list-returns-in_default : goal.is_set_list-returns-in_default
is_set_list-returns-in_default t c = λ n at. c.are_sets.ensures n ∙ sym (unheaded n c.args.sign at c.args.items.now (c.in_default.ensures n))

pub is_set_list-returns-then-items-ne2 : goal.is_set_list-returns-then-items-ne2
is_set_list-returns-then-items-ne2 t c = λ n at. not_one_operand n c.args.sign at c.in-Some.word.now c.set_head.result c.set_head.ensures c.args.items.now (c.in-Some.ensures n) c.in-One.is c.if-items-ne2.true

pub is_set_list-returns-else-items-ne2 : goal.is_set_list-returns-else-items-ne2
is_set_list-returns-else-items-ne2 t c = λ n at. c.are_sets-in-One.ensures n ∙ sym (one_operand_read n c.args.sign at c.in-Some.word.now c.set_head.result c.set_head.ensures c.args.items.now (c.in-Some.ensures n) c.in-One.is c.if-items-ne2.false)

pub is_set_list-returns-then-items-ne3 : goal.is_set_list-returns-then-items-ne3
is_set_list-returns-then-items-ne3 t c = λ n at. not_two_operands n c.args.sign at c.in-Some.word.now c.set_head.result c.set_head.ensures c.args.items.now (c.in-Some.ensures n) c.in-Two.is c.if-items-ne3.true

pub is_set_list-returns-else-items-ne3 : goal.is_set_list-returns-else-items-ne3
is_set_list-returns-else-items-ne3 t c = λ n at. c.are_sets-in-Two.ensures n ∙ sym (two_operands_read n c.args.sign at c.in-Some.word.now c.set_head.result c.set_head.ensures c.args.items.now (c.in-Some.ensures n) c.in-Two.is c.if-items-ne3.false)

pub is_set_list-returns-then-items-ne3-2 : goal.is_set_list-returns-then-items-ne3-2
is_set_list-returns-then-items-ne3-2 t c = λ n at. not_range n c.args.sign at c.in-Some.word.now c.set_head.result c.set_head.ensures c.args.items.now (c.in-Some.ensures n) c.in-Range.is c.if-items-ne3-2.true

pub is_set_list-returns-else-items-ne3-2 : goal.is_set_list-returns-else-items-ne3-2
is_set_list-returns-else-items-ne3-2 t c = λ n at. c.are_words.ensures n ∙ sym (range_read n c.args.sign at c.in-Some.word.now c.set_head.result c.set_head.ensures c.args.items.now (c.in-Some.ensures n) c.in-Range.is c.if-items-ne3-2.false)

pub is_set_list-returns-in-Union : goal.is_set_list-returns-in-Union
is_set_list-returns-in-Union t c = λ n at. c.are_sets-in-Union.ensures n ∙ sym (united n c.args.sign at c.in-Some.word.now c.set_head.result c.set_head.ensures c.args.items.now (c.in-Some.ensures n) c.in-Union.is)

pub are_sets-loop-index-preserved : goal.are_sets-loop-index-preserved
are_sets-loop-index-preserved t c = λ n.
    c.loop-index.invariant n
    ∙ one_more n (set_of c.args.sign) c.args.items.now c.loop-index.index c.index-items-index.result c.loop-index-test.true c.index-items-index.is c.is_set.result (c.is_set.ensures n) c.if-not-is_set.false

pub are_sets-returns-then-not-is_set : goal.are_sets-returns-then-not-is_set
are_sets-returns-then-not-is_set t c = λ n.
    one_unread n (set_of c.args.sign) c.args.items.now c.loop-index.index c.index-items-index.result c.loop-index-test.true c.index-items-index.is c.is_set.result (c.is_set.ensures n) c.if-not-is_set.true
    ∙ sym (c.loop-index.invariant n)

pub are_sets-returns : goal.are_sets-returns
are_sets-returns t c = λ n. all_among n (set_of c.args.sign) c.args.items.now c.loop-index.index c.loop-index-test.false ∙ sym (c.loop-index.invariant n)
