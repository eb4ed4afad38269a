use Rattle.std.proofs.Common.{sym, ◌∙◌}
use Rattle.cil_syntax.specs.Shapes.{looked_up}
use Rattle.cil_macros.proofs.ListLemmas.{all_among, one_more, one_unread}
use Rattle.cil_macros.proofs.list_arguments.are_words.Goals as goal

pub loop-index-preserved : goal.loop-index-preserved
loop-index-preserved c = λ n.
    c.loop-index.invariant n
    ∙ one_more n (looked_up c.args.sign) c.args.items.now c.loop-index.index c.index-items-index.result c.loop-index-test.true c.index-items-index.is c.is_word.result (c.is_word.ensures n) c.if-not-is_word.false

pub returns-then-not-is_word : goal.returns-then-not-is_word
returns-then-not-is_word c = λ n.
    one_unread n (looked_up c.args.sign) c.args.items.now c.loop-index.index c.index-items-index.result c.loop-index-test.true c.index-items-index.is c.is_word.result (c.is_word.ensures n) c.if-not-is_word.true
    ∙ sym (c.loop-index.invariant n)

pub returns : goal.returns
returns c = λ n. all_among n (looked_up c.args.sign) c.args.items.now c.loop-index.index c.loop-index-test.false ∙ sym (c.loop-index.invariant n)
