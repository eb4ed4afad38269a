use Rattle.cil_macros.proofs.ListLemmas.{level_with_categories, no_level_items, no_sensitivity, sole_level}
use Rattle.cil_macros.proofs.list_arguments.is_level_list.Goals as goal

pub returns-then-items-eq1 : goal.returns-then-items-eq1
returns-then-items-eq1 c = λ n. sole_level n c.args.items.now c.index-items-0.result c.if-items-eq1.true c.index-items-0.is c.is_word.result (c.is_word.ensures n)

pub returns-then-items-ne2 : goal.returns-then-items-ne2
returns-then-items-ne2 c = λ n. no_level_items n c.args.items.now c.if-items-eq1.false c.if-items-ne2.true

pub returns-then-not-is_word : goal.returns-then-not-is_word
returns-then-not-is_word c = λ n.
    no_sensitivity n c.args.items.now c.if-items-eq1.false c.index-items-0-2.result c.if-items-ne2.false c.index-items-0-2.is c.is_word-2.result (c.is_word-2.ensures n) c.if-not-is_word.true

pub returns : goal.returns
returns c = λ n.
    level_with_categories n c.args.items.now c.if-items-eq1.false c.index-items-0-2.result c.index-items-1.result c.if-items-ne2.false c.index-items-0-2.is c.index-items-1.is
    c.is_word-2.result c.is_set.result (c.is_word-2.ensures n) c.if-not-is_word.false (c.is_set.ensures n)
