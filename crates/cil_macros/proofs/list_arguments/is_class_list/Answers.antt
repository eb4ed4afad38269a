use Rattle.cil_syntax.specs.declared.kind.Sign.TheVariants as signs
use Rattle.cil_syntax.specs.Shapes.{looked_up, set_of}
use Rattle.cil_macros.proofs.ListLemmas.{first_unread, no_pair, pair_as_second}
use Rattle.cil_macros.proofs.list_arguments.is_class_list.Goals as goal

pub returns-then-items-ne2 : goal.returns-then-items-ne2
returns-then-items-ne2 c = λ n. no_pair n (looked_up signs.Classes) (set_of signs.Permission) c.args.items.now c.if-items-ne2.true

pub returns-then-not-is_word : goal.returns-then-not-is_word
returns-then-not-is_word c = λ n.
    first_unread n (looked_up signs.Classes) (set_of signs.Permission) c.args.items.now c.index-items-0.result c.if-items-ne2.false c.index-items-0.is c.is_word.result (c.is_word.ensures n) c.if-not-is_word.true

pub returns : goal.returns
returns c = λ n.
    pair_as_second n (looked_up signs.Classes) (set_of signs.Permission) c.args.items.now c.index-items-0.result c.index-items-1.result c.if-items-ne2.false c.index-items-0.is c.index-items-1.is c.is_word.result c.is_set.result (c.is_word.ensures n) c.if-not-is_word.false (c.is_set.ensures n)
