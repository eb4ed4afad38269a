use Rattle.cil_syntax.specs.declared.kind.Sign.TheVariants as signs
use Rattle.cil_syntax.specs.Said.{all_said}
use Rattle.cil_syntax.specs.Shapes.{looked_up, set_of}
use Rattle.cil_macros.specs.Fits.{all_read_as}
use Rattle.cil_macros.proofs.ListLemmas.{class_items, no_pair}
use Rattle.cil_macros.proofs.AskLemmas.{puts_pair, terms_unread}
use Rattle.cil_macros.proofs.list_parts.push_class_items.Goals as goal

pub returns-then-items-ne2 : goal.returns-then-items-ne2
returns-then-items-ne2 c =
    terms_unread (all_read_as class_items (all_said c.args.«module» c.args.items.now))
    (no_pair c.args.«module» (looked_up signs.Classes) (set_of signs.Permission) c.args.items.now c.if-items-ne2.true) c.args.parts.now.items c.args.parts.now.items

pub returns : goal.returns
returns c =
    puts_pair c.args.«module» c.args.items.now (looked_up signs.Classes) (set_of signs.Permission) c.index-items-0.result c.index-items-1.result
    c.if-items-ne2.false c.index-items-0.is c.index-items-1.is c.args.parts.now.items c.push_word.new.parts.items c.push_set.new.parts.items c.in_ok-push_word.ensures c.in_ok-push_set.ensures
