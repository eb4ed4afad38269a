use Rattle.cil_syntax.specs.declared.kind.Sign.TheVariants as signs
use Rattle.cil_syntax.specs.Said.{all_said}
use Rattle.cil_syntax.specs.Shapes.{looked_up, set_of}
use Rattle.cil_macros.specs.Fits.{all_read_as}
use Rattle.cil_macros.proofs.ListLemmas.{no_pair, sensitivity_items}
use Rattle.cil_macros.proofs.AskLemmas.{puts_pair, puts_sensitivity, puts_sensitivity_items, terms_unread}
use Rattle.cil_macros.proofs.list_parts.push_level_items.Goals as goal

pub returns-then-items-eq1 : goal.returns-then-items-eq1
returns-then-items-eq1 c =
    puts_sensitivity c.args.«module» c.args.items.now c.index-items-0.result c.if-items-eq1.true c.index-items-0.is c.args.parts.now.items c.push_word.new.parts.items
    c.in_ok-push_word.ensures

pub returns-then-items-ne2 : goal.returns-then-items-ne2
returns-then-items-ne2 c =
    puts_sensitivity_items c.args.«module» c.args.items.now c.if-items-eq1.false c.args.parts.now.items c.args.parts.now.items
    (terms_unread (all_read_as sensitivity_items (all_said c.args.«module» c.args.items.now))
    (no_pair c.args.«module» (looked_up signs.Sensitivities) (set_of signs.CategorySets) c.args.items.now c.if-items-ne2.true) c.args.parts.now.items c.args.parts.now.items)

pub returns : goal.returns
returns c =
    puts_sensitivity_items c.args.«module» c.args.items.now c.if-items-eq1.false c.args.parts.now.items c.push_set.new.parts.items
    (puts_pair c.args.«module» c.args.items.now (looked_up signs.Sensitivities) (set_of signs.CategorySets) c.index-items-0-2.result c.index-items-1.result
    c.if-items-ne2.false c.index-items-0-2.is c.index-items-1.is c.args.parts.now.items c.push_word-2.new.parts.items c.push_set.new.parts.items c.in_ok-push_word-2.ensures c.in_ok-push_set.ensures)
