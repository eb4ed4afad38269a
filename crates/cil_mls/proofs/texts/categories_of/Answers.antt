use Rattle.cil_mls.specs.Names.{IsNamed}
use Rattle.cil_mls.proofs.NameLemmas.{named_once}
use Rattle.cil_mls.proofs.ItemLemmas.{first_is_no_item, last_gained, one_less, rest_is_no_item}
use Rattle.cil_mls.proofs.texts.categories_of.Goals as goal

pub returns-then-not-add_item : goal.returns-then-not-add_item
returns-then-not-add_item c =
    let names = c.args.names.now in
    first_is_no_item (IsNamed names) (named_once names c.requires.rising) c.args.items.now c.loop-parts.categories.words c.loop-parts.rest.now _ _ c.loop-parts.invariant c.in-Some.ensures c.if-not-add_item.ensures

pub loop-parts-preserved : goal.loop-parts-preserved
loop-parts-preserved c =
    let names = c.args.names.now in
    one_less (IsNamed names) (named_once names c.requires.rising) c.args.items.now c.loop-parts.categories.words c.add_item.new.categories.words c.loop-parts.rest.now _ _ c.loop-parts.invariant c.in-Some.ensures c.if-not-add_item.ensures

pub returns-then-add_item : goal.returns-then-add_item
returns-then-add_item c =
    let names = c.args.names.now in
    last_gained (IsNamed names) (named_once names c.requires.rising) c.args.items.now c.loop-parts.categories.words c.add_item-2.new.categories.words c.loop-parts.rest.now c.loop-parts.invariant c.in_default.ensures c.if-add_item.ensures

pub returns-else-add_item : goal.returns-else-add_item
returns-else-add_item c =
    let names = c.args.names.now in
    rest_is_no_item (IsNamed names) (named_once names c.requires.rising) c.args.items.now c.loop-parts.categories.words c.loop-parts.rest.now c.loop-parts.invariant c.in_default.ensures c.if-add_item.ensures
