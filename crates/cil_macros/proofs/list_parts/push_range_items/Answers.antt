use Rattle.cil_syntax.specs.Said.{all_said}
use Rattle.cil_syntax.specs.Table.{level}
use Rattle.cil_macros.specs.Fits.{all_read_as}
use Rattle.cil_macros.proofs.ListLemmas.{no_pair, range_items}
use Rattle.cil_macros.proofs.AskLemmas.{puts_pair, terms_unread}
use Rattle.cil_macros.proofs.list_parts.push_range_items.Goals as goal

pub returns-then-items-ne2 : goal.returns-then-items-ne2
returns-then-items-ne2 c =
    terms_unread (all_read_as range_items (all_said c.args.«module» c.args.items.now))
    (no_pair c.args.«module» level level c.args.items.now c.if-items-ne2.true) c.args.parts.now.items c.args.parts.now.items

pub returns : goal.returns
returns c =
    puts_pair c.args.«module» c.args.items.now level level c.index-items-0.result c.index-items-1.result
    c.if-items-ne2.false c.index-items-0.is c.index-items-1.is c.args.parts.now.items c.push_level.new.parts.items c.push_level-2.new.parts.items c.in_ok-push_level.ensures c.in_ok-push_level-2.ensures
