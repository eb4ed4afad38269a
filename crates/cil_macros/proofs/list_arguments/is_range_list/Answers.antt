use Rattle.cil_syntax.specs.Table.{level}
use Rattle.cil_macros.proofs.ListLemmas.{first_unread, no_pair, pair_as_second}
use Rattle.cil_macros.proofs.list_arguments.is_range_list.Goals as goal

pub returns-then-items-ne2 : goal.returns-then-items-ne2
returns-then-items-ne2 c = λ n. no_pair n level level c.args.items.now c.if-items-ne2.true

pub returns-then-not-is_level : goal.returns-then-not-is_level
returns-then-not-is_level c = λ n.
    first_unread n level level c.args.items.now c.index-items-0.result c.if-items-ne2.false c.index-items-0.is c.is_level.result (c.is_level.ensures n) c.if-not-is_level.true

pub returns : goal.returns
returns c = λ n.
    pair_as_second n level level c.args.items.now c.index-items-0.result c.index-items-1.result c.if-items-ne2.false c.index-items-0.is c.index-items-1.is c.is_level.result c.is_level-2.result (c.is_level.ensures n) c.if-not-is_level.false (c.is_level-2.ensures n)
