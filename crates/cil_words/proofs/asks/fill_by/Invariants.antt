use Rattle.std.proofs.Common.{◌≡◌, map, take, length}
use Rattle.cil_macros.specs.Items.{items_in, namespaces_in}
use Rattle.cil_names.specs.Rows.{AreWithin, lists_at}
use Rattle.cil_words.specs.Scopes.{AreScopes}
use Rattle.cil_words.specs.Table.{numbered_asks}
use Rattle.cil_words.proofs.asks.fill_by.Given as goal

abbrev pub invariant-loop-at : goal.invariant-loop-at
invariant-loop-at l =
    (lists_at l.starts.items l.cells ≡ map (numbered_asks (namespaces_in l.instances) l.maker.names.now (items_in l.instances) l.maker.permissions.now) (take l.at (items_in l.instances)))
    × AreWithin (length l.cells) l.starts.items
    × AreScopes l.instances l.scopes
