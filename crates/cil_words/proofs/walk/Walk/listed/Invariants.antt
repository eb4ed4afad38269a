use Rattle.std.proofs.Common.{◌≡◌, ◌++◌, List, map, take}
use Rattle.std.specs.List.{flat_map}
use Rattle.cil_macros.specs.Item.{Item}
use Rattle.cil_macros.specs.Items.{all_placed}
use Rattle.cil_names.specs.Asked.{wanted_by}
use Rattle.cil_names.specs.Entries.{AreEntries}
use Rattle.cil_names.specs.Unresolved.{ArePermissions}
use Rattle.cil_words.specs.Scopes.{AreScopes}
use Rattle.cil_words.specs.Table.{ask_of}
use Rattle.cil_words.specs.Walks.{spaces_by}
use Rattle.cil_words.proofs.walk.Walk.listed.Given as goal

abbrev pub invariant-loop-one : goal.invariant-loop-one
invariant-loop-one l =
    ((xs : List Item) → AreEntries (spaces_by l.self) xs l.self.names.now → ArePermissions (spaces_by l.self) l.self.names.now xs l.self.permissions.now
    → l.cells ≡ l.fn.cells
    ++ flat_map (λ one. map (ask_of (spaces_by l.self) l.self.names.now xs l.self.permissions.now) (wanted_by (all_placed l.self.reading.instances.now) one)) (take l.one-index l.one-items))
    × AreScopes l.self.reading.instances.now l.scopes
