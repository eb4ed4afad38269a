use Rattle.std.proofs.Common.{◌≡◌, ◌++◌, List, map, take}
use Rattle.cil_macros.specs.Item.{Item}
use Rattle.cil_words.specs.Walks.{spaces_by}
use Rattle.cil_names.specs.Entries.{AreEntries}
use Rattle.cil_words.specs.Scopes.{AreScopes}
use Rattle.cil_words.specs.Table.{ask_of}
use Rattle.cil_names.specs.Readings.{scoped_there}
use Rattle.cil_names.specs.Resolves.{Word as AWord}
use Rattle.cil_names.specs.Unresolved.{ArePermissions}
use Rattle.cil_words.proofs.walk.Walk.call.Given as goal

abbrev pub invariant-loop-word : goal.invariant-loop-word
invariant-loop-word l =
    ((xs : List Item) → AreEntries (spaces_by l.self) xs l.self.names.now → ArePermissions (spaces_by l.self) l.self.names.now xs l.self.permissions.now
    → l.cells ≡ l.fn.cells ++ map (λ w. ask_of (spaces_by l.self) l.self.names.now xs l.self.permissions.now (AWord (scoped_there l.self.reading w))) (take l.word-index l.word-items))
    × AreScopes l.self.reading.instances.now l.scopes
