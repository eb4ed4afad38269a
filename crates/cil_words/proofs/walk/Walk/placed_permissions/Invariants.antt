use Rattle.std.proofs.Common.{◌≡◌, ◌++◌, List, map, take}
use Rattle.cil_macros.specs.Item.{Item}
use Rattle.cil_names.specs.Classes.{IsClassFor}
use Rattle.cil_names.specs.Entries.{AreEntries}
use Rattle.cil_names.specs.Readings.{scoped_there}
use Rattle.cil_names.specs.Resolves.{Permission as APermission}
use Rattle.cil_names.specs.Unresolved.{ArePermissions}
use Rattle.cil_syntax.specs.Scopes.{ScopedWord}
use Rattle.cil_words.specs.Table.{ask_of}
use Rattle.cil_words.specs.Walks.{spaces_by}
use Rattle.cil_words.proofs.walk.Walk.placed_permissions.Given as goal

abbrev pub invariant-loop-permission : goal.invariant-loop-permission
invariant-loop-permission l =
    (w : ScopedWord) → IsClassFor (spaces_by l.self) l.self.names.now l.self.permissions.now w l.found
    → (xs : List Item) → AreEntries (spaces_by l.self) xs l.self.names.now → ArePermissions (spaces_by l.self) l.self.names.now xs l.self.permissions.now
    → l.cells ≡ l.fn.cells
    ++ map (λ p. ask_of (spaces_by l.self) l.self.names.now xs l.self.permissions.now (APermission w (scoped_there l.self.reading p))) (take l.permission-index l.permissions)
