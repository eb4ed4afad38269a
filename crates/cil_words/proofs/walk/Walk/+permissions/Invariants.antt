use Rattle.std.proofs.Common.{◌≡◌, ◌++◌, List, drop}
use Rattle.cil_syntax.specs.Scopes.{ScopedWord}
use Rattle.cil_macros.specs.Item.{Item}
use Rattle.cil_words.specs.Walks.{spaces_by}
use Rattle.cil_names.specs.Classes.{IsClassFor}
use Rattle.cil_names.specs.Entries.{AreEntries}
use Rattle.cil_words.specs.Table.{ask_of}
use Rattle.cil_names.specs.Readings.{module_of, word_read}
use Rattle.cil_names.specs.Resolves.{Permission as APermission}
use Rattle.cil_names.specs.Unresolved.{ArePermissions}
use Rattle.cil_words.proofs.WalkLemmas.{each_all}
use Rattle.cil_words.proofs.walk.Walk.+permissions.Given as goal

abbrev pub invariant-permissions-loop-term : goal.invariant-permissions-loop-term
invariant-permissions-loop-term l =
    (w : ScopedWord) → IsClassFor (spaces_by l.self) l.self.names.now l.self.permissions.now w l.found
    → (xs : List Item) → AreEntries (spaces_by l.self) xs l.self.names.now → ArePermissions (spaces_by l.self) l.self.names.now xs l.self.permissions.now
    → l.cells ++ each_all (word_read l.self.reading) (module_of l.self.reading) (λ p. ask_of (spaces_by l.self) l.self.names.now xs l.self.permissions.now (APermission w p)) (drop l.term-index l.terms)
    ≡ l.fn.cells ++ each_all (word_read l.self.reading) (module_of l.self.reading) (λ p. ask_of (spaces_by l.self) l.self.names.now xs l.self.permissions.now (APermission w p)) l.terms
