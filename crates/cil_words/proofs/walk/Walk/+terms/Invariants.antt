use Rattle.std.proofs.Common.{◌≡◌, ◌++◌, List, drop}
use Rattle.cil_macros.specs.Item.{Item}
use Rattle.cil_words.specs.Walks.{spaces_by}
use Rattle.cil_names.specs.Entries.{AreEntries}
use Rattle.cil_words.specs.Scopes.{AreScopes}
use Rattle.cil_words.specs.Table.{ask_of}
use Rattle.cil_names.specs.Readings.{module_of, word_read}
use Rattle.cil_names.specs.Unresolved.{ArePermissions}
use Rattle.cil_words.proofs.WalkLemmas.{could_all}
use Rattle.cil_words.proofs.walk.Walk.+terms.Given as goal

abbrev pub invariant-terms-loop-term : goal.invariant-terms-loop-term
invariant-terms-loop-term l =
    ((xs : List Item) → AreEntries (spaces_by l.self) xs l.self.names.now → ArePermissions (spaces_by l.self) l.self.names.now xs l.self.permissions.now
    → l.cells ++ could_all (word_read l.self.reading) (module_of l.self.reading) (ask_of (spaces_by l.self) l.self.names.now xs l.self.permissions.now) (drop l.term-index l.terms)
    ≡ l.fn.cells ++ could_all (word_read l.self.reading) (module_of l.self.reading) (ask_of (spaces_by l.self) l.self.names.now xs l.self.permissions.now) l.terms)
    × AreScopes l.self.reading.instances.now l.scopes
