-- What a word means: the number of the entry that it names, or nothing. This project's profile.
use Rattle.std.specs.Prelude.{ℕ, List, find, Option, Some, None, zero, suc}
use Rattle.cil_names.specs.declared.entry.Entry.{Entry}
use Rattle.cil_macros.specs.blocks.Space.{Space}
use Rattle.cil_names.specs.Entries.{candidates_of, is_declared_at}
use Rattle.cil_macros.specs.Item.{OptSet}
use Rattle.cil_syntax.specs.Scopes.{ScopedWord}

-- the number that is kept as the next one, so that 0 is nothing
abbrev pub before : ℕ → Option ℕ
before zero = None
before (suc d) = Some d

-- what a word means: the first entry that it could name and that is declared
abbrev pub meant : List Space → List Entry → OptSet → ScopedWord → Option ℕ
meant ss es s w = find (is_declared_at s es) (candidates_of ss es w)
