-- Laws of look-up: what it answers, said of all items and sets of optionals at once.
use Rattle.std.specs.Prelude.{◌≡◌, ℕ, ◌<◌, List, Contains, length}
use Rattle.std.specs.List.{list_any}
use Rattle.cil_names.specs.declared.entry.Entry.{Entry}
use Rattle.cil_macros.specs.blocks.Space.{Space}
use Rattle.cil_names.specs.Entries.{AreEntries, IsAnswer, is_declared_at}
use Rattle.cil_macros.specs.Item.{Item, OptSet}
use Rattle.cil_syntax.specs.Scopes.{ScopedWord}
use Rattle.cil_names.specs.Meanings.{meant}
use Rattle.cil_names.specs.PermissionWords.{IsAnswerFor, wanted_candidates, wanted_meaning}
use Rattle.cil_names.specs.Resolves.{Wanted, resolves}
use Rattle.cil_macros.specs.blocks.Namespaces.{AreNamespaces}

-- what a word means is the entry that it names, and nothing where it names nothing
abbrev pub MeansWhatItNames : Type 0
MeansWhatItNames =
    (ss : List Space) (xs : List Item) (es : List Entry) (s : OptSet) (w : ScopedWord) → AreNamespaces ss → AreEntries ss xs es → IsAnswer ss xs es s w (meant ss es s w)

-- the same of all that statements ask for: a word, or a permission with its class word
abbrev pub WantedMeansWhatItNames : Type 0
WantedMeansWhatItNames =
    (ss : List Space) (xs : List Item) (es : List Entry) (s : OptSet) (w : Wanted) → AreNamespaces ss → AreEntries ss xs es
    → IsAnswerFor ss xs es s w (wanted_meaning ss es xs s w)

-- what a statement asks for resolves where one of the entries that it could name is declared
abbrev pub ResolvesByCandidates : Type 0
ResolvesByCandidates =
    (ss : List Space) (xs : List Item) (es : List Entry) (s : OptSet) (w : Wanted) → AreNamespaces ss → AreEntries ss xs es
    → resolves xs s w ≡ list_any (is_declared_at s es) (wanted_candidates ss es xs w)

-- what it could name are numbers of entries
abbrev pub CandidatesAreEntries : Type 0
CandidatesAreEntries =
    (ss : List Space) (xs : List Item) (es : List Entry) (w : Wanted) (d : ℕ) → Contains (wanted_candidates ss es xs w) d → d < length es
