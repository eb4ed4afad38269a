-- A word in a scope, namespace by namespace: what is known of it before, and what it could name in each. This project's profile.
use Rattle.std.specs.Prelude.{◌↔◌, ◌++◌, ℕ, List, IfSome, IsTrue}
use Rattle.cil_syntax.specs.declared.term.Word.{Word}
use Rattle.cil_syntax.specs.Scopes.{IsDotless, IsTaken, asked}
use Rattle.cil_macros.specs.blocks.Space.{Space}
use Rattle.cil_macros.specs.blocks.Namespaces.{space_at}
use Rattle.cil_names.specs.declared.entry.Entry.{Entry}
use Rattle.cil_names.specs.declared.sought.Sought.{Sought}
use Rattle.cil_names.specs.Entries.{candidate, listed}
use Rattle.cil_names.specs.Soles.{AreRanked, IsOfRank}

-- the path of the word, the place of the name space of what it wants, and the entries of its name if it has no dots
pub record IsSought (es : List Entry) (w : Word) (s : Sought) : Type 0 where
  pub taken : IsTaken w.bytes s.path.global s.path.names.now
  pub dotless : IsTrue s.path.dotless ↔ IsDotless s.path.names.now
  pub ranked : IsOfRank w.sign s.rank
  pub plain : IfSome s.same (λ _. IsTrue s.path.dotless)
  pub same : IfSome s.same (AreRanked es (record { name = s.path.names.now; rank = s.rank }))

-- the entry that a word could name in the namespace of a number
abbrev pub could_name : List Space → List Entry → Word → ℕ → List ℕ
could_name ss es w k = listed (candidate ss es (asked w.bytes).name w.sign ((asked w.bytes).inner ++ space_at ss k))
