-- What is added for the term of a constraint: the steps of what it asks for. This project's profile.
use Rattle.std.specs.Prelude.{◌≡◌, ◌≤◌, ℕ, List, ◌++◌, drop, length, Option, Some, None}
use Rattle.cil_syntax.specs.declared.kind.Kind.{Kind}
use Rattle.cil_syntax.specs.declared.term.Term as rust
use Rattle.cil_syntax.specs.declared.term.Word.{Word}
use Rattle.cil_syntax.specs.Depths.{Nests}
use Rattle.cil_syntax.specs.Said.{said_of}
use Rattle.cil_syntax.specs.Scopes.{ScopedWord}
use Rattle.cil_macros.specs.Item.{Item}
use Rattle.cil_classes.specs.names.Unresolved.{term_with}
use Rattle.cil_classes.specs.known.DeclaredKnown.{Known}
use Rattle.cil_classes.specs.known.Known.{AreStanding, BeginWith, IsKnown, enabled_in, wanted_with}
use Rattle.cil_constraints.specs.declared.push.Standing.{Standing}
use Rattle.cil_constraints.specs.declared.step.Part.{Part}
use Rattle.cil_constraints.specs.declared.step.Part.TheVariants as parts
use Rattle.cil_constraints.specs.declared.step.Step.{Step}
use Rattle.cil_constraints.specs.Contexts.{kind_of}
use Rattle.cil_constraints.specs.Expressions.{Expression, levels_of, steps_of}
use Rattle.cil_constraints.specs.Numbered.{IsExpressionOf}
use Rattle.cil_constraints.specs.Saying.{said}

-- the sets of the words of users, of roles and of types
abbrev pub sets_in : Standing → Part → List (List ℕ)
sets_in sets parts.User = sets.users.now
sets_in sets parts.Role = sets.roles.now
sets_in sets parts.Kind = sets.types.now

abbrev pub AreSets : Known → List Item → (Kind → List (List ℕ)) → Standing → Type 0
AreSets k xs names sets = (part : Part) → AreStanding k xs names (kind_of part) (sets_in sets part)

-- the steps of an expression were put behind others. It has what is asked for, by what words stand for, where meanings begin so; it has
-- so many levels at most where terms nest so
pub record IsPut (sets : Standing) (Begin : Known → (Word → ScopedWord) → Type 0) (NestsSo : ℕ → Type 0) (asks : (Word → ScopedWord) → Option (Expression (List ScopedWord))) (old new : List Step)
    : Type 0 where
  pub tree : Expression (List ℕ)
  pub behind : new ≡ old ++ steps_of tree
  pub shallow : (most : ℕ) → NestsSo most → levels_of tree ≤ most
  pub says : (k : Known) (xs : List Item) (names : Kind → List (List ℕ)) (f : Word → ScopedWord) → IsKnown k xs names → AreSets k xs names sets → Begin k f
      → (d : Expression (List ScopedWord)) × (asks f ≡ Some d) × IsExpressionOf xs (enabled_in k) names d tree

-- nothing is asked for
abbrev pub IsNothing : ((Word → ScopedWord) → Option (Expression (List ScopedWord))) → Type 0
IsNothing asks = (f : Word → ScopedWord) → asks f ≡ None

-- the term asks for nothing
abbrev pub IsUnsaid : ℕ → rust.Term → Type 0
IsUnsaid m t = IsNothing (λ f. said (term_with f m t))

-- the steps of what the term asks for were put behind others, by meanings that begin with those of its words; the rest are those behind
-- these
pub record IsAdded (sets : Standing) (m : ℕ) (t : rust.Term) (words rest : List (Option ℕ)) (old new : List Step) : Type 0 where
  pub put : IsPut sets (λ k f. BeginWith k f (said_of m t) words) (λ most. Nests most (said_of m t)) (λ f. said (term_with f m t)) old new
  pub left : (f : Word → ScopedWord) → rest ≡ drop (length (wanted_with f (said_of m t))) words
