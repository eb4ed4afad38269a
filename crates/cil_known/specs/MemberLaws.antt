-- Laws of what words stand for.
use Rattle.std.specs.Prelude.{◌≡◌, ◌↔◌, ℕ, true, List, Some}
use Rattle.cil_syntax.specs.Scopes.{ScopedWord, asked}
use Rattle.cil_syntax.specs.declared.kind.Kind.{Kind}
use Rattle.cil_syntax.specs.Kinds.{is_wanted}
use Rattle.cil_names.specs.macros.Item.{Item, OptSet}
use Rattle.cil_names.specs.Declarations.{Declared, Symbol}
use Rattle.cil_known.specs.Family.{Family, IsRanked, Range, Solves, holds, no_range}
use Rattle.cil_known.specs.Spaces.{SpaceOf, is_declared, is_set}
use Rattle.cil_known.specs.Members.{HasNoSets, StandsFor, space_of}
use Rattle.cil_names.specs.Resolves.{found_in}

-- a law: where ranks fall, one family alone solves the equations
abbrev pub HasOneFamily : Type 0
HasOneFamily = (xs : List Item) (s : OptSet) (space : SpaceOf) (range : Range) (rank : Symbol → ℕ) → IsRanked xs s space range rank → (m n : Family) → Solves xs s space range m
    → Solves xs s space range n → (a t : Symbol) → is_set xs s space a ≡ true → m a t ≡ n a t

-- a law: so a word holds the same in each family that solves them
abbrev pub HoldsTheSame : Type 0
HoldsTheSame = (xs : List Item) (s : OptSet) (space : SpaceOf) (range : Range) (rank : Symbol → ℕ) → IsRanked xs s space range rank → (m n : Family) → Solves xs s space range m
    → Solves xs s space range n → (w : ScopedWord) (t : Symbol) → holds xs s space range m w t ≡ holds xs s space range n w t

-- a law: the test says what `Declared` says
abbrev pub TestsDeclared : Type 0
TestsDeclared = (xs : List Item) (s : OptSet) (kind : Kind) (t : Symbol) → (is_declared xs s kind t ≡ true) ↔ Declared xs s kind t

-- a law: where a kind has no sets, a word stands for the one symbol that it names
abbrev pub StandsForOne : Type 0
StandsForOne = (xs : List Item) (s : OptSet) (kind : Kind) → HasNoSets kind → (w : ScopedWord) (t : Symbol)
    → StandsFor xs s kind w t ↔ ((is_wanted w.sign kind ≡ true) × (found_in xs s w ≡ Some t.space) × (t.name ≡ (asked w.bytes).name) × Declared xs s kind t)

-- a law: where ranks fall, a word stands for what it holds in any family that solves the equations
abbrev pub StandsAsHeld : Type 0
StandsAsHeld = (xs : List Item) (s : OptSet) (kind : Kind) (rank : Symbol → ℕ) → IsRanked xs s (space_of kind) no_range rank → (m : Family) → Solves xs s (space_of kind) no_range m
    → (w : ScopedWord) (t : Symbol) → StandsFor xs s kind w t ↔ ((holds xs s (space_of kind) no_range m w t ≡ true) × Declared xs s kind t)
