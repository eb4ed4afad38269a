-- What the names of a word ask, by the numbers of namespaces.
use Rattle.std.specs.Prelude.{◌≡◌, ℕ, Bool, if◌then◌else◌, List, [], ◌∷◌, ◌++◌}
use Rattle.cil_faults.specs.Namespaces.{Namespace}
use Rattle.cil_syntax.specs.Scopes.{names_backwards}
use Rattle.cil_blocks.specs.declared.namespaces.Space.{Space}
use Rattle.cil_blocks.specs.Namespaces.{HasNoNumber, IsNumber, space_at}

-- the namespace of a number is the one that names ask in another one, under this last name
pub record IsAskedAt (ss : List Space) (from : ℕ) (names : List ℕ) (space : ℕ) (name : List ℕ) : Type 0 where
  pub inner : Namespace
  pub taken : names_backwards names ≡ name ∷ inner
  pub numbered : IsNumber ss (inner ++ space_at ss from) space

-- the namespace that names ask in another one has no number
abbrev pub IsAskedNowhere : List Space → ℕ → List ℕ → Type 0
IsAskedNowhere ss from names = (name : List ℕ) (inner : Namespace) → names_backwards names ≡ name ∷ inner → HasNoNumber ss (inner ++ space_at ss from)

-- with a leading dot a word asks the global namespace alone
abbrev pub numbers_asked : Bool → List ℕ → List ℕ
numbers_asked global scope = if global then 0 ∷ [] else scope
