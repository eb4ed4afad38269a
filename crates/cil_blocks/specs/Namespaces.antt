-- Namespaces as numbers: number 0 is the global one, and each other one has the number of the one round it and its
-- own name. This project's profile.
use Rattle.std.specs.Prelude.{◌≡◌, ◌≤◌, ℕ, zero, suc, List, [], ◌∷◌, ◌++◌, length, get_or, map, Option, Some, None, slice_get}
use denote.Ref.{Bor}
use Rattle.cil_faults.specs.Namespaces.{Namespace}
use Rattle.cil_blocks.specs.declared.namespaces.Space.{Space}

-- the namespaces, one after another: each lies in one that stands before it
unfoldable pub spaces_from : List Namespace → List Space → List Namespace
spaces_from done [] = done
spaces_from done (s ∷ ss) = spaces_from (done ++ (s.name ∷ get_or done s.outer []) ∷ []) ss

-- the namespace of a number
unfoldable pub space_at : List Space → ℕ → Namespace
space_at ss k = get_or (spaces_from ([] ∷ []) ss) k []

-- each stands once, and behind the one round it
pub record AreNamespaces (ss : List Space) : Type 0 where
  pub behind : (i : ℕ) (s : Space) → slice_get ss i ≡ Some s → s.outer ≤ i
  pub once : (i j : ℕ) (s t : Space) → slice_get ss i ≡ Some s → slice_get ss j ≡ Some t → s.outer ≡ t.outer → s.name ≡ t.name → i ≡ j

-- the namespace of a number, if that is not the global one
abbrev pub inner_at : List Space → ℕ → Option Space
inner_at ss zero = None
inner_at ss (suc i) = slice_get ss i

-- the namespace has this number
pub record IsNumber (ss : List Space) (n : Namespace) (k : ℕ) : Type 0 where
  pub within : k ≤ length ss
  pub is : space_at ss k ≡ n

-- the namespace has no number
abbrev pub HasNoNumber : List Space → Namespace → Type 0
HasNoNumber ss n = (k : ℕ) → IsNumber ss n k → ⊥

-- some were put behind those that were there
abbrev pub IsGrown : List Space → List Space → Type 0
IsGrown old new = (more : List Space) × (new ≡ old ++ more)

-- ---- as they are kept

-- a namespace by the number of the one round it and by its name
abbrev pub Key : Type 0
Key = ℕ × Bor (List ℕ)

abbrev pub space_of : Key → Space
space_of k = record { outer = k.0; name = k.1.now }

abbrev pub spaces_of : List Key → List Space
spaces_of ks = map space_of ks
