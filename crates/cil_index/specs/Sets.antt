-- The sets of types that rules name, by their numbers.
use Rattle.std.specs.Prelude.{◌≡◌, ℕ, ◌≤◌, zero, suc, List, [], ◌∷◌, ◌++◌, length, Contains, Some, get_or, slice_get}

-- the empty set, and then a set of each type alone
unfoldable pub small_sets : ℕ → List (List ℕ)
small_sets zero = [] ∷ []
small_sets (suc n) = small_sets n ++ (n ∷ []) ∷ []

-- the sets, each at the place of its number: the small ones first
unfoldable pub all_sets : ℕ → List (List ℕ) → List (List ℕ)
all_sets ones several = small_sets ones ++ several

-- each has several types
abbrev pub AreSeveral : List (List ℕ) → Type 0
AreSeveral sets = (set : List ℕ) → Contains sets set → 2 ≤ length set

-- the set of a number
abbrev pub set_of : List (List ℕ) → ℕ → List ℕ
set_of sets number = get_or sets number []

-- ---- the sets of declared names

-- these are their numbers among the distinct ones. A number that is no declared name has the empty set
abbrev pub AreNumbered : (distinct named : List (List ℕ)) → List ℕ → Type 0
AreNumbered distinct named numbers = (d : ℕ) → slice_get distinct (get_or numbers d 0) ≡ Some (set_of named d)

-- this is the number of the empty set, or of one type alone
abbrev pub IsSmallNumber : List ℕ → ℕ → Type 0
IsSmallNumber [] n = n ≡ 0
IsSmallNumber (t ∷ more) n = (more ≡ []) × (n ≡ suc t)
