-- Which sets have a type.
use Rattle.std.specs.Prelude.{◌≡◌, ◌⊎◌, ◌<◌, ◌≤◌, ◌+◌, ◌/◌, ◌%◌, ℕ, suc, List, [], ◌∷◌, Contains, IsBitSet, get_or}
use Rattle.cil_index.specs.declared.memberships.Memberships.{Memberships}
use Rattle.cil_index.specs.Sets.{set_of}

-- the sets of this number are asked for every type, or it is noted for this one
abbrev pub IsKnownFor : Memberships → ℕ → ℕ → Type 0
IsKnownFor m t number = (m.first_large ≤ number) ⊎ Contains (get_or m.lists.items t []) number

-- the set of a type alone stands behind its number, and before those of several types
pub record IsAlone (sets : List (List ℕ)) (m : Memberships) (set t : ℕ) : Type 0 where
  pub has_number : set ≡ suc t
  pub is_one : set_of sets set ≡ t ∷ []
  pub before : set < m.first_several

-- the set is noted for its types: it has several, and not many
pub record IsNotedSet (m : Memberships) (set : ℕ) : Type 0 where
  pub from : m.first_several ≤ set
  pub below : set < m.first_large

-- the bit of the number is there: the words have 512 bits
abbrev pub HasBit : List ℕ → ℕ → Type 0
HasBit words n = IsBitSet (get_or words (n / 64 % 8) 0) (n % 64)

-- one of the numbers has the same bit
abbrev pub HasLike : List ℕ → ℕ → Type 0
HasLike numbers n = (k : ℕ) × Contains numbers k × (k % 512 ≡ n % 512)

-- the words have the bit of each number, and no other bit
pub record IsFilter (numbers words : List ℕ) : Type 0 where
  pub all : (n : ℕ) → Contains numbers n → HasBit words n
  pub only : (n : ℕ) → HasBit words n → HasLike numbers n

abbrev pub AreFilters : List (List ℕ) → List (List ℕ) → Type 0
AreFilters lists filters = (t : ℕ) → IsFilter (get_or lists t []) (get_or filters t [])

-- what is noted for a type are such sets
abbrev pub AreNotedSets : Memberships → Type 0
AreNotedSets m = (t n : ℕ) → Contains (get_or m.lists.items t []) n → IsNotedSet m n

-- a set that has a type is that of this type alone, or is known for the type; and one that is noted for a type has it
pub record AreMemberships (sets : List (List ℕ)) (m : Memberships) : Type 0 where
  pub known : (set t : ℕ) → Contains (set_of sets set) t → IsAlone sets m set t ⊎ IsKnownFor m t set
  pub noted : (set t : ℕ) → Contains (get_or m.lists.items t []) set → Contains (set_of sets set) t
  pub within : AreNotedSets m
  pub filtered : AreFilters m.lists.items m.filters.items

-- ---- private words

-- what is noted for a type is the number of a set of several types that has it
abbrev pub AreOfTypes : (ones : ℕ) (several lists : List (List ℕ)) → Type 0
AreOfTypes ones several lists = (n t : ℕ) → Contains (get_or lists t []) n → (place : ℕ) × (n ≡ place + ones + 1) × Contains (get_or several place []) t

-- no number that is noted is above one
abbrev pub AreAtMost : ℕ → List (List ℕ) → Type 0
AreAtMost number lists = (t n : ℕ) → Contains (get_or lists t []) n → n ≤ number

-- the first k sets of several types are noted for just their types
pub record AreNoted (ones : ℕ) (several : List (List ℕ)) (k : ℕ) (lists : List (List ℕ)) : Type 0 where
  pub each : (place t : ℕ) → place < k → Contains (get_or several place []) t → Contains (get_or lists t []) (place + ones + 1)
  pub only : AreOfTypes ones several lists
  pub below : AreAtMost (k + ones) lists

-- the sets of several types that are not asked for every type are noted for just their types
pub record AreNotedBelow (ones : ℕ) (several : List (List ℕ)) (m : Memberships) : Type 0 where
  pub first : m.first_several ≡ ones + 1
  pub within : AreNotedSets m
  pub each : (place t : ℕ) → place + ones + 1 < m.first_large → Contains (get_or several place []) t → Contains (get_or m.lists.items t []) (place + ones + 1)
  pub only : AreOfTypes ones several m.lists.items
  pub filtered : AreFilters m.lists.items m.filters.items

-- a number was added to the list of one type, and nothing else was changed
pub record IsNoted (old : List (List ℕ)) (t number : ℕ) (new : List (List ℕ)) : Type 0 where
  pub stays : (u n : ℕ) → Contains (get_or old u []) n → Contains (get_or new u []) n
  pub added : Contains (get_or new t []) number
  pub only : (u n : ℕ) → Contains (get_or new u []) n → Contains (get_or old u []) n ⊎ ((u ≡ t) × (n ≡ number))

-- a number was added to the list of each of some types, and nothing else was changed
pub record IsNotedIn (old : List (List ℕ)) (types : List ℕ) (number : ℕ) (new : List (List ℕ)) : Type 0 where
  pub stays : (u n : ℕ) → Contains (get_or old u []) n → Contains (get_or new u []) n
  pub added : (t : ℕ) → Contains types t → Contains (get_or new t []) number
  pub only : (u n : ℕ) → Contains (get_or new u []) n → Contains (get_or old u []) n ⊎ (Contains types u × (n ≡ number))
