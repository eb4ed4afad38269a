-- Blocks and macros that share their name with another one, by their numbers.
use Rattle.std.specs.Prelude.{◌≡◌, ◌↔◌, ℕ, ◌<◌, Bool, true, false, List, [], ◌∷◌, Contains}
use Rattle.cil_syntax.specs.Written.{Written}
use Rattle.cil_blocks.specs.Contents.{is_named}
use Rattle.cil_blocks.specs.Entries.{statement_at}
use Rattle.cil_blocks.specs.InheritFaults.{IsDoubled}
use Rattle.cil_blocks.specs.Named.{full_at}

-- the numbers of those that share their name with another one, written in one namespace or standing in one
abbrev pub AreDoubled : List Written → ℕ → List ℕ → Type 0
AreDoubled ws n found = (i : ℕ) → Contains found i ↔ ((i < n) × IsDoubled ws (statement_at ws i))

module _ {X : Type 0} where
  -- the list has exactly these
  abbrev pub AreThose : (X → Type 0) → List X → Type 0
  AreThose P xs = (x : X) → Contains xs x ↔ P x

  -- those of a list that pass
  abbrev pub AreKept : (X → Type 0) → List X → List X → Type 0
  AreKept T xs found = AreThose (λ x. Contains xs x × T x) found

-- the statement of a number is a block or a macro
abbrev pub is_named_at : List Written → ℕ → Bool
is_named_at ws i = is_named (statement_at ws i).statement.keyword

-- a number, if it is wanted
abbrev pub only_if : Bool → ℕ → List ℕ
only_if true number = number ∷ []
only_if false number = []

-- there is another number in the list
abbrev pub HasOther : List ℕ → ℕ → Type 0
HasOther numbers number = (other : ℕ) × Contains numbers other × (other ≡ number → ⊥)

-- a number of the first list, where the second has another one of its key
pub record IsMatched {K : Type 0} (key : ℕ → K) (ones others : List ℕ) (number : ℕ) : Type 0 where
  pub is_one : Contains ones number
  pub other : ℕ
  pub is_other : Contains others other
  pub one_key : key other ≡ key number
  pub differ : other ≡ number → ⊥

-- those of the list that have the key of one number
abbrev pub AreAlike : {K : Type 0} → (ℕ → K) → List ℕ → ℕ → List ℕ → Type 0
AreAlike key numbers number found = (i : ℕ) → Contains found i ↔ (Contains numbers i × (key i ≡ key number))

-- those of the list that share their key with another one in it
abbrev pub AreOthers : {K : Type 0} → (ℕ → K) → List ℕ → List ℕ → Type 0
AreOthers key numbers found = (i : ℕ) → Contains found i ↔ IsMatched key numbers numbers i

-- two different blocks or macros of one full name
pub record IsWrittenTwice (ws : List Written) (n i : ℕ) : Type 0 where
  pub within : i < n
  pub is_one : is_named_at ws i ≡ true
  pub other : ℕ
  pub other_within : other < n
  pub is_other : is_named_at ws other ≡ true
  pub one_name : full_at ws other ≡ full_at ws i
  pub differ : other ≡ i → ⊥

abbrev pub AreWrittenTwice : List Written → ℕ → List ℕ → Type 0
AreWrittenTwice ws n found = (i : ℕ) → Contains found i ↔ IsWrittenTwice ws n i
