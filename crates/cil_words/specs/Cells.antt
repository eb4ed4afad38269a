-- What words could name, in four bytes each: nearly all could name one entry. No other crate needs these words.
use Rattle.std.specs.Prelude.{◌≡◌, ℕ, ◌<◌, ◌-◌, ◌+◌, ◌++◌, List, [], ◌∷◌, Option, Some, get_or, length, map, cond, nat_lt, slice_get}
use Rattle.std.specs.List.{AllByRecursion}
use Rattle.std.specs.Option.{option_map}
use Rattle.cil_names.specs.Entries.{listed}
use Rattle.cil_names.specs.declared.permission_word.ClassPermission.{ClassPermission}
use Rattle.cil_words.specs.Table.{Ask, word_ask}

-- the first cell that is the number of a permission
abbrev pub paired : ℕ
paired = 1073741824

-- the first cell that is the number of a list
abbrev pub many : ℕ
many = 2147483648

-- a permission: the entry of its class, and its number
abbrev pub pair_ask : List ℕ → List (Option ℕ) → ℕ → Ask
pair_ask owners places g = record { could = listed (slice_get owners g); number = slice_get places g }

-- a cell below them is a list of one number
abbrev pub cell_ask : List ℕ → List (Option ℕ) → List (List ℕ) → ℕ → Ask
cell_ask owners places lists c =
    cond (nat_lt c paired) (word_ask (c ∷ [])) (cond (nat_lt c many) (pair_ask owners places (c - paired)) (word_ask (get_or lists (c - many) [])))

-- what the cells say
abbrev pub cell_asks : List ℕ → List (Option ℕ) → List (List ℕ) → List ℕ → List Ask
cell_asks owners places lists cells = map (cell_ask owners places lists) cells

-- a cell is one number, or the number of a permission or of a list that is there
abbrev pub IsCell : (owners places lists c : ℕ) → Type 0
IsCell owners places lists c = (c < many + lists) × (c < many → (c < paired + owners) × (c < paired + places))

abbrev pub AreCells : (owners places lists : ℕ) → List ℕ → Type 0
AreCells owners places lists cells = AllByRecursion (IsCell owners places lists) cells

-- the list of this number is this one, and those that were there stay
pub record IsPlaced (old new : List (List ℕ)) (list : List ℕ) (place : ℕ) : Type 0 where
  pub within : place < length new
  pub is_there : get_or new place [] ≡ list
  pub stay : (k : ℕ) → k < length old → get_or new k [] ≡ get_or old k []

-- a list that was added to
abbrev pub IsLonger : {X : Type 0} → List X → List X → Type 0
IsLonger {X} old new = (more : List X) × (new ≡ old ++ more)

-- at this place is the class of a permission, and its number
pub record IsPair (owners : List ℕ) (places : List (Option ℕ)) (class_ : ℕ) (number : Option ℕ) (place : ℕ) : Type 0 where
  pub owner : slice_get owners place ≡ Some class_
  pub number_there : slice_get places place ≡ Some number

-- what a permission asks for, if its class has it
abbrev pub permission_ask : Option ClassPermission → Ask
permission_ask o = record { could = listed (option_map (λ (r : ClassPermission). r.entry) o); number = option_map (λ (r : ClassPermission). r.number) o }

-- the class of a permission, with its number
abbrev pub pair_with : ℕ → Option ℕ → Ask
pair_with d n = record { could = d ∷ []; number = Some n }
