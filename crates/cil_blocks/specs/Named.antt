-- Written blocks by their full names: the own name in front of the namespace.
use Rattle.std.specs.Prelude.{◌≡◌, ◌↔◌, ◌⊎◌, ℕ, suc, ◌<◌, Bool, true, false, List, [], ◌∷◌, ◌++◌, length, map, Contains, Option, Some, None, slice_get}
use denote.Ref.{Bor}
use Rattle.std.specs.List.Sorted.{IsSortedByKey}
use Rattle.std.specs.Ordering.{nat_cmp}
use Rattle.cil_faults.specs.Namespaces.{Namespace}
use Rattle.cil_syntax.specs.Written.{Written, space_within}
use Rattle.cil_blocks.specs.declared.targets.Targets.{Targets}
use Rattle.cil_blocks.specs.Contents.{Target, is_block, is_inheriting, name_of}
use Rattle.cil_blocks.specs.Entries.{statement_at}
use Rattle.cil_blocks.specs.Numbers.{number_in}

abbrev pub full_name : Written → List (List ℕ)
full_name w = name_of w ∷ w.context.space

-- the namespace of what stands directly in a statement
abbrev pub inner_space : Written → Namespace
inner_space w = space_within w.statement.keyword w.statement.args w.context.space

-- the same of the statement of a number; the global one where there is no number
abbrev pub space_in : List Written → Option ℕ → Namespace
space_in ws None = []
space_in ws (Some k) = inner_space (statement_at ws k)

-- the namespace of a statement's contents, if it is a block
abbrev pub full_at : List Written → ℕ → List (List ℕ)
full_at ws k = full_name (statement_at ws k)

-- a number, and 0 for none
abbrev pub rank : Option ℕ → ℕ
rank None = 0
rank (Some k) = suc k

-- the blocks of a program, in the order of the numbers of their namespaces
pub record AreBlocks (ws : List Written) (numbers : List ℕ) (blocks : List ℕ) : Type 0 where
  pub sorted : IsSortedByKey (λ b. number_in numbers (Some b)) nat_cmp blocks
  pub members : (b : ℕ) → Contains blocks b ↔ ((b < length ws) × (is_block (statement_at ws b).statement.keyword ≡ true))

-- a number, if it is one of a block
abbrev pub block_in : ℕ → Bool → List ℕ
block_in number true = number ∷ []
block_in number false = []

-- of these blocks, those whose namespace has one number
abbrev pub AreOfNumber : List ℕ → List ℕ → ℕ → List ℕ → Type 0
AreOfNumber numbers blocks space found = (b : ℕ) → Contains found b ↔ (Contains blocks b × (number_in numbers (Some b) ≡ space))

-- of these blocks, those of one full name
abbrev pub AreOfName : List Written → List ℕ → List (List ℕ) → List ℕ → Type 0
AreOfName ws blocks names found = (b : ℕ) → Contains found b ↔ (Contains blocks b × (space_in ws (Some b) ≡ names))

-- the namespace that a word asks first: with a leading dot the global one
abbrev pub asked_space : Bool → Namespace → Namespace
asked_space true here = []
asked_space false here = here

-- the targets of the statement of a number
abbrev pub AreTargets : List Written → ℕ → List ℕ → Type 0
AreTargets ws number found = (b : Written) → Target ws (statement_at ws number) b ↔ Contains (map (statement_at ws) found) b

-- numbers that are borrowed; none where there are none
abbrev pub borrowed : Option (Bor (List ℕ)) → List ℕ
borrowed None = []
borrowed (Some numbers) = numbers.now

-- the targets of the statement of a number, as they are kept
abbrev pub targets_in : Targets → ℕ → List ℕ
targets_in ts i = borrowed (slice_get ts.lists.items i)

-- the targets of the statement of a number, if it is a blockinherit
pub record AreTargetsOf (ws : List Written) (i : ℕ) (found : List ℕ) : Type 0 where
  pub inheriting : (k : ℕ) → Contains found k → is_inheriting (statement_at ws i).statement.keyword ≡ true
  pub named : (k : ℕ) → Contains found k → (k < length ws) × Target ws (statement_at ws i) (statement_at ws k)
  pub all : (b : Written) → is_inheriting (statement_at ws i).statement.keyword ≡ true → Target ws (statement_at ws i) b
      → (k : ℕ) × Contains found k × (statement_at ws k ≡ b)

-- for each blockinherit the blocks that it names, and none for another statement
pub record AreAllTargets (ws : List Written) (ts : Targets) : Type 0 where
  pub inheriting : (i k : ℕ) → Contains (targets_in ts i) k → (i < length ws) × (is_inheriting (statement_at ws i).statement.keyword ≡ true)
  pub named : (i k : ℕ) → Contains (targets_in ts i) k → (k < length ws) × Target ws (statement_at ws i) (statement_at ws k)
  pub all : (i : ℕ) (b : Written) → i < length ws → is_inheriting (statement_at ws i).statement.keyword ≡ true → Target ws (statement_at ws i) b
      → (k : ℕ) × Contains (targets_in ts i) k × (statement_at ws k ≡ b)

-- none of these numbers is of this full name
abbrev pub HasNoneNamed : List Written → List ℕ → List (List ℕ) → Type 0
HasNoneNamed ws blocks names = (b : ℕ) → Contains blocks b → space_in ws (Some b) ≡ names → ⊥

-- the blocks of some names in the first of the namespaces that has one; none where none of them has
abbrev pub AreFirstNamed : List Written → List ℕ → List (List ℕ) → List Namespace → List ℕ → Type 0
AreFirstNamed ws blocks names [] found = found ≡ []
AreFirstNamed ws blocks names (n ∷ scope) found =
    (((found ≡ [] → ⊥)) × AreOfName ws blocks (names ++ n) found) ⊎ (HasNoneNamed ws blocks (names ++ n) × AreFirstNamed ws blocks names scope found)
