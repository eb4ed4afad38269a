-- What stands, as it is kept: each statement by its number, with the place of the one that opened it.
use Rattle.std.specs.Prelude.{◌≡◌, ℕ, ◌<◌, ◌==◌, if◌then◌else◌, List, [], ◌∷◌, ◌++◌, length, map, filter, get_or, slice_get, Contains, Option, Some, None}
use Rattle.std.specs.Global.{Vec}
use Rattle.std.specs.List.Sorted.{IsStrictlySortedBy}
use Rattle.cil_syntax.specs.declared.kind.Keyword.{Keyword}
use Rattle.cil_syntax.specs.declared.kind.Keyword.TheVariants as keywords
use Rattle.cil_syntax.specs.Terms.{nil}
use Rattle.cil_syntax.specs.Written.{Written, at_top, written_cmp}
use Rattle.cil_blocks.specs.declared.entry.Entry.{Entry}
use Rattle.cil_blocks.specs.declared.parts.Parts.{Parts}
use Rattle.cil_blocks.specs.Contents.{Standing, is_abstract, standing_top, standing_in_block, standing_in_branch, standing_in_optional, standing_inherited}
use Rattle.cil_blocks.specs.Laws.{HasOneTarget}
use Rattle.cil_blocks.specs.Opens.{is_on_top, parts, target_of}

-- ---- statements by their numbers

-- what a number says that is none of a statement. No program has it: what is written as a blockabstract begins with a word
abbrev pub nothing : Written
nothing = record { context = at_top; statement = record { keyword = keywords.BlockAbstract; at = record { «module» = 0; at = 0 }; args = nil } }

abbrev pub statement_at : List Written → ℕ → Written
statement_at ws i = get_or ws i nothing

-- ---- what stands

-- what a blockinherit opens
abbrev pub standing_through : Standing → Option Written → Written → Standing
standing_through s None w = standing_in_block s w
standing_through s (Some b) w = standing_inherited s b w

abbrev pub standing_as : List Written → Standing → Keyword → Written → Standing
standing_as ws s keywords.BlockInherit w = standing_through s (target_of ws s.statement) w
standing_as ws s keywords.Optional w = standing_in_optional s w
standing_as ws s keywords.BooleanIf w = standing_in_branch s w
standing_as ws s k w = standing_in_block s w

-- a statement that a standing one opened, or that is at the top
abbrev pub standing_under : List Written → Option Standing → Written → Standing
standing_under ws None w = standing_top w
standing_under ws (Some s) w = standing_as ws s s.statement.statement.keyword w

-- the one at a place
abbrev pub opener_of : {X : Type 0} → List X → Option ℕ → Option X
opener_of done None = None
opener_of done (Some k) = slice_get done k

abbrev pub stepped : List Written → List Standing → Option ℕ → ℕ → Standing
stepped ws done opener i = standing_under ws (opener_of done opener) (statement_at ws i)

-- the entries, each opened by one before it
unfoldable pub standings_from : List Written → List Standing → List Entry → List Standing
standings_from ws done [] = done
standings_from ws done (e ∷ es) = standings_from ws (done ++ stepped ws done e.opener e.statement ∷ []) es

abbrev pub standings_of : List Written → List Entry → List Standing
standings_of ws es = standings_from ws [] es

-- the opener is one of the first so many
abbrev pub IsWithin : Option ℕ → ℕ → Type 0
IsWithin None n = Unit {0}
IsWithin (Some k) n = k < n

-- ---- what opens what

-- the statement whose parts a statement opens where it stands
abbrev pub opened_block : List Written → Written → Option Written
opened_block ws w = if is_abstract ws w then None else Some w

abbrev pub opened_as : List Written → Written → Keyword → Option Written
opened_as ws w keywords.Block = opened_block ws w
opened_as ws w keywords.BlockInherit = target_of ws w
opened_as ws w keywords.Optional = Some w
opened_as ws w keywords.BooleanIf = Some w
opened_as ws w k = None

abbrev pub opened_of : List Written → Written → Option Written
opened_of ws w = opened_as ws w w.statement.keyword

abbrev pub first_number : List ℕ → Option ℕ
first_number [] = None
first_number (k ∷ ks) = Some k

-- the numbers at a place of a list of lists
abbrev pub numbers_in : Option (Vec ℕ) → List ℕ
numbers_in None = []
numbers_in (Some v) = v.items

abbrev pub parts_at : Parts → ℕ → List ℕ
parts_at ps k = numbers_in (slice_get ps.inside.items k)

abbrev pub opened_in : Parts → Option (Option ℕ) → List ℕ
opened_in ps None = []
opened_in ps (Some None) = []
opened_in ps (Some (Some k)) = parts_at ps k

abbrev pub opened_by : Parts → List (Option ℕ) → ℕ → List ℕ
opened_by ps os i = opened_in ps (slice_get os i)

-- a number, or none, says which statement is opened, or that none is
abbrev pub SaysOpened : List Written → Option (Option ℕ) → Option Written → Type 0
SaysOpened ws None o = o ≡ None
SaysOpened ws (Some None) o = o ≡ None
SaysOpened ws (Some (Some k)) o = (k < length ws) × (o ≡ Some (statement_at ws k))

-- all these numbers are of statements
abbrev pub AreBelow : ℕ → List ℕ → Type 0
AreBelow n ks = (k : ℕ) → Contains ks k → k < n

-- the statements at the top and those directly in each
pub record AreParts (ws : List Written) (ps : Parts) : Type 0 where
  pub tops : map (statement_at ws) ps.tops.items ≡ filter is_on_top ws
  pub inside : (k : ℕ) → k < length ws → map (statement_at ws) (parts_at ps k) ≡ parts ws (statement_at ws k)
  pub are_numbers : (k : ℕ) → AreBelow (length ws) (parts_at ps k)
  pub top_numbers : AreBelow (length ws) ps.tops.items

-- a number that is put at a place, or at the top where there is none
abbrev pub put_top : Option ℕ → ℕ → List ℕ
put_top None number = number ∷ []
put_top (Some under) number = []

abbrev pub put_at : Option ℕ → ℕ → ℕ → List ℕ
put_at None number k = []
put_at (Some under) number k = if under == k then number ∷ [] else []

-- which statement's parts each opens
abbrev pub AreOpened : List Written → List (Option ℕ) → Type 0
AreOpened ws os = (i : ℕ) → SaysOpened ws (slice_get os i) (opened_of ws (statement_at ws i))

-- all that a walk needs to know of a program
pub record IsWalkable (ws : List Written) (ps : Parts) (os : List (Option ℕ)) : Type 0 where
  pub rising : IsStrictlySortedBy written_cmp ws
  pub one_target : HasOneTarget ws
  pub are_parts : AreParts ws ps
  pub are_opened : AreOpened ws os
