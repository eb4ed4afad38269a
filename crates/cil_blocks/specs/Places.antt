-- Where statements stand, by the numbers of namespaces. This project's profile.
use Rattle.std.specs.Prelude.{◌≡◌, ℕ, List, [], ◌∷◌, ◌++◌, map, flat_map, get_or, Option, None, Some, slice_get}
use Rattle.cil_faults.specs.Namespaces.{Namespace}
use Rattle.cil_syntax.specs.Scopes.{Scope}
use Rattle.cil_syntax.specs.declared.program.Statement.{Statement}
use Rattle.cil_syntax.specs.Program.{program_of}
use Rattle.cil_syntax.specs.Written.{Written}
use Rattle.cil_blocks.specs.declared.entry.Entry.{Entry}
use Rattle.cil_blocks.specs.declared.namespaces.Space.{Space}
use Rattle.cil_blocks.specs.declared.places.Place.{Place}
use Rattle.cil_blocks.specs.Contents.{Standing}
use Rattle.cil_blocks.specs.Entries.{standings_of}
use Rattle.cil_blocks.specs.Namespaces.{IsNumber, space_at}
use Rattle.cil_blocks.specs.Numbers.{AreWithin, chain_numbers, with_numbers}
use Rattle.cil_syntax.specs.Depths.{AreShallow}
use Rattle.cil_blocks.specs.Reports.{AreContents}

-- a namespace, and those in which words are looked up, by their numbers
abbrev pub Numbered : Type 0
Numbered = ℕ × List ℕ

-- ---- places as they are kept

-- how a place is reached: its namespace; those of the blocks in which it is, the innermost first; and those in which the
-- blocks are written that are inherited on the way, the outermost first
abbrev pub Reached : Type 0
Reached = ℕ × List ℕ × List ℕ

-- the top of a module
abbrev pub reached_top : Reached
reached_top = (0, [], [])

-- what is opened there: in a block of this namespace, or inherited in it from a block that is written in another one
abbrev pub reached_through : Reached → ℕ → Option ℕ → Reached
reached_through r space None = (space, space ∷ r.1, r.2)
reached_through r space (Some written) = (space, r.1, r.2 ++ written ∷ [])

abbrev pub reached_by : Reached → Place → Reached
reached_by r p = reached_through r p.space p.written

-- the places that are kept, behind others: each is reached from one before it
unfoldable pub reached_from : List Reached → List Place → List Reached
reached_from done [] = done
reached_from done (p ∷ ps) = reached_from (done ++ reached_by (get_or done p.outer reached_top) p ∷ []) ps

-- the place of a number: 0 is the top of a module, and those that are kept are counted from 1
unfoldable pub reached_at : List Place → ℕ → Reached
reached_at kept k = get_or (reached_from (reached_top ∷ []) kept) k reached_top

-- the places that some numbers choose among those kept
abbrev pub reached_of : List Place → List ℕ → List Reached
reached_of kept which = map (reached_at kept) which

-- ---- their scopes

-- the numbers in which words are looked up, as they come: first the blocks, and then what is round those inherited
abbrev pub numbers_of : List Space → Reached → List ℕ
numbers_of spaces r = r.1 ++ flat_map (chain_numbers spaces) r.2

-- each of them once, at its first place, and that of the global namespace last
abbrev pub numbered : List Space → Reached → Numbered
numbered spaces r = (r.0, with_numbers [] (numbers_of spaces r) ++ 0 ∷ [])

abbrev pub all_numbered : List Space → List Reached → List Numbered
all_numbered spaces rs = map (numbered spaces) rs

-- ---- what they say

-- the numbers are those of a namespace and of a scope
pub record IsPlace (spaces : List Space) (space : Namespace) (scope : Scope) (p : Numbered) : Type 0 where
  pub is_space : IsNumber spaces space p.0
  pub within : AreWithin spaces p.1
  pub is_scope : map (space_at spaces) p.1 ≡ scope

-- where a standing statement is, among some places
pub record IsPlaced (spaces : List Space) (ps : List Numbered) (i : ℕ) (s : Standing) : Type 0 where
  pub place : Numbered
  pub is : slice_get ps i ≡ Some place
  pub so : IsPlace spaces s.space s.scope place

-- the number is that of the namespace of one of them
abbrev pub IsInSpace : List Numbered → ℕ → ℕ → Type 0
IsInSpace ps rank space = (p : Numbered) × (slice_get ps rank ≡ Some p) × (space ≡ p.0)

-- the places are those of all that stands
abbrev pub ArePlaces : List Written → List Entry → List Space → List Numbered → Type 0
ArePlaces ws es spaces ps = (i : ℕ) (s : Standing) → slice_get (standings_of ws es) i ≡ Some s → IsPlaced spaces ps i s

-- ---- all that stands, as it is handed up

-- the statements of a program, what stands, the namespaces, and where each stands
abbrev pub Standings : Type 0
Standings = List Statement × List Entry × List Space × List Numbered

abbrev pub statements_in : Standings → List Statement
statements_in s = s.0

abbrev pub entries_in : Standings → List Entry
entries_in s = s.1

abbrev pub spaces_in : Standings → List Space
spaces_in s = s.2

abbrev pub places_in : Standings → List Numbered
places_in s = s.3

pub record AreStandings (s : Standings) : Type 0 where
  pub contents : AreContents (statements_in s) (entries_in s)
  pub shallow : AreShallow (statements_in s)
  pub places : ArePlaces (program_of (statements_in s)) (entries_in s) (spaces_in s) (places_in s)
