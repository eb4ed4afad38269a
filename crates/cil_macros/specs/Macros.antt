-- The macros that stand, by their namespaces and names, as they are kept.
use Rattle.std.specs.Prelude.{◌≡◌, ◌≤◌, ◌==◌, ◌&&◌, ℕ, Bool, List, length, map, drop, Option, Some, None, slice_get, MatchOption}
use Rattle.indexmap.specs.IndexMap.{get}
use Rattle.cil_syntax.specs.Program.{program_of}
use Rattle.cil_syntax.specs.Spelling.{same_bytes}
use Rattle.cil_blocks.specs.Contents.{Standing, path_cmp, path_of}
use Rattle.cil_blocks.specs.Entries.{standings_of, statement_at}
use Rattle.cil_blocks.specs.Namespaces.{AreNamespaces, Key, space_at}
use Rattle.cil_blocks.specs.Places.{AreStandings, Standings, entries_in, spaces_in, statements_in}
use Rattle.cil_macros.specs.declared.macros.Macros.{Macros}
use Rattle.cil_macros.specs.Calls.{called_macro, macro_in, nearer_of}
use Rattle.cil_macros.specs.Placed.{Placed}

-- all that stands
abbrev pub all_standing : Standings → List Standing
all_standing s = standings_of (program_of (statements_in s)) (entries_in s)

-- the standing macro is that of this rank
pub record IsMacroAt (ss : List Standing) (o : Option Standing) (i : ℕ) : Type 0 where
  pub called : Standing
  pub is : o ≡ Some called
  pub at : slice_get ss i ≡ Some called

-- a rank, or none, says which standing macro is meant, or that none is
abbrev pub SaysOf : List Standing → Option Standing → Option ℕ → Type 0
SaysOf ss o r = MatchOption r (o ≡ None) (IsMacroAt ss o)

-- a rank, or none, says which macro of this name is meant in the namespace of this number, of those that stand from a rank on
abbrev pub SaysMacroFrom : Standings → ℕ → ℕ → List ℕ → Option ℕ → Type 0
SaysMacroFrom s from space name r = SaysOf (all_standing s) (macro_in (drop from (all_standing s)) name (Some (space_at (spaces_in s) space))) r

-- and of all
abbrev pub SaysMacro : Standings → ℕ → List ℕ → Option ℕ → Type 0
SaysMacro s space name r = SaysOf (all_standing s) (macro_in (all_standing s) name (Some (space_at (spaces_in s) space))) r

-- a rank, or none, says which macro the statement of a number calls where it is placed so
abbrev pub SaysCalled : Standings → ℕ → List ℕ → Option ℕ → Type 0
SaysCalled s number scope r =
    (p : Placed) → p.standing.statement ≡ statement_at (program_of (statements_in s)) number → map (space_at (spaces_in s)) scope ≡ p.standing.scope
    → SaysOf (all_standing s) (called_macro (all_standing s) p) r

-- ---- the table

-- two keys are of one namespace and one name
abbrev pub same_key : Key → Key → Bool
same_key a b = (a.0 == b.0) && same_bytes a.1.now b.1.now

-- the table has for each namespace, by its number, and each name the rank of the macro that is meant, of those that stand from
-- a rank on
pub record AreMacrosFrom (s : Standings) (from : ℕ) (m : Macros) : Type 0 where
  pub standings : AreStandings s
  pub namespaces : AreNamespaces (spaces_in s)
  pub meant : (k : Key) → k.0 ≤ length (spaces_in s) → SaysMacroFrom s from k.0 k.1.now (get same_key m.table k)

abbrev pub AreMacros : Standings → Macros → Type 0
AreMacros s m = AreMacrosFrom s 0 m

-- a rank is that of the nearer one of what stands at a rank and of what stands behind it, if there is that
abbrev pub SaysNearer : List Standing → ℕ → Option ℕ → ℕ → Type 0
SaysNearer ss rank None r = r ≡ rank
SaysNearer ss rank (Some k) r =
    (s t : Standing) → slice_get ss rank ≡ Some s → slice_get ss k ≡ Some t → slice_get ss r ≡ Some (nearer_of (path_cmp (path_of s) (path_of t)) s t)
