-- The walk over calls: what it stands on, and what holds of what it has brought so far.
use Rattle.std.specs.Prelude.{◌≡◌, ℕ, ◌<◌, ◌≤◌, ◌++◌, List, map, Contains, Option, Some, None, slice_get, IfSome, MatchOption}
use Rattle.cil_syntax.specs.Program.{program_of}
use Rattle.cil_syntax.specs.Scopes.{Scope, tidy}
use Rattle.cil_syntax.specs.Written.{Written}
use Rattle.cil_blocks.specs.declared.namespaces.Space.{Space}
use Rattle.cil_blocks.specs.Contents.{Standing}
use Rattle.cil_blocks.specs.Entries.{AreParts}
use Rattle.cil_blocks.specs.Namespaces.{space_at}
use Rattle.cil_blocks.specs.Numbers.{AreWithin}
use Rattle.cil_blocks.specs.Places.{AreStandings, Standings, spaces_in, statements_in}
use Rattle.cil_macros.specs.declared.chain.Brought.{Brought}
use Rattle.cil_macros.specs.declared.entry.Body.{Body}
use Rattle.cil_macros.specs.declared.entry.Called.{Called}
use Rattle.cil_macros.specs.declared.source.Source.{Source}
use Rattle.cil_macros.specs.Calls.{Unfolded, called_macro, unfolded}
use Rattle.cil_macros.specs.Entries.{AreBodies, AreBodySpaces, placed_of}
use Rattle.cil_macros.specs.Firsts.{AreFirsts}
use Rattle.cil_macros.specs.Macros.{AreMacros, IsMacroAt, all_standing}
use Rattle.cil_macros.specs.Opens.{opens_call, opens_placed}
use Rattle.cil_macros.specs.Placed.{Placed}

abbrev pub written_in : Standings → List Written
written_in s = program_of (statements_in s)

-- all that is placed: what stands, and then what calls bring
abbrev pub placed_in : Standings → List Called → List Placed
placed_in s cs = placed_of (written_in s) (all_standing s) cs

-- the numbers are those of a scope
pub record IsScope (spaces : List Space) (scope : Scope) (ks : List ℕ) : Type 0 where
  pub within : AreWithin spaces ks
  pub is : map (space_at spaces) ks ≡ scope

-- the numbers are those of the scope of what is placed there
abbrev pub HasScope : Standings → List Called → ℕ → List ℕ → Type 0
HasScope s cs at ks = (p : Placed) → slice_get (placed_in s cs) at ≡ Some p → IsScope (spaces_in s) p.standing.scope ks

-- what is placed at a place has the scope of what is placed at another one, which is not behind it
pub record IsScopePlace (ps : List Placed) (at from : ℕ) : Type 0 where
  pub near : from ≤ at
  pub same : (p q : Placed) → slice_get ps at ≡ Some p → slice_get ps from ≡ Some q → p.standing.scope ≡ q.standing.scope

-- what is placed at two places has one scope
abbrev pub HaveOneScope : List Placed → ℕ → ℕ → Type 0
HaveOneScope ps at other = (p q : Placed) → slice_get ps at ≡ Some p → slice_get ps other ≡ Some q → p.standing.scope ≡ q.standing.scope

-- the statements of a macro at a call have the scope of what is placed somewhere, which is not behind the call
pub record IsBodyScope (ss : List Standing) (ps : List Placed) (call called from : ℕ) : Type 0 where
  pub near : from ≤ call
  pub same : (p q : Placed) (m : Standing) → slice_get ps call ≡ Some p → slice_get ps from ≡ Some q → slice_get ss called ≡ Some m
      → tidy (m.scope ++ p.standing.scope) ≡ q.standing.scope

-- so have those of each body that names such a place
abbrev pub AreBodyScopes : List Standing → List Placed → List Body → Type 0
AreBodyScopes ss ps bs = (b : Body) → Contains bs b → IfSome b.scope (IsBodyScope ss ps b.call b.macro_rank)

-- what a walk stands on
pub record IsSource (s : Source) : Type 0 where
  pub standings : AreStandings s.spaces.now
  pub macros : AreMacros s.spaces.now s.macros.now
  pub parts : AreParts (written_in s.spaces.now) s.parts.now

-- what a walk has brought
pub record AreBrought (s : Standings) (b : Brought) : Type 0 where
  pub bodies : AreBodies (written_in s) (all_standing s) b.entries.items b.bodies.items
  pub spaces : AreBodySpaces (written_in s) (all_standing s) (spaces_in s) b.entries.items b.bodies.items
  pub scopes : AreBodyScopes (all_standing s) (placed_in s b.entries.items) b.bodies.items
  pub firsts : AreFirsts (all_standing s) b

-- what is placed there opens what a call opens: it is no optional and no booleanif of a body
abbrev pub OpensAsCall : Standings → List Called → ℕ → Type 0
OpensAsCall s cs at =
    (p : Placed) → slice_get (placed_in s cs) at ≡ Some p
    → opens_placed (written_in s) (all_standing s) p ≡ opens_call (written_in s) p (unfolded (written_in s) (all_standing s) p)

-- the body of this number is that of the call at a place
pub record IsBodyOf (bs : List Body) (at number : ℕ) : Type 0 where
  pub body : Body
  pub is : slice_get bs number ≡ Some body
  pub by_call : body.call ≡ at

-- the call at a place has no body
abbrev pub HasNoBody : List Body → ℕ → Type 0
HasNoBody bs at = (number : ℕ) → IsBodyOf bs at number → ⊥

-- each body is that of a later call than those before it
abbrev pub AreCallsRising : List Body → Type 0
AreCallsRising bs = (i j : ℕ) (a b : Body) → i < j → slice_get bs i ≡ Some a → slice_get bs j ≡ Some b → a.call < b.call

-- the bodies are in the order of their calls, which are all those before a place that are unfolded
pub record AreInTurn (s : Standings) (cs : List Called) (bs : List Body) (at : ℕ) : Type 0 where
  pub rising : AreCallsRising bs
  pub before : (i : ℕ) (b : Body) → slice_get bs i ≡ Some b → b.call < at
  pub all : (k : ℕ) (p : Placed) (u : Unfolded) → k < at → slice_get (placed_in s cs) k ≡ Some p → unfolded (written_in s) (all_standing s) p ≡ Some u
      → (number : ℕ) × IsBodyOf bs k number

-- the macro that is called there, by its rank
abbrev pub SaysMeant : Standings → List Called → ℕ → Option ℕ → Type 0
SaysMeant s cs at o =
    (p : Placed) → slice_get (placed_in s cs) at ≡ Some p
    → MatchOption o (called_macro (all_standing s) p ≡ None) (IsMacroAt (all_standing s) (called_macro (all_standing s) p))

-- the macro, by its rank, is that of a call that is unfolded
pub record IsUnfoldedAt (ws : List Written) (ss : List Standing) (p : Placed) (i : ℕ) : Type 0 where
  pub opened : Unfolded
  pub is : unfolded ws ss p ≡ Some opened
  pub at : slice_get ss i ≡ Some opened.macro

-- the macro that is unfolded there, by its rank
abbrev pub SaysUnfolded : Standings → List Called → ℕ → Option ℕ → Type 0
SaysUnfolded s cs at o =
    (p : Placed) → slice_get (placed_in s cs) at ≡ Some p
    → MatchOption o (unfolded (written_in s) (all_standing s) p ≡ None) (IsUnfoldedAt (written_in s) (all_standing s) p)

-- a statement that a call brings
abbrev pub called_by : ℕ → ℕ → ℕ → Called
called_by opener body number = record { statement = number; opener = opener; body = body }
