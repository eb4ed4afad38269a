-- What each body of a macro has from its call: the place of the outermost call, and what the arguments mean.
use Rattle.std.specs.Prelude.{◌≡◌, ℕ, ◌+◌, List, Some, slice_get}
use Rattle.std.specs.List.{list_any}
use Rattle.cil_syntax.specs.Written.{Written}
use Rattle.cil_blocks.specs.Contents.{Standing}
use Rattle.cil_macros.specs.declared.entry.Body.{Body}
use Rattle.cil_macros.specs.declared.entry.Called.{Called}
use Rattle.cil_macros.specs.declared.openings.Opening.{Opening}
use Rattle.cil_macros.specs.Calls.{Unfolded, home_of, unfolded}
use Rattle.cil_macros.specs.Meant.{AreArguments, is_list, scope_there}
use Rattle.cil_macros.specs.Parameters.{macro_parameters}
use Rattle.cil_macros.specs.Placed.{Placed}

pub record IsOpening (ws : List Written) (ss : List Standing) (ps : List Placed) (b : Body) (o : Opening) : Type 0 where
  pub home : (call : Placed) → slice_get ps b.call ≡ Some call → scope_there (slice_get ps o.home) ≡ home_of call.standing.scope call.body
  pub arguments : (call : Placed) (u : Unfolded) → slice_get ps b.call ≡ Some call → unfolded ws ss call ≡ Some u
      → AreArguments ps (macro_parameters u.macro.statement.statement.args) u.bounds o.arguments.items
  pub lists : o.lists ≡ list_any is_list o.arguments.items

-- those of the first bodies
abbrev pub AreOpenings : List Written → List Standing → List Placed → List Body → List Opening → Type 0
AreOpenings ws ss ps bs os = (i : ℕ) (b : Body) (o : Opening) → slice_get bs i ≡ Some b → slice_get os i ≡ Some o → IsOpening ws ss ps b o

-- what is placed there is of the body of this number
pub record IsNumbered (cs : List Called) (standing at number : ℕ) : Type 0 where
  pub rank : ℕ
  pub behind : at ≡ standing + rank
  pub called : Called
  pub is : slice_get cs rank ≡ Some called
  pub body : called.body ≡ number
