-- What macros declare, as it is kept: their parameters, and what is in their bodies, by the number of the macro, the
-- number of the kind, and the name.
use Rattle.std.specs.Prelude.{◌≡◌, ℕ, ◌<◌, ◌&&◌, nat_eq, Bool, List, length, take, Option, Some, None}
use Rattle.std.specs.List.{list_any}
use Rattle.indexmap.specs.IndexSet.{contains, contains_by}
use Rattle.cil_syntax.specs.Kinds.{kind_number}
use Rattle.cil_syntax.specs.Spelling.{same_bytes}
use Rattle.cil_syntax.specs.Table.{entry_of}
use Rattle.cil_syntax.specs.Written.{Enclosing, Written, macro_within}
use Rattle.cil_blocks.specs.Contents.{name_of}
use Rattle.cil_blocks.specs.Entries.{statement_at}
use Rattle.cil_macros.specs.declared.declared_names.Declared.{Declared}
pub use Rattle.cil_macros.specs.NamedParameters.{Key, is_key, same_key}
use Rattle.cil_macros.specs.NamedParameters.{AreNamed}
use Rattle.cil_macros.specs.Placed.{is_in_body}

-- the table has a name in a kind, for the body of the macro of a number
abbrev pub has_kind : Declared → ℕ → List ℕ → ℕ → Bool
has_kind d number name kind = contains_by (is_key number kind name) d.keys

-- the statement is in the body of the macro, and declares the name in this kind
abbrev pub is_declared_by : List Written → Key → Written → Bool
is_declared_by ws k v =
    is_in_body (statement_at ws k.0) v.context.macro
    && (list_any (λ kind. nat_eq (kind_number kind) k.1) (entry_of v.statement.keyword).declares && same_bytes (name_of v) k.2.now)

-- the table has what those of the first statements declare that are in bodies
abbrev pub AreDeclaredUpTo : List Written → ℕ → Declared → Type 0
AreDeclaredUpTo ws count d = (k : Key) → k.0 < length ws → contains same_key d.keys k ≡ list_any (is_declared_by ws k) (take count ws)

-- and what all declare
abbrev pub AreInBodies : List Written → Declared → Type 0
AreInBodies ws d = (k : Key) → k.0 < length ws → contains same_key d.keys k ≡ list_any (is_declared_by ws k) ws

-- the tables have what all macros declare
pub record AreDeclared (ws : List Written) (d : Declared) : Type 0 where
  pub in_bodies : AreInBodies ws d
  pub parameters : AreNamed ws d.parameters

-- ---- the macro round a statement

-- in which body what is directly in the statement of a number is
abbrev pub macro_in : List Written → Option ℕ → Option Enclosing
macro_in ws None = None
macro_in ws (Some k) = macro_within (statement_at ws k).statement (statement_at ws k).context.macro

-- the statement of the first number is in the body of the macro of the second one
pub record IsRound (ws : List Written) (number round : ℕ) : Type 0 where
  pub within : round < length ws
  pub macro : Enclosing
  pub is_macro : (statement_at ws number).context.macro ≡ Some macro
  pub at : macro.at ≡ (statement_at ws round).statement.at
