-- The parameters of macros by their names, as they are kept: for the number of a macro, that of a place and a name, which
-- of the macro's parameters is the first that serves this place and has this name.
use Rattle.std.specs.Prelude.{◌≡◌, ℕ, ◌<◌, ◌≤◌, ◌==◌, ◌&&◌, if◌then◌else◌, Bool, true, false, suc, List, [], ◌∷◌, Option, Some, None}
use Rattle.std.specs.Option.{option_map, option_or}
use Rattle.indexmap.specs.IndexMap.{get}
use denote.Ref.{Bor}
use Rattle.cil_syntax.specs.Spelling.{same_bytes}
use Rattle.cil_syntax.specs.Written.{Written, is_macro}
use Rattle.cil_blocks.specs.Entries.{statement_at}
use Rattle.cil_macros.specs.declared.parameters.Parameters as code
use Rattle.cil_macros.specs.Parameters.{ArgumentKind, Parameter, argument_kind, macro_parameters, place_number}

-- the number of a macro, that of a place or of a kind of declaration, and a name
abbrev pub Key : Type 0
Key = ℕ × ℕ × Bor (List ℕ)

abbrev pub is_key : ℕ → ℕ → List ℕ → Key → Bool
is_key number kind name k = (number == k.0) && (kind == k.1) && same_bytes name k.2.now

abbrev pub same_key : Key → Key → Bool
same_key a b = is_key a.0 a.1 a.2.now b

-- ---- the first parameter of a place and a name

-- arguments of a kind serve the place of this number
abbrev pub is_served_place : Option ArgumentKind → ℕ → Bool
is_served_place None place = false
is_served_place (Some k) place = place_number k.serves == place

-- the parameter serves this place and has this name
abbrev pub is_at : Key → Parameter → Bool
is_at k x = is_served_place (argument_kind x.kind) k.1 && same_bytes x.name.name k.2.now

-- the number of the first one
abbrev pub first_at : Key → List Parameter → Option ℕ
first_at k [] = None
first_at k (x ∷ xs) = if is_at k x then Some 0 else option_map (λ n. suc n) (first_at k xs)

-- ---- the table

abbrev pub number_at : code.Parameters → Key → Option ℕ
number_at ps k = get same_key ps.numbers k

-- the table has the parameters of all macros
abbrev pub AreNamed : List Written → code.Parameters → Type 0
AreNamed ws ps = (k : Key) → is_macro (statement_at ws k.0).statement.keyword ≡ true
    → number_at ps k ≡ first_at k (macro_parameters (statement_at ws k.0).statement.args)

-- and those of the first statements
pub record AreNamedUpTo (ws : List Written) (count : ℕ) (ps : code.Parameters) : Type 0 where
  pub before : (k : Key) → k.0 < count → is_macro (statement_at ws k.0).statement.keyword ≡ true
      → number_at ps k ≡ first_at k (macro_parameters (statement_at ws k.0).statement.args)
  pub behind : (k : Key) → count ≤ k.0 → number_at ps k ≡ None

-- the parameters of the macro of a number are added
abbrev pub AreAdded : ℕ → List Parameter → code.Parameters → code.Parameters → Type 0
AreAdded number xs old new =
    (k : Key) → number_at new k ≡ option_or (number_at old k) (if number == k.0 then first_at k xs else None)

-- a parameter behind so many of its macro is added
abbrev pub IsAdded : ℕ → ℕ → Parameter → code.Parameters → code.Parameters → Type 0
IsAdded number before x old new =
    (k : Key) → number_at new k ≡ option_or (number_at old k) (if (number == k.0) && is_at k x then Some before else None)
