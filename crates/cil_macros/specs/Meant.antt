-- What words mean where they are placed, as it is kept: a word in the scope of what is placed somewhere, or a string.
use Rattle.std.specs.Prelude.{◌≡◌, ℕ, Bool, true, false, ◌&&◌, if◌then◌else◌, suc, List, [], ◌∷◌, length, Option, Some, None, slice_get}
use Rattle.std.specs.Option.{option_map}
use Rattle.cil_syntax.specs.declared.kind.Sign.{Sign}
use Rattle.cil_syntax.specs.declared.kind.Sign.TheVariants as signs
use Rattle.cil_syntax.specs.declared.term.Op.{Op}
use Rattle.cil_syntax.specs.declared.term.Op.TheVariants as ops
use Rattle.cil_faults.specs.declared.spot.Spot.{Spot}
use Rattle.cil_syntax.specs.declared.term.Word.{Word}
use Rattle.cil_syntax.specs.Scopes.{ScopedWord}
use Rattle.cil_syntax.specs.Spelling.{same_bytes}
use Rattle.cil_syntax.specs.Terms.{Term, Leaf, Name, Form, nil, cons}
use Rattle.cil_macros.specs.declared.meant.Argument.{Argument}
use Rattle.cil_macros.specs.declared.meant.Argument.TheVariants as arguments
use Rattle.cil_macros.specs.declared.meant.Meaning.{Meaning}
use Rattle.cil_macros.specs.declared.meant.Meaning.TheVariants as meanings
use Rattle.cil_macros.specs.declared.meant.Meant.{Meant}
unfoldable pub use Rattle.cil_macros.specs.Listed.{scope_there}
use Rattle.cil_macros.specs.Listed.{IsWholeList, list_there}
use Rattle.cil_macros.specs.Parameters.{Parameter, argument_kind, serves_sign}
use Rattle.cil_macros.specs.Placed.{Bound, Placed, put}

-- ---- words and strings

-- a string, or a word of a sign in the scope of what is placed there
abbrev pub meant_in : List Placed → Sign → Spot → List ℕ → Option ℕ → Term ScopedWord
meant_in ps sign at bytes None = Form at ops.UnreadText (cons (Name at bytes) nil)
meant_in ps sign at bytes (Some k) = Leaf record { at = at; bytes = bytes; sign = sign; scope = scope_there (slice_get ps k) }

-- what is meant, where a word of a sign stands
abbrev pub meant_term : List Placed → Sign → Meant → Term ScopedWord
meant_term ps sign m = meant_in ps sign m.at m.bytes m.scope

-- ---- arguments

-- the sign of the words that are arguments of a kind
abbrev pub kind_sign : Op → Sign
kind_sign ops.TypeKind = signs.Types
kind_sign ops.RoleKind = signs.Roles
kind_sign ops.UserKind = signs.Users
kind_sign ops.BooleanKind = signs.Booleans
kind_sign ops.ClassKind = signs.PlainClass
kind_sign ops.ClassMapKind = signs.ClassMaps
kind_sign ops.SensitivityKind = signs.Sensitivities
kind_sign ops.CategoryKind = signs.Categories
kind_sign ops.ClassPermissionKind = signs.ClassPermissions
kind_sign ops.CategorySetKind = signs.CategorySets
kind_sign ops.LevelKind = signs.Levels
kind_sign ops.LevelRangeKind = signs.LevelRanges
kind_sign op = signs.Text

-- what an argument of a kind is
abbrev pub value_there : List Placed → Op → Argument → Term ScopedWord
value_there ps kind (arguments.Plain m) = meant_term ps (kind_sign kind) m
value_there ps kind (arguments.List l) = list_there ps l

-- what it says where it is put in for a word of a sign
abbrev pub put_there : List Placed → Sign → Argument → Term ScopedWord
put_there ps sign (arguments.Plain m) = meant_term ps sign m
put_there ps sign (arguments.List l) = put sign (list_there ps l)

-- where it is a list, its parts are those of its terms
abbrev pub IsWhole : List Placed → Argument → Type 0
IsWhole ps (arguments.Plain m) = Unit {0}
IsWhole ps (arguments.List l) = IsWholeList ps l

abbrev pub AreWhole : List Placed → List Argument → Type 0
AreWhole ps [] = Unit {0}
AreWhole ps (m ∷ ms) = IsWhole ps m × AreWhole ps ms

-- what is meant where a word of a sign stands
abbrev pub meaning_there : List Placed → Sign → Meaning → Term ScopedWord
meaning_there ps sign (meanings.Plain m) = meant_term ps sign m
meaning_there ps sign (meanings.List l) = put sign (list_there ps l.now)

abbrev pub IsWholeMeaning : List Placed → Meaning → Type 0
IsWholeMeaning ps (meanings.Plain m) = Unit {0}
IsWholeMeaning ps (meanings.List l) = IsWholeList ps l.now

abbrev pub is_list : Argument → Bool
is_list (arguments.Plain m) = false
is_list (arguments.List l) = true

-- parameters with what their arguments mean
abbrev pub bounds_by : List Placed → List Parameter → List Argument → List Bound
bounds_by ps [] ms = []
bounds_by ps (x ∷ xs) [] = []
bounds_by ps (x ∷ xs) (m ∷ ms) = record { parameter = x; value = value_there ps x.kind m } ∷ bounds_by ps xs ms

-- what the arguments of a call mean, one for each parameter
pub record AreArguments (ps : List Placed) (xs : List Parameter) (bs : List Bound) (ms : List Argument) : Type 0 where
  pub many : length ms ≡ length xs
  pub so : bs ≡ bounds_by ps xs ms
  pub whole : AreWhole ps ms

-- ---- the parameter for which a word stands

abbrev pub is_for : Word → Parameter → Bool
is_for w x = same_bytes x.name.name w.bytes && serves_sign (argument_kind x.kind) w.sign

-- the number of the first one
abbrev pub first_for : Word → List Parameter → Option ℕ
first_for w [] = None
first_for w (x ∷ xs) = if is_for w x then Some 0 else option_map (λ k. suc k) (first_for w xs)
