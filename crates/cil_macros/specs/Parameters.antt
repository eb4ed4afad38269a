-- The parameters of macros, and the arguments of calls. CIL Reference Guide, "Call / Macro Statements"; what an argument of
-- each kind is, and which places it serves, is this project's profile.
use Rattle.std.specs.Prelude.{ℕ, Bool, true, false, nat_eq, if◌then◌else◌, List, [], ◌∷◌, ◌++◌, Option, Some, None}
use Rattle.cil_syntax.specs.declared.kind.Sign.{Sign}
use Rattle.cil_syntax.specs.declared.kind.Sign.TheVariants as signs
use Rattle.cil_syntax.specs.declared.term.Op.{Op}
use Rattle.cil_syntax.specs.declared.term.Op.TheVariants as ops
use Rattle.cil_faults.specs.declared.spot.Spot.{Spot}
use Rattle.cil_syntax.specs.declared.term.Word.{Word}
use Rattle.cil_syntax.specs.Shapes.{Shape, looked_up, any_text, set_of, Inner, Reading, a_word, a_string, a_list, Cell}
use Rattle.cil_syntax.specs.Readings.{head_word, read_list}
use Rattle.cil_syntax.specs.Table.{class_permission, level, range}
use Rattle.cil_syntax.specs.Words.{read_word, read_string}
use Rattle.cil_syntax.specs.Terms.{Term, Leaf, Name, Form, Terms, nil, cons}
use Rattle.cil_syntax.specs.Written.{Named}

-- ---- parameters

-- a parameter of a macro: its kind, and its name
pub record Parameter : Type 0 where
  pub kind : Op
  pub name : Named

-- the parameter that some terms are: its name stands behind its kind
abbrev pub parameter_in : {L : Type 0} → Terms L → List Parameter
parameter_in nil = []
parameter_in (cons (Leaf w) ts) = []
parameter_in (cons (Name at name) ts) = []
parameter_in (cons (Form at kind parts) nil) = []
parameter_in (cons (Form at kind parts) (cons (Leaf w) ts)) = []
parameter_in (cons (Form at kind parts) (cons (Name bt name) ts)) = record { kind = kind; name = record { at = bt; name = name } } ∷ []
parameter_in (cons (Form at kind parts) (cons (Form bt other more) ts)) = []

abbrev pub parameters_in : {L : Type 0} → Terms L → List Parameter
parameters_in nil = []
parameters_in (cons (Leaf w) ts) = parameters_in ts
parameters_in (cons (Name at name) ts) = parameters_in ts
parameters_in (cons (Form at op parts) ts) = parameter_in parts ++ parameters_in ts

-- the parameters of a macro, in order: they stand behind its name
abbrev pub macro_parameters : {L : Type 0} → Terms L → List Parameter
macro_parameters nil = []
macro_parameters (cons t nil) = []
macro_parameters (cons t (cons (Leaf w) ts)) = []
macro_parameters (cons t (cons (Name at name) ts)) = []
macro_parameters (cons t (cons (Form at op parts) ts)) = parameters_in parts

-- ---- the places that an argument serves

-- what a place or an argument may be: a word of one name space, or a text
pub data Place : Type 0 where
  of_types : Place
  of_roles : Place
  of_users : Place
  of_classes : Place
  of_blocks : Place
  of_texts : Place
  of_commons : Place
  of_class_permissions : Place
  of_booleans : Place
  of_sensitivities : Place
  of_categories : Place
  of_levels : Place
  of_level_ranges : Place

abbrev pub place_number : Place → ℕ
place_number of_types = 0
place_number of_roles = 1
place_number of_users = 2
place_number of_classes = 3
place_number of_blocks = 4
place_number of_texts = 5
place_number of_commons = 6
place_number of_class_permissions = 7
place_number of_booleans = 8
place_number of_sensitivities = 9
place_number of_categories = 10
place_number of_levels = 11
place_number of_level_ranges = 12

-- the place where a word stands. A permission and an argument that is not read yet are at none
abbrev pub place_of : Sign → Option Place
place_of signs.Types = Some of_types
place_of signs.PlainType = Some of_types
place_of signs.TypeAttributes = Some of_types
place_of signs.TypeAliases = Some of_types
place_of signs.Roles = Some of_roles
place_of signs.PlainRole = Some of_roles
place_of signs.RoleAttributes = Some of_roles
place_of signs.Users = Some of_users
place_of signs.PlainUser = Some of_users
place_of signs.UserAttributes = Some of_users
place_of signs.Classes = Some of_classes
place_of signs.PlainClass = Some of_classes
place_of signs.ClassMaps = Some of_classes
place_of signs.Commons = Some of_commons
place_of signs.ClassPermissions = Some of_class_permissions
place_of signs.NamedPermissions = Some of_class_permissions
place_of signs.MappedPermissions = Some of_class_permissions
place_of signs.Booleans = Some of_booleans
place_of signs.Sensitivities = Some of_sensitivities
place_of signs.SensitivityAliases = Some of_sensitivities
place_of signs.Categories = Some of_categories
place_of signs.CategoryAliases = Some of_categories
place_of signs.CategorySets = Some of_categories
place_of signs.Levels = Some of_levels
place_of signs.LevelRanges = Some of_level_ranges
place_of signs.Blocks = Some of_blocks
place_of signs.Macros = Some of_blocks
place_of signs.Text = Some of_texts
place_of signs.Permission = None
place_of signs.Unread = None

-- what an argument of a kind is, and where it may be put
pub record ArgumentKind : Type 0 where
  pub shape : Shape
  pub serves : Place

-- what the argument of a parameter of a kind is
abbrev pub argument_kind : Op → Option ArgumentKind
argument_kind ops.TypeKind = Some record { shape = looked_up signs.Types; serves = of_types }
argument_kind ops.RoleKind = Some record { shape = looked_up signs.Roles; serves = of_roles }
argument_kind ops.UserKind = Some record { shape = looked_up signs.Users; serves = of_users }
argument_kind ops.BooleanKind = Some record { shape = looked_up signs.Booleans; serves = of_booleans }
argument_kind ops.ClassKind = Some record { shape = looked_up signs.PlainClass; serves = of_classes }
argument_kind ops.ClassMapKind = Some record { shape = looked_up signs.ClassMaps; serves = of_classes }
argument_kind ops.ClassPermissionKind = Some record { shape = class_permission; serves = of_class_permissions }
argument_kind ops.SensitivityKind = Some record { shape = looked_up signs.Sensitivities; serves = of_sensitivities }
argument_kind ops.CategoryKind = Some record { shape = looked_up signs.Categories; serves = of_categories }
argument_kind ops.CategorySetKind = Some record { shape = set_of signs.CategorySets; serves = of_categories }
argument_kind ops.LevelKind = Some record { shape = level; serves = of_levels }
argument_kind ops.LevelRangeKind = Some record { shape = range; serves = of_level_ranges }
argument_kind ops.NameKind = Some record { shape = any_text; serves = of_texts }
argument_kind ops.TextKind = Some record { shape = any_text; serves = of_texts }
argument_kind op = None

-- an argument of this kind may be a list
abbrev pub may_be_list : Op → Bool
may_be_list ops.ClassPermissionKind = true
may_be_list ops.CategorySetKind = true
may_be_list ops.LevelKind = true
may_be_list ops.LevelRangeKind = true
may_be_list op = false

abbrev pub is_place : Option Place → Place → Bool
is_place None p = false
is_place (Some q) p = nat_eq (place_number q) (place_number p)

-- an argument of this kind may be put where a word of this sign stands
abbrev pub serves_sign : Option ArgumentKind → Sign → Bool
serves_sign None sign = false
serves_sign (Some k) sign = is_place (place_of sign) k.serves

-- ---- arguments

-- the arguments of a call, as they are written: a list behind the word of its macro, which may be left away
abbrev pub call_arguments : {L : Type 0} → Terms L → Terms L
call_arguments nil = nil
call_arguments (cons t nil) = nil
call_arguments (cons t (cons (Leaf w) ts)) = nil
call_arguments (cons t (cons (Name at name) ts)) = nil
call_arguments (cons t (cons (Form at op parts) ts)) = parts

abbrev pub is_text : Op → Bool
is_text ops.UnreadText = true
is_text op = false

-- a string that was kept
abbrev pub text_cell : Spot → Terms Word → Cell
text_cell at nil = record { at = at; face = a_string; read = read_string at [] }
text_cell at (cons (Leaf w) ts) = record { at = at; face = a_string; read = read_string at [] }
text_cell at (cons (Name bt bytes) ts) = record { at = at; face = a_string; read = read_string at bytes }
text_cell at (cons (Form bt op parts) ts) = record { at = at; face = a_string; read = read_string at [] }

-- the bytes of a string that was kept
abbrev pub string_in : {L : Type 0} → Terms L → List ℕ
string_in nil = []
string_in (cons (Leaf w) ts) = []
string_in (cons (Name at bytes) ts) = bytes
string_in (cons (Form at op parts) ts) = []

-- an argument that was kept, as a node that is read by a shape now
unfoldable mutual
  pub cell_in : Term Word → Cell
  cell_in (Leaf w) = record { at = w.at; face = a_word w.bytes; read = read_word w.at w.bytes }
  cell_in (Name at bytes) = record { at = at; face = a_string; read = read_string at bytes }
  cell_in (Form at op parts) = if is_text op then text_cell at parts else record { at = at; face = a_list (head_word (cells_in parts)); read = read_list at (cells_in parts) }

  pub cells_in : Terms Word → List Cell
  cells_in nil = []
  cells_in (cons t ts) = cell_in t ∷ cells_in ts

abbrev pub faultless : {T : Type 0} → T → List Inner → Option T
faultless t [] = Some t
faultless t (f ∷ fs) = None

-- what was read without a fault
abbrev pub sound : {T : Type 0} → Option (Reading T) → Option T
sound None = None
sound (Some r) = faultless r.value r.faults

abbrev pub read_argument : Option ArgumentKind → Cell → Option (Term Word)
read_argument None c = None
read_argument (Some k) c = sound (c.read k.shape)

-- an argument as its parameter asks, without a fault; nothing where it has not the form of the parameter's kind
unfoldable pub argument_of : Parameter → Term Word → Option (Term Word)
argument_of x t = read_argument (argument_kind x.kind) (cell_in t)
