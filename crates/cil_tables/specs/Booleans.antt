-- The booleans of a policy, and which are on at first. CIL Reference Guide, "boolean".
use Rattle.std.specs.Prelude.{◌≡◌, ℕ, ◌<◌, Bool, true, false, ◌&&◌, if◌then◌else◌, List, Contains, Option, Some, None, length, codes}
use Rattle.std.specs.List.{list_any}
use Rattle.std.specs.Option.{option_map_or}
use Rattle.cil_base.specs.Lists.{Lists, text_cmp}
use Rattle.cil_faults.specs.declared.code.FaultCode.TheVariants as causes
use Rattle.cil_faults.specs.declared.fault.Fault.{Fault}
use Rattle.cil_faults.specs.Reported.{global_fault}
use Rattle.cil_syntax.specs.declared.kind.Keyword.{Keyword}
use Rattle.cil_syntax.specs.declared.kind.Keyword.TheVariants as keywords
use Rattle.cil_syntax.specs.declared.kind.Kind.TheVariants as kinds
use Rattle.cil_syntax.specs.declared.term.Op.{Op}
use Rattle.cil_syntax.specs.declared.term.Op.TheVariants as ops
use Rattle.cil_syntax.specs.Spelling.{same_bytes}
use Rattle.cil_syntax.specs.Terms.{Leaf, Name, Form, Terms, nil, cons}
use Rattle.cil_macros.specs.Item.{Item, OptSet, is_enabled}
use Rattle.cil_names.specs.Declarations.{name_of, nowhere}
use Rattle.cil_tables.specs.declared.tables.Boolean.{Boolean}
use Rattle.cil_tables.specs.Named.{IsNameOf}
use Rattle.cil_tables.specs.Table.{boolean_names, most_booleans}

-- the statement is one of a boolean
abbrev pub is_boolean : Keyword → Bool
is_boolean keywords.Boolean = true
is_boolean k = false

-- the word `true`
abbrev pub is_yes : Op → Bool
is_yes ops.Yes = true
is_yes op = false

-- the name of which the terms say `true`
abbrev pub named_on : {L : Type 0} → Terms L → Option (List ℕ)
named_on nil = None
named_on (cons (Leaf w) rest) = None
named_on (cons (Form at op parts) rest) = None
named_on (cons (Name at name) nil) = None
named_on (cons (Name at name) (cons (Leaf w) rest)) = None
named_on (cons (Name at name) (cons (Name bt other) rest)) = None
named_on (cons (Name at name) (cons (Form bt op parts) rest)) = if is_yes op then Some name else None

-- the statement says that the boolean of this qualified name is on
abbrev pub turns_on : List ℕ → Item → Bool
turns_on name x = is_boolean x.keyword && option_map_or (λ n. same_bytes (name_of (record { space = x.space; name = n })) name) (named_on x.args) false

-- it is an enabled one
abbrev pub is_on_by : OptSet → List ℕ → Item → Bool
is_on_by s name x = is_enabled s x && turns_on name x

-- the boolean of this qualified name is on at first: an enabled statement says so
unfoldable pub is_default_on : List Item → OptSet → List ℕ → Bool
is_default_on xs s name = list_any (is_on_by s name) xs

-- the declared booleans, and what each is at first
pub record AreBooleans (xs : List Item) (s : OptSet) (bs : List Boolean) : Type 0 where
  pub names : Lists text_cmp (IsNameOf xs s kinds.Boolean) (boolean_names bs)
  pub defaults : (b : Boolean) → Contains bs b → b.default ≡ is_default_on xs s b.name

-- more booleans are declared than a policy may have, told of the policy
pub record HasManyBooleans (s : OptSet) (xs : List Item) (f : Fault) : Type 0 where
  pub names : List (List ℕ)
  pub are_names : Lists text_cmp (IsNameOf xs s kinds.Boolean) names
  pub many : most_booleans < length names
  pub told : f ≡ global_fault causes.TooMany nowhere (codes "booleans")
