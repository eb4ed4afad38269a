-- Laws of policies: modules have one answer, tables or a list of faults. This project's profile.
use Rattle.std.specs.Prelude.{◌≡◌, ℕ, ◌<◌, Bool, true, false, not, List, length}
use Rattle.cil_faults.specs.declared.fault.Fault.{Fault}
use Rattle.cil_syntax.specs.declared.kind.Keyword.{Keyword}
use Rattle.cil_syntax.specs.declared.kind.Keyword.TheVariants as keywords
use Rattle.cil_syntax.specs.Laws.{AreReadable}
use Rattle.cil_syntax.specs.Written.{IsWritten, Written}
use Rattle.cil_macros.specs.Item.{Item, OptSet}
use Rattle.cil_names.specs.Declarations.{Symbol}
use Rattle.cil_known.specs.Family.{Family, IsRanked, Range, Solves}
use Rattle.cil_known.specs.Spaces.{SpaceOf}
use Rattle.cil_tables.specs.Agrees.{Compiles}
use Rattle.cil_tables.specs.Faults.{ArePolicyFaults}
use Rattle.cil_level_rows.specs.NoLevels.{is_of_levels}
use Rattle.cil_tables.specs.Table.{Table, IsOrderly}

-- modules compile to one table
abbrev pub HasOneTable : Type 0
HasOneTable = (modules : List (List ℕ)) (t u : Table) → Compiles modules t → Compiles modules u → t ≡ u

-- modules have one list of faults, which is empty where they compile
abbrev pub HasOneListOfFaults : Type 0
HasOneListOfFaults = (modules : List (List ℕ)) (faults others : List Fault) → ArePolicyFaults modules faults → ArePolicyFaults modules others → faults ≡ others

-- what the contract of `compile` accepts of tables and of faults, memory apart: tables to which the modules compile, or the list of their faults.
-- The lines that tell of optionals are no part of it
pub data Outcome (modules : List (List ℕ)) : Type 0 where
  compiles : (t : Table) → IsOrderly t → Compiles modules t → Outcome modules
  fails : (faults : List Fault) → ArePolicyFaults modules faults → 0 < length faults → Outcome modules

-- what is neither a block, a macro or an optional, nor opens one; nor an alias, nor a statement that gives an alias or an attribute
-- its members, or a class permission or a permission of a class map what it stands for; nor a statement that forbids rules, nor a constraint, nor a
-- statement of levels
abbrev pub is_flat : Keyword → Bool
is_flat keywords.Block = false
is_flat keywords.BlockAbstract = false
is_flat keywords.BlockInherit = false
is_flat keywords.Macro = false
is_flat keywords.Call = false
is_flat keywords.Optional = false
is_flat keywords.BooleanIf = false
is_flat keywords.TypeAlias = false
is_flat keywords.TypeAliasActual = false
is_flat keywords.TypeAttributeSet = false
is_flat keywords.RoleAttributeSet = false
is_flat keywords.UserAttributeSet = false
is_flat keywords.ClassMapping = false
is_flat keywords.ClassPermissionSet = false
is_flat keywords.NeverAllow = false
is_flat keywords.Constrain = false
is_flat keywords.MlsConstrain = false
is_flat keyword = not (is_of_levels keyword)

-- all that is written in the modules is such
abbrev pub AreFlatModules : List (List ℕ) → Type 0
AreFlatModules modules = (w : Written) → IsWritten modules w → is_flat w.statement.keyword ≡ true

-- readable modules compile to tables, or they have a list of faults. It is said of modules without blocks, macros, calls, optionals
-- and booleanifs: with them it rests on the contents of blocks and what calls bring being finite, or more than 1,000,000. It is said of
-- modules without aliases whose attributes have no members: with these it rests on a family of their members. And it is said of modules whose class
-- permissions and class maps give nothing: with these it rests on the least assignment. Nor do they forbid anything: with that it
-- rests on what two statements cover together being finite. And they have no constraints: with these it rests on the numbers for which the
-- words of each stand. Nor have they levels: with these it rests on orders and on what sets of categories have
abbrev pub AlwaysCompilesOrFails : Type 0
AlwaysCompilesOrFails = (modules : List (List ℕ)) → AreReadable modules → AreFlatModules modules → Outcome modules

-- where ranks fall, some family of sets has the members that statements give. That there is one alone is a law of the crate below
abbrev pub HasAFamily : Type 0
HasAFamily = (xs : List Item) (s : OptSet) (space : SpaceOf) (range : Range) (rank : Symbol → ℕ) → IsRanked xs s space range rank → (m : Family) × Solves xs s space range m
