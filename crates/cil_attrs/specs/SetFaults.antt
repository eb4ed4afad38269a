-- What is wrong with the sets of a name space. CIL Reference Guide, "typealias", "typealiasactual", "typeattributeset" and the same
-- of roles and users; which of it is a fault, and how many items there may be, is this project's profile.
use Rattle.std.specs.Prelude.{◌≡◌, ◌<◌, ◌||◌, ℕ, true, List, Contains, Option, Some, None, codes, length}
use Rattle.cil_base.specs.Lists.{Lists, text_cmp}
use Rattle.cil_faults.specs.Reported.{fault_at, global_fault}
use Rattle.cil_faults.specs.declared.code.FaultCode.{FaultCode}
use Rattle.cil_faults.specs.declared.code.FaultCode.TheVariants as causes
use Rattle.cil_faults.specs.declared.fault.Fault.{Fault}
use Rattle.cil_faults.specs.declared.spot.Spot.{Spot}
use Rattle.cil_syntax.specs.declared.kind.Kind.{Kind}
use Rattle.cil_syntax.specs.declared.kind.Kind.TheVariants as kinds
use Rattle.cil_syntax.specs.Forms.{word_and_term}
use Rattle.cil_syntax.specs.Scopes.{ScopedWord}
use Rattle.cil_syntax.specs.Table.{entry_of}
use Rattle.cil_syntax.specs.Terms.{Leaf, Name, Terms, cons}
use Rattle.cil_known.specs.macros.Item.{Item, OptSet, is_enabled}
use Rattle.cil_known.specs.names.Declarations.{Declared, Symbol, name_of, nowhere}
use Rattle.cil_known.specs.Family.{DependsOn, no_range}
use Rattle.cil_known.specs.Spaces.{Sets, SpaceOf, names}

-- ---- declarations

module _ (xs : List Item) (s : OptSet) where
  -- an enabled statement declares a symbol of this kind, by a name that is written here
  pub record DeclaresAt (kind : Kind) (x : Item) (at : Spot) (name : List ℕ) : Type 0 where
    pub is_item : Contains xs x
    pub enabled : is_enabled s x ≡ true
    pub rest : Terms ScopedWord
    pub says : x.args ≡ cons (Name at name) rest
    pub of_kind : Contains (entry_of x.keyword).declares kind

  -- the qualified name of a declared symbol of this kind
  abbrev pub IsItemName : Kind → List ℕ → Type 0
  IsItemName kind name = (t : Symbol) × Declared xs s kind t × (name_of t ≡ name)

-- the symbol that is declared under this name
abbrev pub symbol_under : Item → List ℕ → Symbol
symbol_under x name = record { space = x.space; name = name }

-- ---- targets of aliases

-- an enabled statement says that the alias stands for the target: for an item, or for another alias
pub record TargetBy (xs : List Item) (s : OptSet) (item : Kind) (j : Sets) (x : Item) (alias target : Symbol) : Type 0 where
  pub alias_word : ScopedWord
  pub target_word : ScopedWord
  pub is_item : Contains xs x
  pub enabled : is_enabled s x ≡ true
  pub giving : j.giving x.keyword ≡ true
  pub says : word_and_term x.args ≡ Some (alias_word, Leaf target_word)
  pub names_alias : names xs s j.kind alias_word alias ≡ true
  pub names_target : (names xs s item target_word target || names xs s j.kind target_word target) ≡ true

-- ---- limits

-- how many symbols of a kind a policy may have, and the word that tells that it has more. Aliases and attributes have no limit; those
-- of sensitivities and categories are judged beside their orders
abbrev pub limit_of : Kind → Option (ℕ × List ℕ)
limit_of kinds.Type_ = Some (65535, codes "types")
limit_of kinds.Role = Some (4096, codes "roles")
limit_of kinds.User = Some (4096, codes "users")
limit_of kind = None

-- ---- faults

module _ (xs : List Item) (s : OptSet) (which : SpaceOf) (f : Fault) where
  -- an alias for which no statement says a target, told where it is declared
  pub record OpenAlias : Type 0 where
    pub sets : Sets
    pub are_aliases : which.aliases ≡ Some sets
    pub item : Item
    pub at : Spot
    pub name : List ℕ
    pub declares : DeclaresAt xs s sets.kind item at name
    pub no_target : (y : Item) (target : Symbol) → TargetBy xs s which.item sets y (symbol_under item name) target → ⊥
    pub told : f ≡ fault_at causes.AliasOpen at item.space name

  -- an alias with two different targets, told where statements say one
  pub record AliasTwice : Type 0 where
    pub sets : Sets
    pub are_aliases : which.aliases ≡ Some sets
    pub item : Item
    pub other : Item
    pub alias : Symbol
    pub first : Symbol
    pub second : Symbol
    pub says_first : TargetBy xs s which.item sets item alias first
    pub says_second : TargetBy xs s which.item sets other alias second
    pub differ : first ≡ second → ⊥
    pub told : f ≡ fault_at causes.AliasTwice says_first.alias_word.at item.space says_first.alias_word.bytes

  -- a declared alias or attribute that depends on itself, and not one that only depends on such a one, told where it is declared
  pub record CircularSet (sets : Option Sets) (code : FaultCode) : Type 0 where
    pub kind : Sets
    pub are_sets : sets ≡ Some kind
    pub item : Item
    pub at : Spot
    pub name : List ℕ
    pub declares : DeclaresAt xs s kind.kind item at name
    pub depends : DependsOn xs s which no_range (symbol_under item name) (symbol_under item name)
    pub told : f ≡ fault_at code at item.space name

  -- more items than there may be, told of the policy
  pub record TooMany : Type 0 where
    pub names : List (List ℕ)
    pub are_names : Lists text_cmp (IsItemName xs s which.item) names
    pub limit : ℕ
    pub word : List ℕ
    pub is_limit : limit_of which.item ≡ Some (limit, word)
    pub many : limit < length names
    pub told : f ≡ global_fault causes.TooMany nowhere word

  -- what is wrong with the sets of a name space
  pub data SetFault : Type 0 where
    alias_open : OpenAlias → SetFault
    alias_twice : AliasTwice → SetFault
    alias_cycle : CircularSet which.aliases causes.AliasCycle → SetFault
    set_cycle : CircularSet which.attributes causes.SetCycle → SetFault
    many : TooMany → SetFault
