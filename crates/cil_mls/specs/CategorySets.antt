-- Sets of categories that depend on themselves. CIL Reference Guide, "categoryset"; that it is a fault is this project's profile.
use Rattle.std.specs.Prelude.{◌≡◌, ℕ, true, List, Contains}
use Rattle.cil_faults.specs.Reported.{fault_at}
use Rattle.cil_faults.specs.declared.code.FaultCode.TheVariants as causes
use Rattle.cil_faults.specs.declared.fault.Fault.{Fault}
use Rattle.cil_faults.specs.declared.spot.Spot.{Spot}
use Rattle.cil_syntax.specs.declared.kind.Kind.TheVariants as kinds
use Rattle.cil_syntax.specs.Scopes.{ScopedWord}
use Rattle.cil_attrs.specs.macros.Item.{Item, OptSet, all_words_in}
use Rattle.cil_attrs.specs.names.Declarations.{Symbol}
use Rattle.cil_attrs.specs.known.Spaces.{names}
use Rattle.cil_attrs.specs.SetFaults.{DeclaresAt, symbol_under}

module _ (xs : List Item) (s : OptSet) where
  -- a declaration of the one set names the other
  pub record NamesSet (a b : Symbol) : Type 0 where
    pub item : Item
    pub at : Spot
    pub name : List ℕ
    pub declares : DeclaresAt xs s kinds.CategorySet item at name
    pub is_a : symbol_under item name ≡ a
    pub word : ScopedWord
    pub within : Contains (all_words_in item.args) word
    pub names_b : names xs s kinds.CategorySet word b ≡ true

  -- the one set depends on the other, in one step or more
  pub data DependsOn : Symbol → Symbol → Type 0 where
    at_once : (a b : Symbol) → NamesSet a b → DependsOn a b
    further : (a b c : Symbol) → NamesSet a b → DependsOn b c → DependsOn a c

  -- a set that depends on itself, and not one that only depends on such a one, told where it is declared
  pub record CircularSet (f : Fault) : Type 0 where
    pub item : Item
    pub at : Spot
    pub name : List ℕ
    pub declares : DeclaresAt xs s kinds.CategorySet item at name
    pub depends : DependsOn (symbol_under item name) (symbol_under item name)
    pub told : f ≡ fault_at causes.SetCycle at item.space name
