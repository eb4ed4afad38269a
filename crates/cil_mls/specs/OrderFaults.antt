-- What is wrong with the sensitivities and categories of a policy, before levels are judged. CIL Reference Guide, "Multi-Level Security
-- Labeling Statements" and "mls"; which of it is a fault, and how many there may be, is this project's profile.
use Rattle.std.specs.Prelude.{◌≡◌, ◌↔◌, ◌<◌, ◌≤◌, ℕ, Bool, true, false, List, [], codes, length}
use Rattle.cil_base.specs.Lists.{Lists, text_cmp}
use Rattle.cil_faults.specs.Reported.{global_fault}
use Rattle.cil_faults.specs.declared.code.FaultCode.TheVariants as causes
use Rattle.cil_faults.specs.declared.fault.Fault.{Fault}
use Rattle.cil_faults.specs.declared.spot.Spot.{Spot}
use Rattle.cil_syntax.specs.declared.kind.Keyword.{Keyword}
use Rattle.cil_syntax.specs.declared.kind.Keyword.TheVariants as keywords
use Rattle.cil_syntax.specs.declared.kind.Kind.{Kind}
use Rattle.cil_syntax.specs.declared.kind.Kind.TheVariants as kinds
use Rattle.cil_syntax.specs.declared.term.Op.{Op}
use Rattle.cil_syntax.specs.declared.term.Op.TheVariants as ops
use Rattle.cil_syntax.specs.Terms.{Form, nil, cons}
use Rattle.cil_attrs.specs.macros.Item.{Item, OptSet}
use Rattle.cil_attrs.specs.names.Declarations.{nowhere}
use Rattle.cil_attrs.specs.known.Members.{space_of}
use Rattle.cil_attrs.specs.known.Says.{Says}
use Rattle.cil_attrs.specs.SetFaults.{IsItemName, SetFault}
use Rattle.cil_mls.specs.declared.in_order.Orders.{Orders}
use Rattle.cil_mls.specs.CategorySets.{CircularSet}
use Rattle.cil_mls.specs.Ordering.{HasNoOrder, IsNumberedOrder}

-- how many sensitivities and categories a policy may have
abbrev pub most_sensitivities : ℕ
most_sensitivities = 256

abbrev pub most_categories : ℕ
most_categories = 1024

-- the word by which an mls statement turns levels on, or off
abbrev pub switch_word : Bool → Op
switch_word true = ops.Yes
switch_word false = ops.No

module _ (xs : List Item) (s : OptSet) where
  -- an enabled statement turns levels on, or off
  abbrev pub Switches : Bool → Type 0
  Switches on = (at : Spot) × Says xs s keywords.Mls (cons (Form at (switch_word on) nil) nil)

  -- the aliases of a name space are sound, and its statements fix no order or leave several
  abbrev pub IsUnordered : Kind → Keyword → Type 0
  IsUnordered kind order = ((f : Fault) → SetFault xs s (space_of kind) f → ⊥) × HasNoOrder xs s kind order

  -- the names of the items of a kind are more than this
  pub record AreOver (kind : Kind) (most : ℕ) : Type 0 where
    pub names : List (List ℕ)
    pub are_names : Lists text_cmp (IsItemName xs s kind) names
    pub many : most < length names

  -- the two orders by the numbers of these names, as many as there may be, and whether levels are on
  pub record AreOrders (sensitivities categories : List (List ℕ)) (o : Orders) : Type 0 where
    pub of_sensitivities : IsNumberedOrder xs s kinds.Sensitivity keywords.SensitivityOrder sensitivities o.sensitivities.items
    pub of_categories : IsNumberedOrder xs s kinds.Category keywords.CategoryOrder categories o.categories.items
    pub few_sensitivities : length sensitivities ≤ most_sensitivities
    pub few_categories : length categories ≤ most_categories
    pub on : (o.are_on ≡ true) ↔ Switches true

-- what is wrong: aliases of sensitivities and of categories, sets of categories, orders, levels that are turned both on and off, too
-- many items
module _ (xs : List Item) (s : OptSet) (f : Fault) where
  pub data OrderFault : Type 0 where
    alias_of_sensitivity : SetFault xs s (space_of kinds.Sensitivity) f → OrderFault
    alias_of_category : SetFault xs s (space_of kinds.Category) f → OrderFault
    circular_set : CircularSet xs s f → OrderFault
    sensitivities_unordered : IsUnordered xs s kinds.Sensitivity keywords.SensitivityOrder → f ≡ global_fault causes.SensitivityOrder nowhere [] → OrderFault
    categories_unordered : IsUnordered xs s kinds.Category keywords.CategoryOrder → f ≡ global_fault causes.CategoryOrder nowhere [] → OrderFault
    mls_twice : Switches xs s true → Switches xs s false → f ≡ global_fault causes.MlsTwice nowhere [] → OrderFault
    many_sensitivities : AreOver xs s kinds.Sensitivity most_sensitivities → f ≡ global_fault causes.TooMany nowhere (codes "sensitivities") → OrderFault
    many_categories : AreOver xs s kinds.Category most_categories → f ≡ global_fault causes.TooMany nowhere (codes "categories") → OrderFault
