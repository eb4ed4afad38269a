-- What is judged of sensitivities and categories, part by part. No other crate needs these words.
use Rattle.std.specs.Prelude.{◌≡◌, ◌↔◌, ◌⊎◌, ◌≤◌, ℕ, Bool, true, false, List, [], codes, length, Result}
use Rattle.std.specs.Global.{Vec}
use Rattle.cil_base.specs.Lists.{Lists, text_cmp}
use Rattle.cil_faults.specs.Refusal.{Answers}
use Rattle.cil_faults.specs.Reported.{global_fault}
use Rattle.cil_faults.specs.declared.both.Both.{Both}
use Rattle.cil_faults.specs.declared.code.FaultCode.{FaultCode}
use Rattle.cil_faults.specs.declared.code.FaultCode.TheVariants as causes
use Rattle.cil_faults.specs.declared.failure.Failure.{Failure}
use Rattle.cil_faults.specs.declared.fault.Fault.{Fault}
use Rattle.cil_syntax.specs.declared.kind.Keyword.{Keyword}
use Rattle.cil_syntax.specs.declared.kind.Keyword.TheVariants as keywords
use Rattle.cil_syntax.specs.declared.kind.Kind.{Kind}
use Rattle.cil_syntax.specs.declared.kind.Kind.TheVariants as kinds
use Rattle.cil_attrs.specs.macros.Item.{Item, OptSet}
use Rattle.cil_attrs.specs.names.Declarations.{nowhere}
use Rattle.cil_attrs.specs.known.Members.{space_of}
use Rattle.cil_attrs.specs.known.Sections.{Sections}
use Rattle.cil_attrs.specs.SetFaults.{IsItemName, SetFault}
use Rattle.cil_mls.specs.CategorySets.{CircularSet}
use Rattle.cil_mls.specs.OrderFaults.{IsUnordered, Switches, most_categories, most_sensitivities}
use Rattle.cil_mls.specs.Ordering.{IsNumberedOrder}
use Rattle.cil_mls.specs.PolicyFaults.{IsOver}

module _ (xs : List Item) (s : OptSet) where
  -- the order of a kind, by the numbers of these names
  abbrev pub IsOrderOf : Kind → Keyword → List (List ℕ) → Vec ℕ → Type 0
  IsOrderOf kind order names row = IsNumberedOrder xs s kind order names row.items

  -- what is wrong with its aliases, or that there is no one order
  abbrev pub SpaceFault : Kind → Keyword → FaultCode → Fault → Type 0
  SpaceFault kind order code f = SetFault xs s (space_of kind) f ⊎ (IsUnordered xs s kind order × (f ≡ global_fault code nowhere []))

  -- both name spaces
  abbrev pub AreBothOrders : List (List ℕ) → List (List ℕ) → Both (Vec ℕ) (Vec ℕ) → Type 0
  AreBothOrders sensitivities categories both =
      IsOrderOf kinds.Sensitivity keywords.SensitivityOrder sensitivities both.first × IsOrderOf kinds.Category keywords.CategoryOrder categories both.second

  abbrev pub OrdersFault : Fault → Type 0
  OrdersFault f = SpaceFault kinds.Sensitivity keywords.SensitivityOrder causes.SensitivityOrder f ⊎ SpaceFault kinds.Category keywords.CategoryOrder causes.CategoryOrder f

  -- whether levels are on, and that they are turned off too
  abbrev pub IsOn : Bool → Type 0
  IsOn on = (on ≡ true) ↔ Switches xs s true

  abbrev pub MlsTwice : Fault → Type 0
  MlsTwice f = (Switches xs s true × Switches xs s false) × (f ≡ global_fault causes.MlsTwice nowhere [])

  -- how many there are
  abbrev pub AreWithinLimits : List (List ℕ) → List (List ℕ) → Type 0
  AreWithinLimits sensitivities categories = (length sensitivities ≤ most_sensitivities) × (length categories ≤ most_categories)

  abbrev pub LimitFault : Fault → Type 0
  LimitFault f = IsOver xs s kinds.Sensitivity most_sensitivities (codes "sensitivities") f ⊎ IsOver xs s kinds.Category most_categories (codes "categories") f

  -- all of it
  abbrev pub AreJudged : List (List ℕ) → List (List ℕ) → Both (Both (Vec ℕ) (Vec ℕ)) (Both Bool (Both (Both (Unit {0}) (Unit {0})) (Unit {0}))) → Type 0
  AreJudged sensitivities categories both =
      AreBothOrders sensitivities categories both.first × (IsOn both.second.first × (AreWithinLimits sensitivities categories × Unit {0}))

  abbrev pub JudgedFault : Fault → Type 0
  JudgedFault f = OrdersFault f ⊎ (MlsTwice f ⊎ (LimitFault f ⊎ CircularSet xs s f))

-- the sections have no more names than there may be, or these are the faults
abbrev pub AreFew : Sections → Result (Both (Unit {0}) (Unit {0})) Failure → Type 0
AreFew n r =
    (xs : List Item) (s : OptSet) → Lists text_cmp (IsItemName xs s kinds.Sensitivity) n.sensitivities.items → Lists text_cmp (IsItemName xs s kinds.Category) n.categories.items
    → Answers (λ both. AreWithinLimits xs s n.sensitivities.items n.categories.items) (LimitFault xs s) r
