-- The numbers of the booleans of a policy: each has one. The crates above use this.
use Rattle.std.specs.List.Sorted.{IsStrictlySortedBy}
use Rattle.std.proofs.Common.{ℕ, List, refl}
use Rattle.cil_base.specs.Lists.{text_cmp}
use Rattle.cil_base.proofs.NameSearches.{number_is}
use Rattle.cil_syntax.specs.declared.kind.Kind.{Kind}
use Rattle.cil_syntax.specs.declared.kind.Kind.TheVariants as kinds
use Rattle.cil_known.specs.macros.Item.{Item}
use Rattle.cil_known.specs.declared.known.Known.{Known}
use Rattle.cil_known.specs.Known.{IsKnown, enabled_in}
use Rattle.cil_known.proofs.StandingLemmas.{its_number}
use Rattle.cil_conditions.specs.Spelled.{AreAllNumbered, HasOneNumber}

-- a name has one number among rising names
pub one_number_each : (names : List (List ℕ)) → IsStrictlySortedBy text_cmp names → HasOneNumber names
one_number_each names rising n m name p q = (number_is names name m q rising).only n p

module _ (k : Known) (xs : List Item) (names : Kind → List (List ℕ)) (known : IsKnown k xs names) where
  -- so the booleans of a policy have
  pub one_boolean_number : HasOneNumber (names kinds.Boolean)
  one_boolean_number = one_number_each (names kinds.Boolean) (known.numbered.lists kinds.Boolean refl).rising

  -- and each declared one has a number
  pub all_booleans_numbered : AreAllNumbered xs (enabled_in k) (names kinds.Boolean)
  all_booleans_numbered b d = its_number k xs names known kinds.Boolean refl b d
