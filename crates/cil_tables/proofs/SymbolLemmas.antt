-- A name has one number in a section that rises, and a number is that of one declared symbol.
use Rattle.std.specs.Prelude.{Some, slice_get}
use Rattle.std.specs.List.Sorted.{IsStrictlySortedBy}
use Rattle.std.proofs.Common.{◌≡◌, ℕ, List, sym, ◌∙◌}
use Rattle.std.proofs.lemmas.Cmp.{nat_list_cmp_total}
use Rattle.std.proofs.lemmas.Map.Lookups.{exact_bytes}
use Rattle.std.proofs.lemmas.Option.{same_Some}
use Rattle.cil_base.specs.Lists.{text_cmp}
use Rattle.cil_base.proofs.NameSearches.{number_is}
use Rattle.cil_base.proofs.SearchLemmas.{one_number as one_of_key}
use Rattle.cil_syntax.specs.declared.kind.Kind.{Kind}
use Rattle.cil_macros.specs.Item.{Item, OptSet}
use Rattle.cil_names.specs.Declarations.{Declared, Symbol, name_of}
use Rattle.cil_known.specs.Known.{IsNumbered}
use Rattle.cil_classes.specs.declared.row.Class.{Class}
use Rattle.cil_classes.specs.Row.{class_cmp}

-- a class has one number in rows that rise by name
pub one_class_number : (rows : List Class) (i j : ℕ) (r q : Class) → IsStrictlySortedBy class_cmp rows → slice_get rows i ≡ Some r → slice_get rows j ≡ Some q → r.name ≡ q.name → i ≡ j
one_class_number rows i j r q rising at bt same = one_of_key (λ (c : Class). c.name) text_cmp nat_list_cmp_total exact_bytes rows i j r q rising at bt same

pub one_number : (names : List (List ℕ)) (n m : ℕ) (name : List ℕ) → IsStrictlySortedBy text_cmp names → slice_get names n ≡ Some name → slice_get names m ≡ Some name → n ≡ m
one_number names n m name rising at bt = (number_is names name m bt rising).only n at

-- declared symbols whose qualified names are spelled alike are one
abbrev pub HaveOneSymbol : List Item → OptSet → Type 0
HaveOneSymbol xs s = (kind j : Kind) (t u : Symbol) → Declared xs s kind t → Declared xs s j u → name_of t ≡ name_of u → t ≡ u

module _ (xs : List Item) (s : OptSet) (one : HaveOneSymbol xs s) where
  -- two symbols with one number are one
  pub one_numbered : (names : List (List ℕ)) (n : ℕ) (j k : Kind) (a b : Symbol) → Declared xs s j a → Declared xs s k b → IsNumbered names a n → IsNumbered names b n → a ≡ b
  one_numbered names n j k a b d e x y = one j k a b d e (same_Some _ _ (sym x ∙ y))
