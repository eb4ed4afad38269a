-- How many classes a policy has, by the names of its entries.
use Rattle.std.specs.Prelude.{◌↔◌, codes}
use Rattle.std.proofs.Common.{◌≡◌, ℕ, ◌<◌, ◌≤◌, List, length, sym, ◌∙◌, ap, arith}
use Rattle.std.proofs.lemmas.Cmp.{nat_list_cmp_total}
use Rattle.cil_base.specs.Lists.{Lists, one_list, text_cmp}
use Rattle.cil_base.specs.Sorted.{lists_of}
use Rattle.cil_base.specs.Places.{get_at, get_contains}
use Rattle.cil_faults.specs.declared.code.FaultCode.TheVariants as causes
use Rattle.cil_faults.specs.declared.fault.Fault.{Fault}
use Rattle.cil_faults.specs.Reported.{global_fault}
use Rattle.cil_syntax.specs.declared.kind.Kind.TheVariants as kinds
use Rattle.cil_macros.specs.blocks.Space.{Space}
use Rattle.cil_macros.specs.Item.{Item, OptSet}
use Rattle.cil_names.specs.declared.entry.Entry.{Entry}
use Rattle.cil_names.specs.Declarations.{name_of, nowhere}
use Rattle.cil_names.specs.Entries.{AreEntries}
use Rattle.cil_known.specs.Numbers.{IsNameAmong}
use Rattle.cil_names.specs.Symbols.{symbol_of}
use Rattle.cil_classes.specs.Faults.{HasManyClasses, IsClassName, most_classes}

-- the names of the entries that are classes are those of the classes
module _ (ss : List Space) (xs : List Item) (es : List Entry) (entries : AreEntries ss xs es) (s : OptSet) where
  name_there : (name : List ℕ) → IsNameAmong ss es s kinds.Class name → IsClassName s xs name
  name_there name among =
      let (i, below_i, at) = get_at es among.entry among.among in
      let (d, declares, of_kind, in_space, of_name) = entries.only s i among.entry at among.live in
      record {
        symbol = symbol_of ss among.entry;
        declared = record { declaration = d; declares = declares; of_kind = of_kind ∙ among.of_kind; in_space = in_space; of_name = of_name };
        named = among.spelled;
      }

  name_back : (name : List ℕ) → IsClassName s xs name → IsNameAmong ss es s kinds.Class name
  name_back name of =
      let d = of.declared in
      let (i, e) = entries.each s d.declaration d.declares in
      let same : symbol_of ss e.entry ≡ of.symbol = λ j. record { space = (e.in_space ∙ d.in_space) j; name = (e.of_name ∙ d.of_name) j } in
      record {
        entry = e.entry;
        among = get_contains es i e.entry e.at;
        of_kind = e.of_kind ∙ d.of_kind;
        live = e.live;
        spelled = ap name_of same ∙ of.named;
      }

  pub class_names_are : (names : List (List ℕ)) → Lists text_cmp (IsNameAmong ss es s kinds.Class) names → Lists text_cmp (IsClassName s xs) names
  class_names_are names = lists_of text_cmp (IsNameAmong ss es s kinds.Class) (IsClassName s xs) names name_there name_back

-- the fault, where these are the names of all classes
module _ (xs : List Item) (s : OptSet) (names : List (List ℕ)) (are : Lists text_cmp (IsClassName s xs) names) where
  pub not_many : length names ≤ most_classes → (f : Fault) → HasManyClasses s xs f → ⊥
  not_many few f t =
      let len = ap length (one_list text_cmp nat_list_cmp_total (IsClassName s xs) t.names names t.are_names are) in
      let big = t.many in
      omega (arith, few, len, big)

  pub are_many : most_classes < length names → (word : List ℕ) → word ≡ codes "classes" → (f : Fault) → HasManyClasses s xs f ↔ (f ≡ global_fault causes.TooMany nowhere word)
  are_many big word is f = (
    λ t. t.told ∙ ap (global_fault causes.TooMany nowhere) (sym is),
    λ told. record { names = names; are_names = are; many = big; told = told ∙ ap (global_fault causes.TooMany nowhere) is },
  )
