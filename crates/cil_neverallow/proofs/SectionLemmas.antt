-- The sections of types and classes: each declared symbol has one number, and a number is of one symbol.
use Rattle.std.specs.Prelude.{Option, Some, None, slice_get}
use Rattle.std.specs.Option.{option_map}
use Rattle.std.proofs.Common.{◌≡◌, ℕ, true, List, get_or, refl, sym, ◌∙◌, ap, subst}
use Rattle.std.proofs.lemmas.Bool.{and_parts}
use Rattle.std.proofs.lemmas.Option.{none-some, same_Some, slice_get-map}
use Rattle.cil_base.specs.Places.{get_at, get_contains}
use Rattle.cil_base.proofs.NameSearches.{number_is}
use Rattle.cil_macros.specs.blocks.Namespaces.{space_at}
use Rattle.cil_syntax.specs.declared.kind.Kind.{Kind}
use Rattle.cil_syntax.specs.declared.kind.Kind.TheVariants as kinds
use Rattle.cil_syntax.specs.Terms.{Term}
use Rattle.cil_syntax.specs.Scopes.{ScopedWord}
use Rattle.cil_macros.specs.Item.{Item, OptSet}
use Rattle.cil_index.proofs.names_lemmas.DeclareDecided.{symbol_by}
use Rattle.cil_index.specs.names.Entry.{Entry}
use Rattle.cil_index.specs.known.DeclaredKnown.{Known}
use Rattle.cil_index.specs.names.Declarations.{Declared, Symbol, name_of}
use Rattle.cil_index.specs.names.Entries.{IsEntryFor}
use Rattle.cil_index.specs.known.Known.{IsKnown, IsNumbered, enabled_in}
use Rattle.cil_index.specs.known.Numbers.{AreApart, has_section, spelled_of}
use Rattle.cil_index.specs.names.Symbols.{symbol_of}
use Rattle.cil_index.specs.names.Resolves.{has_permission}
use Rattle.cil_index.specs.classes.ClassRows.{AreClasses}
use Rattle.cil_index.specs.classes.Given.{HasPair, of_class, of_map, of_name}
use Rattle.cil_index.specs.classes.Values.{in_value_there}
use Rattle.cil_index.specs.classes.Class.{Class}
use Rattle.cil_index.proofs.classes_lemmas.ValueLemmas.{value_there}

-- a permission that is given is one of its class
pub pair_permission : (xs : List Item) (s : OptSet) (cp : Term ScopedWord) (c : Symbol) (p : List ℕ) → HasPair xs s cp c p → has_permission xs c p ≡ true
pair_permission xs s cp c p (of_class at word e d q stands value) = (and_parts (has_permission xs d q) (in_value_there e q) (sym (value_there (has_permission xs d) e q) ∙ value)).0
pair_permission xs s cp c p (of_map at word e inner m d r q stands value given pair) = pair_permission xs s inner d q pair
pair_permission xs s cp c p (of_name word inner n d q stands given pair) = pair_permission xs s inner d q pair

module _ (k : Known) (xs : List Item) (names : Kind → List (List ℕ)) (known : IsKnown k xs names) where
  its_entry : (c : Symbol) (kind : Kind) → Declared xs (enabled_in k) kind c → (d : ℕ) × IsEntryFor k.lookup.namespaces.now k.lookup.names.now (enabled_in k) kind c.space c.name d
  its_entry c kind declared =
      let (i, f) = known.entries.each (enabled_in k) declared.declaration declared.declares in (
        i,
        record {
          entry = f.entry;
          at = f.at;
          of_kind = f.of_kind ∙ declared.of_kind;
          in_space = f.in_space ∙ declared.in_space;
          of_name = f.of_name ∙ declared.of_name;
          live = f.live;
        },
      )

  module _ (kind : Kind) (section : has_section kind ≡ true) where
    numbered : (i : ℕ) (c : Symbol) (f : IsEntryFor k.lookup.namespaces.now k.lookup.names.now (enabled_in k) kind c.space c.name i) → IsNumbered (names kind) c (get_or k.numbers.now i 0)
    numbered i c f =
        let at = known.numbered.at i f.entry f.at (ap has_section f.of_kind ∙ section) f.live in
        let spelled : spelled_of k.lookup.namespaces.now f.entry ≡ name_of c = ap name_of (symbol_by (symbol_of k.lookup.namespaces.now f.entry) c f.in_space f.of_name) in
        subst (λ j. slice_get (names j) (get_or k.numbers.now i 0) ≡ Some (spelled_of k.lookup.namespaces.now f.entry)) f.of_kind at ∙ ap Some spelled

    -- a declared symbol has a number
    pub number_of : (c : Symbol) → Declared xs (enabled_in k) kind c → (n : ℕ) × IsNumbered (names kind) c n
    number_of c declared = let (i, f) = its_entry c kind declared in (get_or k.numbers.now i 0, numbered i c f)

    -- and one alone
    pub one_number : (n m : ℕ) (c : Symbol) → IsNumbered (names kind) c n → IsNumbered (names kind) c m → n ≡ m
    one_number n m c x y = (number_is (names kind) (name_of c) m y (known.numbered.lists kind section).rising).only n x

    -- declared symbols of one name are one
    pub one_symbol : AreApart k.lookup.names.now (enabled_in k) k.numbers.now → (c d : Symbol) → Declared xs (enabled_in k) kind c → Declared xs (enabled_in k) kind d → name_of c ≡ name_of d → c ≡ d
    one_symbol apart c d first second same_names =
        let (i, f) = its_entry c kind first in
        let (j, g) = its_entry d kind second in
        let here = numbered i c f in
        let there = numbered j d g in
        let number : get_or k.numbers.now i 0 ≡ get_or k.numbers.now j 0 =
        (number_is (names kind) (name_of d) (get_or k.numbers.now j 0) there (known.numbered.lists kind section).rising).only (get_or k.numbers.now i 0) (here ∙ ap Some same_names) in
        let place : i ≡ j = apart i j f.entry g.entry f.at g.at (f.of_kind ∙ sym g.of_kind) (ap has_section f.of_kind ∙ section) f.live g.live number in
        let one : f.entry ≡ g.entry = same_Some f.entry g.entry (sym f.at ∙ ap (slice_get k.lookup.names.now) place ∙ g.at) in
        symbol_by c d (sym f.in_space ∙ ap (λ (x : Entry). space_at k.lookup.namespaces.now x.space) one ∙ g.in_space) (sym f.of_name ∙ ap (λ (x : Entry). x.name) one ∙ g.of_name)

  module _ (rows : List Class) (are : AreClasses xs (enabled_in k) (names kinds.Class) rows) where
    -- a row has the number of its name
    pub row_numbered : (n : ℕ) (row : Class) (c : Symbol) → slice_get rows n ≡ Some row → row.name ≡ name_of c → IsNumbered (names kinds.Class) c n
    row_numbered n row c at named =
        ap (λ l. slice_get l n) (sym are.named) ∙ slice_get-map (λ (r : Class). r.name) rows n ∙ ap (option_map (λ (r : Class). r.name)) at ∙ ap Some named

    -- a declared class has a row
    pub row_of : (c : Symbol) → Declared xs (enabled_in k) kinds.Class c → (n : ℕ) × (row : Class) × (slice_get rows n ≡ Some row) × (row.name ≡ name_of c)
    row_of c declared =
        let (n, at) = number_of kinds.Class refl c declared in
        let row = there n (slice_get rows n) refl (sym (slice_get-map (λ (r : Class). r.name) rows n) ∙ ap (λ l. slice_get l n) are.named ∙ at) in (n, row.0, row.1, row.2)
      where
        there : (n : ℕ) (o : Option Class) → slice_get rows n ≡ o → option_map (λ (r : Class). r.name) (slice_get rows n) ≡ Some (name_of c)
            → (row : Class) × (slice_get rows n ≡ Some row) × (row.name ≡ name_of c)
        there n None e f = absurd (none-some (name_of c) (ap (option_map (λ (r : Class). r.name)) (sym e) ∙ f))
        there n (Some row) e f = (row, e, same_Some row.name (name_of c) (ap (option_map (λ (r : Class). r.name)) (sym e) ∙ f))

    -- a permission that is given has a place in the row of its class
    pub permission_in : (n : ℕ) (row : Class) (cp : Term ScopedWord) (c : Symbol) (p : List ℕ) → slice_get rows n ≡ Some row → row.name ≡ name_of c → Declared xs (enabled_in k) kinds.Class c
        → HasPair xs (enabled_in k) cp c p → (bit : ℕ) × (slice_get row.permissions bit ≡ Some p)
    permission_in n row cp c p at named declared pair =
        let listed = are.each row c (get_contains rows n row at) declared named in
        let found = get_at row.permissions p ((listed.members p).1 (pair_permission xs (enabled_in k) cp c p pair)) in (found.0, found.2)
