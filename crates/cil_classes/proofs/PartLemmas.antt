-- What a class permission gives, by numbers: permissions of a class, or all that is given to some nodes.
use Rattle.std.specs.Prelude.{Contains, IsBitSet, Some, slice_get}
use Rattle.std.specs.Option.{option_map}
use Rattle.std.proofs.Common.{◌≡◌, ℕ, true, List, [], get_or, refl, sym, ◌∙◌, ap, subst, inl, inr}
use Rattle.std.proofs.lemmas.Bool.{and_parts}
use Rattle.std.proofs.lemmas.Option.{same_Some, slice_get-map}
use Rattle.cil_base.specs.Lists.{Lists, contains_none, text_cmp}
use Rattle.cil_base.proofs.NameSearches.{number_is}
use Rattle.cil_base.specs.Places.{get_at, get_contains}
use Rattle.cil_macros.specs.blocks.Namespaces.{space_at}
use Rattle.cil_syntax.specs.Forms.{class_form}
use Rattle.cil_syntax.specs.Kinds.{is_wanted}
use Rattle.cil_syntax.specs.declared.kind.Kind.{Kind}
use Rattle.cil_syntax.specs.declared.kind.Kind.TheVariants as kinds
use Rattle.cil_syntax.specs.Scopes.{ScopedWord}
use Rattle.cil_syntax.specs.Terms.{Term}
use Rattle.cil_macros.specs.Item.{Item, OptSet}
use Rattle.cil_names.proofs.AnswerLemmas.{one_entry}
use Rattle.cil_names.proofs.CandidateLemmas.{they_are}
use Rattle.cil_names.proofs.DeclareDecided.{symbol_by}
use Rattle.cil_known.proofs.MemberLemmas.{found_of, named_of, wanted_of}
use Rattle.cil_names.specs.declared.entry.Entry.{Entry}
use Rattle.cil_known.specs.declared.known.Known.{Known}
use Rattle.cil_names.specs.Declarations.{Declared, Symbol, name_of}
use Rattle.cil_names.specs.Entries.{IsEntryFor}
use Rattle.cil_known.specs.Known.{IsKnown, enabled_in}
use Rattle.cil_known.specs.Members.{HasNoSets, StandsFor}
use Rattle.cil_known.specs.Numbers.{AreApart, has_section, spelled_of}
use Rattle.cil_names.specs.Symbols.{symbol_of}
use Rattle.cil_names.specs.Resolves.{has_permission}
use Rattle.cil_classes.specs.ClassRows.{AreClasses}
use Rattle.cil_classes.specs.Given.{Holder}
use Rattle.cil_classes.specs.Masks.{GivesNothing, IsGiven}
use Rattle.cil_classes.specs.Pairs.{HasPair, of_class}
use Rattle.cil_classes.specs.Parts.{AreLed, IsPartIn}
use Rattle.cil_classes.specs.Tied.{Direct, Leads, direct}
use Rattle.cil_classes.specs.Values.{in_value_there}
use Rattle.cil_classes.specs.declared.assigned.Part.{Part}
use Rattle.cil_classes.specs.declared.nodes.Node.{Node}
use Rattle.cil_classes.specs.declared.row.Class.{Class}
use Rattle.cil_classes.proofs.BitLemmas.{none_set}
use Rattle.cil_classes.proofs.LeadLemmas.{form_no_leaf, parts_of_lead}
use Rattle.cil_classes.proofs.ValueLemmas.{value_there}

-- ---- what is direct

module _ (xs : List Item) (s : OptSet) where
  pub as_direct : (t : Term ScopedWord) (c : Symbol) (p : List ℕ) → HasPair xs s t c p → Direct xs s t c p
  as_direct t c p (of_class at word e d q stands value) = direct at word e d q stands value

  pub of_direct : (t : Term ScopedWord) (c : Symbol) (p : List ℕ) → Direct xs s t c p → HasPair xs s t c p
  of_direct t c p (direct at word e d q stands value) = of_class at word e d q stands value

  -- a permission that is given is one of its class
  pub has_direct : (t : Term ScopedWord) (c : Symbol) (p : List ℕ) → HasPair xs s t c p → has_permission xs c p ≡ true
  has_direct t c p (of_class at word e d q stands value) = (and_parts (has_permission xs d q) (in_value_there e q) (sym (value_there (has_permission xs d) e q) ∙ value)).0

  pub record IsDirect (t : Term ScopedWord) (c : Symbol) : Type 0 where
    pub word : ScopedWord
    pub expression : Term ScopedWord
    pub form : class_form t ≡ Some (word, expression)
    pub stands : StandsFor xs s kinds.Class word c

  pub parts_of_direct : (t : Term ScopedWord) (c : Symbol) (p : List ℕ) → Direct xs s t c p → IsDirect t c
  parts_of_direct t c p (direct at word e d q stands value) = record { word = word; expression = e; form = refl; stands = stands }

-- ---- one class for each number, and one number for each class

module _ (k : Known) (xs : List Item) (names : Kind → List (List ℕ)) (known : IsKnown k xs names) where
  -- a declared class has an entry
  its_entry : (c : Symbol) (kind : Kind) → Declared xs (enabled_in k) kind c → (d : ℕ) × IsEntryFor k.lookup.namespaces.now k.lookup.names.now (enabled_in k) kind c.space c.name d
  its_entry c kind declared =
      let (i, f) = known.entries.each (enabled_in k) declared.declaration declared.declares in (
        i,
        record {
          entry = f.entry;
          at = f.at;
          of_kind = f.of_kind ∙ declared.of_kind;
          in_space = f.in_space ∙ declared.in_space;
          of_name = f.of_name ∙ declared.of_name;
          live = f.live;
        },
      )

  -- a word stands for symbols of one kind alone
  pub one_kind_of : (a b : Kind) → HasNoSets a → HasNoSets b → (w : ScopedWord) (c d : Symbol) → StandsFor xs (enabled_in k) a w c → StandsFor xs (enabled_in k) b w d → a ≡ b
  one_kind_of a b plain_a plain_b w c d first second =
      let (i, f) = its_entry c a first.declared in
      let (j, g) = its_entry d b second.declared in
      let space : c.space ≡ d.space = same_Some c.space d.space (sym (found_of xs (enabled_in k) a plain_a w c first) ∙ found_of xs (enabled_in k) b plain_b w d second) in
      let name : c.name ≡ d.name = named_of xs (enabled_in k) a plain_a w c first ∙ sym (named_of xs (enabled_in k) b plain_b w d second) in
      let same : i ≡ j =
      one_entry k.lookup.namespaces.now known.namespaces k.lookup.names.now known.entries.ordered c.name w.sign c.space i j f.entry g.entry f.at g.at
      (they_are k.lookup.namespaces.now c.name w.sign c.space f.entry f.in_space f.of_name (ap (is_wanted w.sign) f.of_kind ∙ wanted_of xs (enabled_in k) a plain_a w c first))
      (they_are k.lookup.namespaces.now c.name w.sign c.space g.entry (g.in_space ∙ sym space) (g.of_name ∙ sym name) (ap (is_wanted w.sign) g.of_kind ∙ wanted_of xs (enabled_in k) b plain_b w d second)) in
      let one : f.entry ≡ g.entry = same_Some f.entry g.entry (sym f.at ∙ ap (slice_get k.lookup.names.now) same ∙ g.at) in
      sym f.of_kind ∙ ap (λ (x : Entry). x.kind) one ∙ g.of_kind

  -- a list on a class leads to no holder
  pub never_both : (cp : Term ScopedWord) (c : Symbol) (p : List ℕ) (h : Holder) → Direct xs (enabled_in k) cp c p → Leads xs (enabled_in k) cp h → ⊥
  never_both cp c p h d leads =
      let first = parts_of_direct xs (enabled_in k) cp c p d in
      elim (parts_of_lead xs (enabled_in k) cp h leads) [
        | inl by_name ↦ form_no_leaf cp first.word first.expression by_name.word first.form by_name.is
        | inr by_map ↦
            let same = same_Some (by_map.word, by_map.expression) (first.word, first.expression) (sym by_map.form ∙ first.form) in
            let stands = subst (λ u. StandsFor xs (enabled_in k) kinds.ClassMap u by_map.symbol) (ap (λ p. p.0) same) by_map.stands in
            let kinds_same : kinds.Class ≡ kinds.ClassMap = one_kind_of kinds.Class kinds.ClassMap refl refl first.word c by_map.symbol first.stands stands in
            absurd cc
      ]

  -- two declared classes of one name are one
  pub one_class : AreApart k.lookup.names.now (enabled_in k) k.numbers.now → (c d : Symbol) → Declared xs (enabled_in k) kinds.Class c → Declared xs (enabled_in k) kinds.Class d → name_of c ≡ name_of d
      → c ≡ d
  one_class apart c d first second same_names =
      let (i, f) = its_entry c kinds.Class first in
      let (j, g) = its_entry d kinds.Class second in
      let here = numbered i c f in
      let there = numbered j d g in
      let number : get_or k.numbers.now i 0 ≡ get_or k.numbers.now j 0 =
      (number_is (names kinds.Class) (name_of d) (get_or k.numbers.now j 0) there (known.numbered.lists kinds.Class refl).rising).only (get_or k.numbers.now i 0) (here ∙ ap Some same_names) in
      let place : i ≡ j = apart i j f.entry g.entry f.at g.at (f.of_kind ∙ sym g.of_kind) (ap has_section f.of_kind) f.live g.live number in
      let one : f.entry ≡ g.entry = same_Some f.entry g.entry (sym f.at ∙ ap (slice_get k.lookup.names.now) place ∙ g.at) in
      symbol_by c d (sym f.in_space ∙ ap (λ (x : Entry). space_at k.lookup.namespaces.now x.space) one ∙ g.in_space)
      (sym f.of_name ∙ ap (λ (x : Entry). x.name) one ∙ g.of_name)
    where
      numbered : (i : ℕ) (c : Symbol) (f : IsEntryFor k.lookup.namespaces.now k.lookup.names.now (enabled_in k) kinds.Class c.space c.name i)
          → slice_get (names kinds.Class) (get_or k.numbers.now i 0) ≡ Some (name_of c)
      numbered i c f =
          let at = known.numbered.at i f.entry f.at (ap has_section f.of_kind) f.live in
          let spelled : spelled_of k.lookup.namespaces.now f.entry ≡ name_of c = ap name_of (symbol_by (symbol_of k.lookup.namespaces.now f.entry) c f.in_space f.of_name) in
          subst (λ kind. slice_get (names kind) (get_or k.numbers.now i 0) ≡ Some (spelled_of k.lookup.namespaces.now f.entry)) f.of_kind at ∙ ap Some spelled

  module _ (rows : List Class) (are : AreClasses xs (enabled_in k) (names kinds.Class) rows) where
    -- two rows of one name are one
    pub one_row : (i j : ℕ) (a b : Class) → slice_get rows i ≡ Some a → slice_get rows j ≡ Some b → a.name ≡ b.name → i ≡ j
    one_row i j a b at bt same =
        (number_is (names kinds.Class) b.name j (name_at j b bt) (known.numbered.lists kinds.Class refl).rising).only i (name_at i a at ∙ ap Some same)
      where
        name_at : (n : ℕ) (row : Class) → slice_get rows n ≡ Some row → slice_get (names kinds.Class) n ≡ Some row.name
        name_at n row at = ap (λ l. slice_get l n) (sym are.named) ∙ slice_get-map (λ (r : Class). r.name) rows n ∙ ap (option_map (λ (r : Class). r.name)) at

    module _ (apart : AreApart k.lookup.names.now (enabled_in k) k.numbers.now) (nodes : List Node) (cp : Term ScopedWord) where
      -- a list on a class, of which it gives permissions
      pub some_part : (n mask : ℕ) (part : Part) → IsGiven xs (enabled_in k) rows cp n mask → part.class ≡ n → part.mask ≡ mask → part.from.items ≡ [] → IsPartIn k xs rows nodes part cp
      some_part n mask part given is_class is_mask empty = record {
        bits = λ class_ bit c p is. (
          λ d.
              let pair = of_direct xs (enabled_in k) cp c p d in
              let symbol = given.only_symbol c p pair in
              let row_same : is.row.name ≡ given.row.name = is.named ∙ ap name_of symbol ∙ sym given.named in
              let number : class_ ≡ n = one_row class_ n is.row given.row is.is_row given.is_row row_same in
              let row : is.row ≡ given.row = same_Some is.row given.row (sym is.is_row ∙ ap (slice_get rows) number ∙ given.is_row) in (
                is_class ∙ sym number,
                subst (λ j. IsBitSet j bit) (sym is_mask)
                    ((given.bits bit).1 (p, ap (λ (r : Class). slice_get r.permissions bit) (sym row) ∙ is.at, subst (λ t. HasPair xs (enabled_in k) cp t p) symbol pair)),
              ),
          λ both.
              let number : n ≡ class_ = sym is_class ∙ both.0 in
              let (q, at, pair) = (given.bits bit).0 (subst (λ j. IsBitSet j bit) is_mask both.1) in
              let row : given.row ≡ is.row = same_Some given.row is.row (sym given.is_row ∙ ap (slice_get rows) number ∙ is.is_row) in
              let permission : q ≡ p = same_Some q p (sym at ∙ ap (λ (r : Class). slice_get r.permissions bit) row ∙ is.at) in
              let symbol : given.symbol ≡ c =
              one_class apart given.symbol c (declared_of given.symbol q pair) is.declared (sym given.named ∙ ap (λ (r : Class). r.name) row ∙ is.named) in
              as_direct xs (enabled_in k) cp c p (subst (λ t. HasPair xs (enabled_in k) cp t p) symbol (subst (HasPair xs (enabled_in k) cp given.symbol) permission pair)),
        );
        has_bit = λ c p d.
            let pair = of_direct xs (enabled_in k) cp c p d in
            let symbol = given.only_symbol c p pair in
            let has = (listed given.symbol given.row given.is_row given.named (declared_of c p pair) symbol).members p in
            let (bit, below, at) = get_at given.row.permissions p (has.1 (has_it c p pair symbol)) in
            (bit, record { row = given.row; is_row = ap (slice_get rows) is_class ∙ given.is_row; named = given.named ∙ ap name_of (sym symbol); declared = declared_of c p pair; at = at });
        of_bit = λ bit set.
            let (p, at, pair) = (given.bits bit).0 (subst (λ j. IsBitSet j bit) is_mask set) in
            (given.symbol, p, record { row = given.row; is_row = ap (slice_get rows) is_class ∙ given.is_row; named = given.named; declared = declared_of given.symbol p pair; at = at });
        leads = λ v h is. (
          λ leads. absurd (never h leads),
          λ c. absurd (contains_none v (subst (λ l. Contains l v) empty c)),
        );
        are_nodes = λ v c. absurd (contains_none v (subst (λ l. Contains l v) empty c));
      }
        where
          declared_of : (c : Symbol) (p : List ℕ) → HasPair xs (enabled_in k) cp c p → Declared xs (enabled_in k) kinds.Class c
          declared_of c p pair = (parts_of_direct xs (enabled_in k) cp c p (as_direct xs (enabled_in k) cp c p pair)).stands.declared

          listed : (c : Symbol) (row : Class) → slice_get rows n ≡ Some row → row.name ≡ name_of c → {d : Symbol} → Declared xs (enabled_in k) kinds.Class d → d ≡ c
              → Lists text_cmp (λ p. has_permission xs c p ≡ true) row.permissions
          listed c row at named {d} declared same =
              are.each row c (get_contains rows n row at) (subst (Declared xs (enabled_in k) kinds.Class) same declared) named

          has_it : (c : Symbol) (p : List ℕ) → HasPair xs (enabled_in k) cp c p → c ≡ given.symbol → has_permission xs given.symbol p ≡ true
          has_it c p pair same = subst (λ t. has_permission xs t p ≡ true) same (has_direct xs (enabled_in k) cp c p pair)

          never : (h : Holder) → Leads xs (enabled_in k) cp h → ⊥
          never h leads = never_both cp given.symbol given.some.0 h (as_direct xs (enabled_in k) cp given.symbol given.some.0 given.some.1) leads

      -- any other class permission
      pub no_part : (part : Part) → GivesNothing xs (enabled_in k) cp → AreLed k xs nodes cp part.from.items → part.mask ≡ 0 → IsPartIn k xs rows nodes part cp
      no_part part nothing led zero = record {
        bits = λ class_ bit c p is. (
          λ d. absurd (nothing c p (of_direct xs (enabled_in k) cp c p d)),
          λ both. absurd (none_set bit (subst (λ j. IsBitSet j bit) zero both.1)),
        );
        has_bit = λ c p d. absurd (nothing c p (of_direct xs (enabled_in k) cp c p d));
        of_bit = λ bit set. absurd (none_set bit (subst (λ j. IsBitSet j bit) zero set));
        leads = led.leads;
        are_nodes = led.are_nodes;
      }
