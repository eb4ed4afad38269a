-- What a word stands for, by the entry that it means.
use Rattle.std.proofs.Common.{◌≡◌, ℕ, true, List, get_or, refl, sym, ◌∙◌, ap, subst}
use Rattle.std.specs.Prelude.{Option, Some, None, slice_get}
use Rattle.std.proofs.lemmas.Option.{none-some, same_Some}
use Rattle.cil_syntax.specs.declared.kind.Kind.{Kind}
use Rattle.cil_syntax.specs.Scopes.{asked, ScopedWord}
use Rattle.cil_names.specs.macros.Item.{Item}
use Rattle.cil_names.proofs.CandidateLemmas.{parts_of, they_are}
use Rattle.cil_names.proofs.DeclareDecided.{symbol_by}
use Rattle.cil_names.specs.declared.entry.Entry.{Entry}
use Rattle.cil_names.specs.Declarations.{Symbol, name_of}
use Rattle.cil_names.specs.Entries.{IsAnswer, IsNamed, is_declared_in}
use Rattle.cil_names.specs.Laws.{MeansWhatItNames}
use Rattle.cil_known.specs.Numbers.{has_section}
use Rattle.cil_names.specs.Symbols.{symbol_of}
use Rattle.cil_names.specs.Resolves.{found_in}
use Rattle.cil_syntax.specs.Kinds.{is_wanted}
use Rattle.cil_names.specs.blocks.Namespaces.{space_at}
use Rattle.cil_known.specs.declared.known.Known.{Known}
use Rattle.cil_known.specs.Known.{IsNumbered, IsKnown, IsNumberFor, StandsForNothing, enabled_in, meant_in}
use Rattle.cil_known.specs.Members.{HasNoSets, StandsFor}
use Rattle.cil_known.proofs.MemberLemmas.{found_of, named_of, stands_by, wanted_of}
use Rattle.cil_base.proofs.NameSearches.{number_is}

-- ---- words

module _ (k : Known) (xs : List Item) (names : Kind → List (List ℕ)) (known : IsKnown k xs names) (kind : Kind) (plain : HasNoSets kind) (w : ScopedWord) where
  -- a word that means nothing
  not_found : found_in xs (enabled_in k) w ≡ None → StandsForNothing xs (enabled_in k) kind w
  not_found none t stands = none-some t.space (sym none ∙ found_of xs (enabled_in k) kind plain w t stands)

  module _ (d : ℕ) (named : IsNamed k.lookup.namespaces.now xs k.lookup.names.now (enabled_in k) w d) (e : Entry) (at : slice_get k.lookup.names.now d ≡ Some e) where
    same : named.entry ≡ e
    same = same_Some named.entry e (sym named.at ∙ at)

    -- a symbol for which the word stands is that of the entry
    kind_is : (t : Symbol) → StandsFor xs (enabled_in k) kind w t → e.kind ≡ kind
    kind_is t st =
        let (i, f) = known.entries.each (enabled_in k) st.declared.declaration st.declared.declares in
        let there : t.space ≡ named.space = same_Some t.space named.space (sym (found_of xs (enabled_in k) kind plain w t st) ∙ named.found) in
        let fits = they_are k.lookup.namespaces.now (asked w.bytes).name w.sign named.space f.entry (f.in_space ∙ st.declared.in_space ∙ there) (f.of_name ∙ st.declared.of_name ∙ named_of xs (enabled_in k) kind plain w t st)
        (ap (is_wanted w.sign) (f.of_kind ∙ st.declared.of_kind) ∙ wanted_of xs (enabled_in k) kind plain w t st) in
        let one : e ≡ f.entry = same_Some e f.entry (sym at ∙ ap (slice_get k.lookup.names.now) (sym (named.only i f.entry f.at fits)) ∙ f.at) in
        ap (λ (x : Entry). x.kind) one ∙ f.of_kind ∙ st.declared.of_kind

    other_kind : (e.kind ≡ kind → ⊥) → StandsForNothing xs (enabled_in k) kind w
    other_kind differs t st = differs (kind_is t st)

    abbrev its_symbol : Symbol
    its_symbol = record { space = named.space; name = (asked w.bytes).name }

    its_name : symbol_of k.lookup.namespaces.now e ≡ its_symbol
    its_name =
        let (space, name, wanted) = parts_of k.lookup.namespaces.now (asked w.bytes).name w.sign named.space named.entry named.fits in
        symbol_by (symbol_of k.lookup.namespaces.now e) its_symbol
        (ap (λ (x : Entry). space_at k.lookup.namespaces.now x.space) (sym same) ∙ space) (ap (λ (x : Entry). x.name) (sym same) ∙ name)

    the_number : has_section kind ≡ true → e.kind ≡ kind → (n : ℕ) → n ≡ get_or k.numbers.now d 0 → IsNumberFor xs (enabled_in k) kind (names kind) w n
    the_number section of_kind n is_n =
        let live : is_declared_in (enabled_in k) e ≡ true = ap (is_declared_in (enabled_in k)) (sym same) ∙ named.live in
        let (x, is_x, has_kind, in_space, of_name) = known.entries.only (enabled_in k) d e at live in
        let (space, name, wanted) = parts_of k.lookup.namespaces.now (asked w.bytes).name w.sign named.space named.entry named.fits in
        let placed : IsNumbered (names kind) (symbol_of k.lookup.namespaces.now e) (get_or k.numbers.now d 0) =
        subst (λ j. IsNumbered (names j) (symbol_of k.lookup.namespaces.now e) (get_or k.numbers.now d 0)) of_kind
        (known.numbered.at d e at (ap has_section of_kind ∙ section) live) in
        let numbered : IsNumbered (names kind) its_symbol n =
        subst (λ j. IsNumbered (names kind) its_symbol j) (sym is_n) (subst (λ y. IsNumbered (names kind) y (get_or k.numbers.now d 0)) its_name placed) in
        record {
          symbol = its_symbol;
          stands = stands_by xs (enabled_in k) kind plain w its_symbol (ap (is_wanted w.sign) (sym of_kind ∙ ap (λ (y : Entry). y.kind) (sym same)) ∙ wanted) named.found refl (record {
            declaration = x;
            declares = is_x;
            of_kind = has_kind ∙ of_kind;
            in_space = in_space ∙ ap (λ (y : Symbol). y.space) its_name;
            of_name = of_name ∙ ap (λ (y : Symbol). y.name) its_name;
          });
          only_symbol = λ u st. symbol_by u its_symbol (same_Some u.space named.space (sym (found_of xs (enabled_in k) kind plain w u st) ∙ named.found)) (named_of xs (enabled_in k) kind plain w u st);
          numbered = numbered;
          only_number = (number_is (names kind) (name_of its_symbol) n numbered (known.numbered.lists kind section).rising).only;
        }

  -- ---- by what the word means

  module _ (law : MeansWhatItNames) where
    its_answer : (r : Option ℕ) → r ≡ meant_in k w → IsAnswer k.lookup.namespaces.now xs k.lookup.names.now (enabled_in k) w r
    its_answer r means =
        subst (IsAnswer k.lookup.namespaces.now xs k.lookup.names.now (enabled_in k) w) (sym means)
        (law k.lookup.namespaces.now xs k.lookup.names.now (enabled_in k) w known.namespaces known.entries)

    pub of_nothing : None ≡ meant_in k w → StandsForNothing xs (enabled_in k) kind w
    of_nothing means = not_found (its_answer None means)

    pub of_no_entry : (d : ℕ) → Some d ≡ meant_in k w → slice_get k.lookup.names.now d ≡ None → StandsForNothing xs (enabled_in k) kind w
    of_no_entry d means none = let named = its_answer (Some d) means in absurd (none-some named.entry (sym none ∙ named.at))

    pub of_other_kind : (d : ℕ) (e : Entry) → Some d ≡ meant_in k w → slice_get k.lookup.names.now d ≡ Some e → (e.kind ≡ kind → ⊥)
        → StandsForNothing xs (enabled_in k) kind w
    of_other_kind d e means at = other_kind d (its_answer (Some d) means) e at

    pub of_entry : (d : ℕ) (e : Entry) → Some d ≡ meant_in k w → slice_get k.lookup.names.now d ≡ Some e → has_section kind ≡ true → e.kind ≡ kind
        → (n : ℕ) → n ≡ get_or k.numbers.now d 0 → IsNumberFor xs (enabled_in k) kind (names kind) w n
    of_entry d e means at = the_number d (its_answer (Some d) means) e at
