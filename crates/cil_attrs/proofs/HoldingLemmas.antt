-- What a word holds in a family of sets, by what the declared name that it means holds as numbers.
use Rattle.std.proofs.Common.{◌≡◌, ℕ, Bool, true, false, ◌&&◌, ◌||◌, List, refl, sym, ◌∙◌, ap, subst}
use Rattle.std.specs.Prelude.{Option, Some, None, slice_get}
use Rattle.std.specs.Option.{option_map_or}
use Rattle.std.specs.Cmp.Lexicographic.{bytes_decides}
use Rattle.std.proofs.lemmas.Option.{same_Some}
use Rattle.cil_base.specs.Searches.{same_truth}
use Rattle.cil_syntax.specs.declared.kind.Kind.{Kind}
use Rattle.cil_syntax.specs.declared.term.Word.{Word}
use Rattle.cil_syntax.specs.Expressions.{by_way, differ, is_in, is_in_each, is_in_odd, is_in_some, way_of}
use Rattle.cil_syntax.specs.Kinds.{is_wanted}
use Rattle.cil_syntax.specs.Scopes.{ScopedWord, asked, same_space}
use Rattle.cil_syntax.specs.Spelling.{same_bytes}
use Rattle.cil_syntax.specs.Terms.{Term, Leaf, Name, Form, Terms, nil, cons}
use Rattle.cil_syntax.proofs.DecidedEquality.{spaces_decide}
use Rattle.cil_syntax.proofs.KindLemmas.{one_kind, same_kind}
use Rattle.cil_known.specs.macros.blocks.Namespaces.{space_at}
use Rattle.cil_known.specs.macros.Item.{Item, all_replaced, replaced}
use Rattle.cil_known.specs.names.Entry.{Entry}
use Rattle.cil_known.specs.declared.known.Known.{Known}
use Rattle.cil_known.specs.names.Declarations.{Declared, Symbol}
use Rattle.cil_known.specs.names.Entries.{IsAnswer, IsNamed}
use Rattle.cil_known.specs.Family.{Family, holds, in_value, no_range}
use Rattle.cil_known.specs.Known.{IsKnown, enabled_in, meant_in}
use Rattle.cil_known.specs.names.Laws.{MeansWhatItNames}
use Rattle.cil_known.specs.names.Symbols.{symbol_of}
use Rattle.cil_known.specs.names.Resolves.{found_in}
use Rattle.cil_known.specs.Spaces.{Sets, SpaceOf, any_sets, is_declared, is_same_symbol, names, names_set, symbol_in}
use Rattle.cil_known.proofs.names_lemmas.CandidateLemmas.{parts_of, they_are}
use Rattle.cil_known.proofs.names_lemmas.DeclareDecided.{symbol_by}
use Rattle.cil_known.proofs.FamilyLemmas.{same_tests}
use Rattle.cil_known.proofs.MemberLemmas.{declared_is}
use Rattle.cil_attrs.specs.declared.evaluator.Held.{Held}
use Rattle.cil_base.specs.Among.{among}
use Rattle.cil_attrs.specs.Evaluated.{has_meant, in_term}
use Rattle.cil_attrs.proofs.EvaluatedLemmas.{among_is}
use Rattle.cil_attrs.specs.Holding.{AreAll, HoldAs, HoldsAs, IsItem, is_kind, stands}

pub both : (a b : Bool) → (a && b) ≡ true → (a ≡ true) × (b ≡ true)
both true b e = (refl, e)
both false b e = absurd (let c : false ≡ true = e in cc)

pub pair : (a b : Bool) → a ≡ true → b ≡ true → (a && b) ≡ true
pair true b e f = f
pair false b e f = absurd (let c : false ≡ true = e in cc)

and_false : (a : Bool) → (a && false) ≡ false
and_false true = refl
and_false false = refl

and_true : (a b : Bool) → b ≡ true → (a && b) ≡ a
and_true true b e = e
and_true false b e = refl

pub same_symbol : (a b : Symbol) → is_same_symbol a b ≡ true → a ≡ b
same_symbol a b e =
    let p = both (same_space a.space b.space) (same_bytes a.name b.name) e in
    symbol_by a b ((spaces_decide a.space b.space).0 p.0) ((bytes_decides a.name b.name).0 p.1)

and_either : (a b s : Bool) → ((a && s) || (b && s)) ≡ ((a || b) && s)
and_either true b true = refl
and_either true true false = refl
and_either true false false = refl
and_either false b s = refl

-- ---- expressions over replaced words

module _ {L M : Type 0} (f : L → M) (p : M → Bool) (among : Bool) where
  mutual
    unfolding replaced all_replaced is_in is_in_some is_in_each is_in_odd

    pub value_replaced : (e : Term L) → is_in p among (λ ts. false) (replaced (λ at. at) f e) ≡ is_in (λ w. p (f w)) among (λ ts. false) e
    value_replaced (Leaf w) = refl
    value_replaced (Name at x) = refl
    value_replaced (Form at op ts) =
        ap (λ b. by_way (way_of op) among b (is_in_each p among (λ us. false) (all_replaced (λ a. a) f ts)) (is_in_odd p among (λ us. false) (all_replaced (λ a. a) f ts)) false) (some_replaced ts)
        ∙ ap (λ b. by_way (way_of op) among (is_in_some (λ w. p (f w)) among (λ us. false) ts) b (is_in_odd p among (λ us. false) (all_replaced (λ a. a) f ts)) false) (each_replaced ts)
        ∙ ap (λ b. by_way (way_of op) among (is_in_some (λ w. p (f w)) among (λ us. false) ts) (is_in_each (λ w. p (f w)) among (λ us. false) ts) b false) (odd_replaced ts)

    some_replaced : (ts : Terms L) → is_in_some p among (λ us. false) (all_replaced (λ at. at) f ts) ≡ is_in_some (λ w. p (f w)) among (λ us. false) ts
    some_replaced nil = refl
    some_replaced (cons a ts) =
        ap (λ b. b || is_in_some p among (λ us. false) (all_replaced (λ at. at) f ts)) (value_replaced a)
        ∙ ap (λ b. is_in (λ w. p (f w)) among (λ us. false) a || b) (some_replaced ts)

    each_replaced : (ts : Terms L) → is_in_each p among (λ us. false) (all_replaced (λ at. at) f ts) ≡ is_in_each (λ w. p (f w)) among (λ us. false) ts
    each_replaced nil = refl
    each_replaced (cons a ts) =
        ap (λ b. b && is_in_each p among (λ us. false) (all_replaced (λ at. at) f ts)) (value_replaced a)
        ∙ ap (λ b. is_in (λ w. p (f w)) among (λ us. false) a && b) (each_replaced ts)

    odd_replaced : (ts : Terms L) → is_in_odd p among (λ us. false) (all_replaced (λ at. at) f ts) ≡ is_in_odd (λ w. p (f w)) among (λ us. false) ts
    odd_replaced nil = refl
    odd_replaced (cons a ts) =
        ap (λ b. differ b (is_in_odd p among (λ us. false) (all_replaced (λ at. at) f ts))) (value_replaced a)
        ∙ ap (λ b. differ (is_in (λ w. p (f w)) among (λ us. false) a) b) (odd_replaced ts)

-- ---- words

module _ (k : Known) (xs : List Item) (sections : Kind → List (List ℕ)) (known : IsKnown k xs sections) (w : ScopedWord) where
  module _ (d : ℕ) (named : IsNamed k.lookup.namespaces.now xs k.lookup.names.now (enabled_in k) w d) where
    abbrev pub its : Symbol
    its = symbol_of k.lookup.namespaces.now named.entry

    -- the parts of what the word names
    its_parts : (space_at k.lookup.namespaces.now named.entry.space ≡ named.space) × (named.entry.name ≡ (asked w.bytes).name) × (is_wanted w.sign named.entry.kind ≡ true)
    its_parts = parts_of k.lookup.namespaces.now (asked w.bytes).name w.sign named.space named.entry named.fits

    its_symbol : its ≡ symbol_in w named.space
    its_symbol = symbol_by its (symbol_in w named.space) its_parts.0 its_parts.1

    -- a symbol of the kind that a word could name in this namespace is that of the entry
    kind_declared : (kind : Kind) → is_wanted w.sign kind ≡ true → Declared xs (enabled_in k) kind its → named.entry.kind ≡ kind
    kind_declared kind wanted st =
        let (i, f) = known.entries.each (enabled_in k) st.declaration st.declares in
        let fits = they_are k.lookup.namespaces.now (asked w.bytes).name w.sign named.space f.entry (f.in_space ∙ st.in_space ∙ its_parts.0) (f.of_name ∙ st.of_name ∙ its_parts.1)
        (ap (is_wanted w.sign) (f.of_kind ∙ st.of_kind) ∙ wanted) in
        let one : named.entry ≡ f.entry = same_Some named.entry f.entry (sym named.at ∙ ap (slice_get k.lookup.names.now) (sym (named.only i f.entry f.at fits)) ∙ f.at) in
        ap (λ (x : Entry). x.kind) one ∙ f.of_kind ∙ st.of_kind

    declared_kind : Declared xs (enabled_in k) named.entry.kind its
    declared_kind =
        let (x, is_x, has_kind, in_space, of_name) = known.entries.only (enabled_in k) d named.entry named.at named.live in
        record { declaration = x; declares = is_x; of_kind = has_kind; in_space = in_space; of_name = of_name }

    is_same : (a b : Symbol) → a ≡ b → is_same_symbol a b ≡ true
    is_same a b e = pair _ _ ((spaces_decide a.space b.space).1 (ap (λ (u : Symbol). u.space) e)) ((bytes_decides a.name b.name).1 (ap (λ (u : Symbol). u.name) e))

    found_there : (t : Symbol) → option_map_or (λ n. is_same_symbol (symbol_in w n) t) (found_in xs (enabled_in k) w) false ≡ is_same_symbol its t
    found_there t =
        ap (λ r. option_map_or (λ n. is_same_symbol (symbol_in w n) t) r false) named.found
        ∙ ap (λ a. is_same_symbol a t) (sym its_symbol)

    -- the word names a symbol of a kind just where the entry is of that kind and symbol
    pub kind_named : (kind : Kind) (t : Symbol) → names xs (enabled_in k) kind w t ≡ (is_kind named.entry.kind kind && is_same_symbol its t)
    unfolding names
    kind_named kind t =
        ap (λ b. (is_wanted w.sign kind && is_declared xs (enabled_in k) kind t) && b) (found_there t)
        ∙ same_truth ((is_wanted w.sign kind && is_declared xs (enabled_in k) kind t) && is_same_symbol its t) (is_kind named.entry.kind kind && is_same_symbol its t) there back
      where
        there : ((is_wanted w.sign kind && is_declared xs (enabled_in k) kind t) && is_same_symbol its t) ≡ true → (is_kind named.entry.kind kind && is_same_symbol its t) ≡ true
        there e =
            let p = both (is_wanted w.sign kind && is_declared xs (enabled_in k) kind t) (is_same_symbol its t) e in
            let q = both (is_wanted w.sign kind) (is_declared xs (enabled_in k) kind t) p.0 in
            let declared = subst (λ a. Declared xs (enabled_in k) kind a) (sym (same_symbol its t p.1)) ((declared_is xs (enabled_in k) kind t).0 q.1) in
            pair _ _ (same_kind named.entry.kind kind (kind_declared kind q.0 declared)) p.1

        back : (is_kind named.entry.kind kind && is_same_symbol its t) ≡ true → ((is_wanted w.sign kind && is_declared xs (enabled_in k) kind t) && is_same_symbol its t) ≡ true
        back e =
            let p = both (is_kind named.entry.kind kind) (is_same_symbol its t) e in
            let of_kind = one_kind named.entry.kind kind p.0 in
            let declared = subst (λ j. Declared xs (enabled_in k) j its) of_kind declared_kind in
            let declared_t = subst (λ a. Declared xs (enabled_in k) kind a) (same_symbol its t p.1) declared in
            pair _ _ (pair _ _ (ap (is_wanted w.sign) (sym of_kind) ∙ its_parts.2) ((declared_is xs (enabled_in k) kind t).1 declared_t)) p.1

    kind_of_its : (kind : Kind) → names xs (enabled_in k) kind w its ≡ is_kind named.entry.kind kind
    kind_of_its kind = kind_named kind its ∙ and_true (is_kind named.entry.kind kind) (is_same_symbol its its) (is_same its its refl)

    pub sets_of : (space : SpaceOf) → names_set xs (enabled_in k) space w its ≡ any_sets space (λ j. is_kind named.entry.kind j.kind)
    sets_of space =
        ap (λ b. b || option_map_or (λ j. names xs (enabled_in k) j.kind w its) space.attributes false) (one space.aliases)
        ∙ ap (λ b. option_map_or (λ (j : Sets). is_kind named.entry.kind j.kind) space.aliases false || b) (one space.attributes)
      where
        one : (o : Option Sets) → option_map_or (λ j. names xs (enabled_in k) j.kind w its) o false ≡ option_map_or (λ j. is_kind named.entry.kind j.kind) o false
        one None = refl
        one (Some j) = kind_of_its j.kind

    -- the word names a set just where the entry is that of the set
    pub sets_named : (space : SpaceOf) (b : Symbol) → names_set xs (enabled_in k) space w b ≡ (any_sets space (λ j. is_kind named.entry.kind j.kind) && is_same_symbol its b)
    sets_named space b =
        ap (λ z. z || option_map_or (λ j. names xs (enabled_in k) j.kind w b) space.attributes false) (one space.aliases)
        ∙ ap (λ z. (option_map_or (λ (j : Sets). is_kind named.entry.kind j.kind) space.aliases false && is_same_symbol its b) || z) (one space.attributes)
        ∙ and_either (option_map_or (λ (j : Sets). is_kind named.entry.kind j.kind) space.aliases false) (option_map_or (λ (j : Sets). is_kind named.entry.kind j.kind) space.attributes false) (is_same_symbol its b)
      where
        one : (o : Option Sets) → option_map_or (λ j. names xs (enabled_in k) j.kind w b) o false ≡ (option_map_or (λ (j : Sets). is_kind named.entry.kind j.kind) o false && is_same_symbol its b)
        one None = refl
        one (Some j) = kind_named j.kind b

    -- the word holds the item just where the entry stands for it
    holds_as_named : (space : SpaceOf) (m : Family) (t : Symbol) → holds xs (enabled_in k) space no_range m w t ≡ stands k xs sections space m named.entry t
    unfolding holds
    holds_as_named space m t =
        ap (λ b. b || option_map_or (λ n. names_set xs (enabled_in k) space w (symbol_in w n) && m (symbol_in w n) t) (found_in xs (enabled_in k) w) false) (kind_named space.item t)
        ∙ ap (λ r. (is_kind named.entry.kind space.item && is_same_symbol its t) || option_map_or (λ n. names_set xs (enabled_in k) space w (symbol_in w n) && m (symbol_in w n) t) r false) named.found
        ∙ ap (λ a. (is_kind named.entry.kind space.item && is_same_symbol its t) || (names_set xs (enabled_in k) space w a && m a t)) (sym its_symbol)
        ∙ ap (λ b. (is_kind named.entry.kind space.item && is_same_symbol its t) || (b && m its t)) (sets_of space)

  -- where a word is not found it holds nothing
  holds_nothing : (space : SpaceOf) (m : Family) (t : Symbol) → found_in xs (enabled_in k) w ≡ None → holds xs (enabled_in k) space no_range m w t ≡ false
  unfolding holds names
  holds_nothing space m t none =
      ap (λ r. ((is_wanted w.sign space.item && is_declared xs (enabled_in k) space.item t) && option_map_or (λ n. is_same_symbol (symbol_in w n) t) r false)
      || option_map_or (λ n. names_set xs (enabled_in k) space w (symbol_in w n) && m (symbol_in w n) t) r false) none
      ∙ ap (λ b. b || false) (and_false (is_wanted w.sign space.item && is_declared xs (enabled_in k) space.item t))

  module _ (law : MeansWhatItNames) (space : SpaceOf) (m : Family) (helds : List Held) (t : Symbol) (n : ℕ) (is_item : IsItem k xs sections space t n) where
    -- the number is in what the word means just where the word holds the item
    pub word_holds : ((d : ℕ) → Some d ≡ meant_in k w → HoldsAs k xs sections space helds m d) → has_meant helds n (meant_in k w) ≡ holds xs (enabled_in k) space no_range m w t
    word_holds held = by (meant_in k w) refl (law k.lookup.namespaces.now xs k.lookup.names.now (enabled_in k) w known.namespaces known.entries)
      where
        by : (r : Option ℕ) → r ≡ meant_in k w → IsAnswer k.lookup.namespaces.now xs k.lookup.names.now (enabled_in k) w r → has_meant helds n r ≡ holds xs (enabled_in k) space no_range m w t
        by None e none = sym (holds_nothing space m t none)
        by (Some d) e named = held d e named.entry named.at named.live t n is_item ∙ sym (holds_as_named d named space m t)

-- ---- the value of an expression

among_true : (b : Bool) (c : Bool) → b ≡ true → c ≡ true → b ≡ c
among_true b c e f = e ∙ sym f

module _ (k : Known) (xs : List Item) (sections : Kind → List (List ℕ)) (known : IsKnown k xs sections) (law : MeansWhatItNames) (space : SpaceOf) (m : Family) (helds : List Held)
    (all : List ℕ) (every : AreAll k xs sections space all) (f : Word → ScopedWord) where
  -- the number of an item is in the value of an expression just where the item is
  pub value_as_family : (e : Term Word) → HoldAs k xs sections space helds m f e → (t : Symbol) (n : ℕ) → IsItem k xs sections space t n
      → in_term helds all (λ w. meant_in k (f w)) n e ≡ in_value xs (enabled_in k) space no_range m (replaced (λ at. at) f e) t
  value_as_family e held t n is_item =
      same_tests (λ w. has_meant helds n (meant_in k (f w))) (λ w. holds xs (enabled_in k) space no_range m (f w) t) (among all n) (λ ts. false) e
      (λ w c. word_holds k xs sections known (f w) law space m helds t n is_item (λ d means. held w d c means))
      ∙ ap (λ b. is_in (λ w. holds xs (enabled_in k) space no_range m (f w) t) b (λ ts. false) e)
      (among_true (among all n) (is_declared xs (enabled_in k) space.item t) ((among_is all n).1 (every t n is_item)) ((declared_is xs (enabled_in k) space.item t).1 is_item.declared))
      ∙ sym (value_replaced f (λ w. holds xs (enabled_in k) space no_range m w t) (is_declared xs (enabled_in k) space.item t) e)
