-- What a statement gives, by the meanings of its words.
use Rattle.std.specs.Prelude.{Contains, Option, Some, None, if◌then◌else◌, slice_get}
use Rattle.std.specs.List.{list_all}
use Rattle.std.proofs.Common.{◌≡◌, ℕ, ◌<◌, ◌≤◌, true, false, List, [], ◌∷◌, ◌++◌, drop, get_or, length, map, refl, sym, ◌∙◌, ap, subst, inl, inr, arith}
use Rattle.std.proofs.lemmas.Bool.{true≢false}
use Rattle.std.proofs.lemmas.List.{map-append}
use Rattle.std.proofs.lemmas.Option.{none-some, same_Some}
use Rattle.cil_base.specs.Lists.{Lists, text_cmp}
use Rattle.cil_base.specs.Places.{get_at, get_contains, in_range, some_at}
use Rattle.cil_syntax.specs.Forms.{leaf_of, rule_form, word_and_term}
use Rattle.cil_syntax.specs.Kinds.{is_wanted}
use Rattle.cil_syntax.specs.declared.kind.Keyword.TheVariants as keywords
use Rattle.cil_syntax.specs.declared.kind.Kind.{Kind}
use Rattle.cil_syntax.specs.declared.kind.Kind.TheVariants as kinds
use Rattle.cil_syntax.specs.declared.kind.Sign.TheVariants as signs
use Rattle.cil_syntax.specs.declared.term.Word.{Word}
use Rattle.cil_syntax.specs.Said.{said_of}
use Rattle.cil_syntax.specs.Scopes.{ScopedWord}
use Rattle.cil_syntax.specs.Terms.{Term, Leaf, Terms, nil, cons}
use Rattle.cil_macros.specs.Item.{Item, OptSet, is_enabled, words_in}
use Rattle.cil_macros.specs.ListTerms.{AreAlike, IsAlike, spotless}
use Rattle.cil_macros.proofs.FormLemmas.{across, all_across, leaf_across, no_rule, no_word, rule_across}
use Rattle.cil_names.specs.Declarations.{Symbol}
use Rattle.cil_known.specs.declared.known.Known.{Known}
use Rattle.cil_known.specs.Known.{IsKnown, StandsForNothing, enabled_in, meant_in, row_in, value_in}
use Rattle.cil_known.specs.Members.{StandsFor}
use Rattle.cil_names.specs.Symbols.{symbol_of}
use Rattle.cil_names.specs.PermissionWords.{listed_for, number_among}
use Rattle.cil_names.specs.Resolves.{Permission as APermission, Word as AWord, all_wanted_in, has_permission, wanted_in, is_mapping, words_of_mapping}
use Rattle.cil_names.specs.Unresolved.{listed_at}
use Rattle.cil_classes.specs.declared.givens.Giving.{Giving}
use Rattle.cil_classes.specs.Given.{Holder, mapped, named}
use Rattle.cil_classes.specs.Givings.{Gift, GivesTo, IsGivenBy, IsGivingOf, IsNoMapping}
use Rattle.cil_classes.specs.Nodes.{IsEntryOf}
use Rattle.cil_classes.specs.Parts.{IsEntryFor}
use Rattle.cil_classes.specs.Tied.{IsThere}
use Rattle.cil_classes.proofs.AlikeLemmas.{IsLike, like_back, rule_alike, leaf_alike}
use Rattle.cil_classes.proofs.EntryForLemmas.{its_permissions, list_for}
use Rattle.cil_classes.proofs.FormedLemmas.{no_leaf_across, set_across}
use Rattle.cil_classes.proofs.ValueLemmas.{found_at, found_here}

same_gift : (a b : Gift) → a.holder ≡ b.holder → a.term ≡ b.term → a ≡ b
same_gift a b h t = λ i. record { holder = h i; term = t i }

-- ---- which statements give

module _ (xs : List Item) (s : OptSet) (x : Item) where
  of_set : (h : Holder) (cp : Term ScopedWord) → x.keyword ≡ keywords.ClassPermissionSet → IsGivenBy xs s x h cp
      → (word : ScopedWord) × (n : Symbol) × (h ≡ named n) × (x.args ≡ cons (Leaf word) (cons cp nil)) × StandsFor xs s kinds.ClassPermission word n
  of_set (named n) cp is given = (given.0, n, refl, given.2, given.3)
  of_set (mapped m r) cp is given = absurd (let differ : keywords.ClassPermissionSet ≡ keywords.ClassMapping = sym is ∙ given.2 in cc)

  of_mapping : (h : Holder) (cp : Term ScopedWord) → x.keyword ≡ keywords.ClassMapping → IsGivenBy xs s x h cp
      → (word : ScopedWord) × (permission : ScopedWord) × (m : Symbol) × (h ≡ mapped m permission.bytes) × (x.args ≡ cons (Leaf word) (cons (Leaf permission) (cons cp nil)))
      × StandsFor xs s kinds.ClassMap word m
  of_mapping (named n) cp is given = absurd (let differ : keywords.ClassMapping ≡ keywords.ClassPermissionSet = sym is ∙ given.1 in cc)
  of_mapping (mapped m r) cp is given = (given.0, given.1, m, ap (mapped m) (sym given.5), given.3, given.4)

  -- any other statement gives nothing
  gives_none : (h : Holder) (cp : Term ScopedWord) → (x.keyword ≡ keywords.ClassPermissionSet → ⊥) → (x.keyword ≡ keywords.ClassMapping → ⊥) → IsGivenBy xs s x h cp → ⊥
  gives_none (named n) cp no_set no_mapping given = no_set given.1
  gives_none (mapped m r) cp no_set no_mapping given = no_mapping given.2

  pub other_statement : (x.keyword ≡ keywords.ClassPermissionSet → ⊥) → (x.keyword ≡ keywords.ClassMapping → ⊥) → (g : Gift) → GivesTo xs s x g → ⊥
  other_statement no_set no_mapping g gives = gives_none g.holder g.term no_set no_mapping gives.given

  pub not_enabled : is_enabled s x ≡ false → (g : Gift) → GivesTo xs s x g → ⊥
  not_enabled out g gives = true≢false (sym gives.enabled ∙ out)

module _ (k : Known) (xs : List Item) (names : Kind → List (List ℕ)) (known : IsKnown k xs names) (x : Item) (f : Word → ScopedWord) (args : Terms Word) (says : x.args ≡ all_across f args) where
  entry_itself : (kind : Kind) (w : ScopedWord) (d : ℕ) (for : IsEntryFor k xs kind w d) → IsEntryOf k.lookup.namespaces.now k.lookup.names.now kind d (symbol_of k.lookup.namespaces.now for.entry)
  entry_itself kind w d for = record { entry = for.entry; at = for.at; of_kind = for.of_kind; symbol = refl }

  -- ---- classpermissionset

  module _ (is : x.keyword ≡ keywords.ClassPermissionSet) where
    pub no_set : word_and_term args ≡ None → (g : Gift) → GivesTo xs (enabled_in k) x g → ⊥
    no_set none g gives =
        let (word, n, holder, said, stands) = of_set xs (enabled_in k) x g.holder g.term is gives.given in
        none-some (word, g.term) (sym (no_word f args none) ∙ ap word_and_term (sym says ∙ said))

    module _ (w : Word) (t : Term Word) (said : args ≡ cons (Leaf w) (cons t nil)) where
      set_args : x.args ≡ cons (Leaf (f w)) (cons (across f t) nil)
      set_args = says ∙ ap (all_across f) said ∙ set_across f w t

      set_wanted : all_wanted_in (cons (Leaf (f w)) (cons (across f t) nil)) ≡ AWord (f w) ∷ (wanted_in (across f t) ++ [])
      unfolding all_wanted_in wanted_in
      set_wanted = refl

      set_row : (words : List (Option ℕ)) → words ≡ row_in k x → words ≡ meant_in k (f w) ∷ map (value_in k) (wanted_in (across f t) ++ [])
      set_row words are =
          are
          ∙ ap (map (value_in k)) (ap (λ b. if b then words_of_mapping x.args else all_wanted_in x.args) (ap is_mapping is) ∙ ap all_wanted_in set_args ∙ set_wanted)

      pub set_meant : (words : List (Option ℕ)) → words ≡ row_in k x → get_or words 0 None ≡ meant_in k (f w)
      set_meant words are = ap (λ ws. get_or ws 0 None) (set_row words are)

      its_set : (g : Gift) → GivesTo xs (enabled_in k) x g → (n : Symbol) × (g.holder ≡ named n) × StandsFor xs (enabled_in k) kinds.ClassPermission (f w) n × (g.term ≡ across f t)
      its_set g gives =
          let (word, n, holder, all, stands) = of_set xs (enabled_in k) x g.holder g.term is gives.given in
          let same = same_Some (word, g.term) (f w, across f t) (ap word_and_term (sym all ∙ set_args)) in
          (n, holder, subst (λ u. StandsFor xs (enabled_in k) kinds.ClassPermission u n) (ap (λ p. p.0) same) stands, ap (λ p. p.1) same)

      pub no_permission_named : StandsForNothing xs (enabled_in k) kinds.ClassPermission (f w) → (g : Gift) → GivesTo xs (enabled_in k) x g → ⊥
      no_permission_named nothing g gives = let i = its_set g gives in nothing i.0 i.2

      pub set_given : is_enabled (enabled_in k) x ≡ true → (d : ℕ) → IsEntryFor k xs kinds.ClassPermission (f w) d → (words : List (Option ℕ)) → words ≡ row_in k x → (r : Giving) → r.node.entry ≡ d
          → r.node.number ≡ 0 → said_of r.«module» r.term.now ≡ t → r.words.now ≡ drop 1 words → IsGivingOf k xs f x r
      set_given enabled d for words are r entry number term rest = record {
        gift = its_gift;
        by = record { enabled = enabled; there = tt; given = (f w, is, set_args, for.stands) };
        only = λ g gives. let i = its_set g gives in same_gift g its_gift (i.1 ∙ ap named (for.only_symbol i.0 i.2)) i.3;
        node = (subst (λ j. IsEntryOf k.lookup.namespaces.now k.lookup.names.now kinds.ClassPermission j (symbol_of k.lookup.namespaces.now for.entry)) (sym entry) (entry_itself kinds.ClassPermission (f w) d for), number);
        term = ap (λ u. spotless (across f u)) (sym term);
        begin = record {
          more = [];
          are = rest ∙ ap (drop 1) (set_row words are) ∙ map-append (value_in k) (wanted_in (across f t)) [] ∙ ap (λ u. map (value_in k) (wanted_in (across f u)) ++ []) (sym term);
        };
      }
        where
          its_gift : Gift
          its_gift = record { holder = named (symbol_of k.lookup.namespaces.now for.entry); term = across f t }

  -- ---- classmapping

  module _ (is : x.keyword ≡ keywords.ClassMapping) where
    no_mapping : rule_form args ≡ None → (g : Gift) → GivesTo xs (enabled_in k) x g → ⊥
    no_mapping none g gives =
        let (word, permission, m, holder, said, stands) = of_mapping xs (enabled_in k) x g.holder g.term is gives.given in
        none-some (word, Leaf permission, g.term) (sym (no_rule f args none) ∙ ap rule_form (sym says ∙ said))

    module _ (w : Word) (middle t : Term Word) (said : args ≡ cons (Leaf w) (cons middle (cons t nil))) where
      three_args : x.args ≡ cons (Leaf (f w)) (cons (across f middle) (cons (across f t) nil))
      three_args = says ∙ ap (all_across f) said ∙ rule_across f w middle t

      its_mapping : (g : Gift) → GivesTo xs (enabled_in k) x g
          → (permission : ScopedWord) × (m : Symbol) × (g.holder ≡ mapped m permission.bytes) × StandsFor xs (enabled_in k) kinds.ClassMap (f w) m × (Leaf permission ≡ across f middle)
          × (g.term ≡ across f t)
      its_mapping g gives =
          let (word, permission, m, holder, all, stands) = of_mapping xs (enabled_in k) x g.holder g.term is gives.given in
          let same = same_Some (word, Leaf permission, g.term) (f w, across f middle, across f t) (ap rule_form (sym all ∙ three_args)) in
          (permission, m, holder, subst (λ u. StandsFor xs (enabled_in k) kinds.ClassMap u m) (ap (λ p. p.0) same) stands, ap (λ p. p.1) same, ap (λ p. p.2) same)

      no_permission_word : leaf_of middle ≡ None → (g : Gift) → GivesTo xs (enabled_in k) x g → ⊥
      no_permission_word none g gives = let i = its_mapping g gives in none-some i.0 (sym (no_leaf_across f middle none) ∙ ap leaf_of (sym i.4))

      pub no_map_named : StandsForNothing xs (enabled_in k) kinds.ClassMap (f w) → (g : Gift) → GivesTo xs (enabled_in k) x g → ⊥
      no_map_named nothing g gives = let i = its_mapping g gives in nothing i.1 i.3

      module _ (q : Word) (leaf : middle ≡ Leaf q) where
        mapping_args : x.args ≡ cons (Leaf (f w)) (cons (Leaf (f q)) (cons (across f t) nil))
        mapping_args = three_args ∙ ap (λ u. cons (Leaf (f w)) (cons u (cons (across f t) nil))) (ap (across f) leaf ∙ leaf_across f q)

        mapping_wanted : words_of_mapping (cons (Leaf (f w)) (cons (Leaf (f q)) (cons (across f t) nil))) ≡ AWord (f w) ∷ APermission (f w) (f q) ∷ (wanted_in (across f t) ++ [])
        unfolding all_wanted_in wanted_in words_in
        mapping_wanted = refl

        abbrev numbers : List (List ℕ)
        numbers = listed_for k.lookup.namespaces.now k.lookup.names.now k.permissions.now (f w)

        mapping_row : (words : List (Option ℕ)) → words ≡ row_in k x → words ≡ meant_in k (f w) ∷ number_among numbers (f q).bytes ∷ map (value_in k) (wanted_in (across f t) ++ [])
        mapping_row words are =
            are
            ∙ ap (map (value_in k)) (ap (λ b. if b then words_of_mapping x.args else all_wanted_in x.args) (ap is_mapping is) ∙ ap words_of_mapping mapping_args ∙ mapping_wanted)

        pub map_meant : (words : List (Option ℕ)) → words ≡ row_in k x → get_or words 0 None ≡ meant_in k (f w)
        map_meant words are = ap (λ ws. get_or ws 0 None) (mapping_row words are)

        its_permission : (g : Gift) → GivesTo xs (enabled_in k) x g
            → (m : Symbol) × (g.holder ≡ mapped m (f q).bytes) × StandsFor xs (enabled_in k) kinds.ClassMap (f w) m × (g.term ≡ across f t) × (has_permission xs m (f q).bytes ≡ true)
        its_permission g gives =
            let i = its_mapping g gives in
            let same : i.0 ≡ f q = same_Some i.0 (f q) (ap leaf_of (i.4 ∙ ap (across f) leaf ∙ leaf_across f q)) in
            let holder : g.holder ≡ mapped i.1 (f q).bytes = i.2 ∙ ap (λ (u : ScopedWord). mapped i.1 u.bytes) same in
            (i.1, holder, i.3, i.5, subst (IsThere xs (enabled_in k)) holder gives.there)

        module _ (d : ℕ) (for : IsEntryFor k xs kinds.ClassMap (f w) d) where
          abbrev permissions : List (List ℕ)
          permissions = listed_at k.permissions.now d

          abbrev symbol : Symbol
          symbol = symbol_of k.lookup.namespaces.now for.entry

          is_class : is_wanted signs.Classes for.entry.kind ≡ true
          is_class = ap (is_wanted signs.Classes) for.of_kind

          listed : Lists text_cmp (λ p. has_permission xs symbol p ≡ true) permissions
          listed = its_permissions k xs names known (f w) d for.entry for.means for.at is_class

          -- where the map has some permission, numbers are by its permissions
          by_map : (p : List ℕ) → Contains permissions p → numbers ≡ permissions
          by_map p some = list_for k xs names known (f w) d for.entry for.means for.at is_class p some

          -- what is given goes to a permission of the map
          given_there : (g : Gift) → GivesTo xs (enabled_in k) x g → Contains permissions (f q).bytes
          given_there g gives =
              let i = its_permission g gives in
              (listed.members (f q).bytes).1 (subst (λ m. has_permission xs m (f q).bytes ≡ true) (for.only_symbol i.0 i.2) i.4)

          pub no_number : (words : List (Option ℕ)) → words ≡ row_in k x → None ≡ get_or words 1 None → (g : Gift) → GivesTo xs (enabled_in k) x g → ⊥
          no_number words are none g gives =
              let there = given_there g gives in
              let (n, below, at) = get_at permissions (f q).bytes there in
              let found = found_here (f q).bytes permissions n at in
              none-some found.0 (none ∙ ap (λ ws. get_or ws 1 None) (mapping_row words are) ∙ ap (λ ps. number_among ps (f q).bytes) (by_map (f q).bytes there) ∙ found.1)

          its_number : (words : List (Option ℕ)) → words ≡ row_in k x → (n : ℕ) → Some n ≡ get_or words 1 None → (p : List ℕ) → Contains permissions p → slice_get permissions n ≡ Some (f q).bytes
          its_number words are n some p there =
              found_at (f q).bytes permissions n (ap (λ ps. number_among ps (f q).bytes) (sym (by_map p there)) ∙ sym (some ∙ ap (λ ws. get_or ws 1 None) (mapping_row words are)))

          pub no_such_number : (words : List (Option ℕ)) → words ≡ row_in k x → (n count : ℕ) → Some n ≡ get_or words 1 None → count ≡ length permissions → count ≤ n → (g : Gift) → GivesTo xs (enabled_in k) x g
              → ⊥
          no_such_number words are n count some is_count over g gives =
              let there = given_there g gives in
              let within = in_range permissions n (f q).bytes (its_number words are n some (f q).bytes there) in
              omega (arith, within, is_count, over)

          pub mapping_given : is_enabled (enabled_in k) x ≡ true → (words : List (Option ℕ)) → words ≡ row_in k x → (n count : ℕ) → Some n ≡ get_or words 1 None → count ≡ length permissions → n < count
              → (r : Giving) → r.node.entry ≡ d → r.node.number ≡ n → said_of r.«module» r.term.now ≡ t → r.words.now ≡ drop 1 (drop 1 words) → IsGivingOf k xs f x r
          mapping_given enabled words are n count some is_count below r entry number term rest = record {
            gift = its_gift;
            by = record { enabled = enabled; there = (listed.members (f q).bytes).0 (get_contains permissions n (f q).bytes here); given = (f w, f q, is, mapping_args, for.stands, refl) };
            only = λ g gives.
                let i = its_permission g gives in
                same_gift g its_gift (i.1 ∙ ap (λ m. mapped m (f q).bytes) (for.only_symbol i.0 i.2)) i.3;
            node = (
              subst (λ j. IsEntryOf k.lookup.namespaces.now k.lookup.names.now kinds.ClassMap j symbol) (sym entry) (entry_itself kinds.ClassMap (f w) d for),
              ap (λ j. slice_get (listed_at k.permissions.now j) r.node.number) entry ∙ ap (slice_get permissions) number ∙ here,
            );
            term = ap (λ u. spotless (across f u)) (sym term);
            begin = record {
              more = [];
              are =
                  rest ∙ ap (λ ws. drop 1 (drop 1 ws)) (mapping_row words are) ∙ map-append (value_in k) (wanted_in (across f t)) []
                  ∙ ap (λ u. map (value_in k) (wanted_in (across f u)) ++ []) (sym term);
            };
          }
            where
              its_gift : Gift
              its_gift = record { holder = mapped symbol (f q).bytes; term = across f t }

              here : slice_get permissions n ≡ Some (f q).bytes
              here = let (p, at) = some_at permissions n (omega (arith, below, is_count)) in its_number words are n some p (get_contains permissions n p at)

    pub gives_no_mapping : IsNoMapping args → (g : Gift) → GivesTo xs (enabled_in k) x g → ⊥
    gives_no_mapping other g gives = elim other [ inl none ↦ no_mapping none g gives | inr m ↦ no_permission_word m.0 m.1 m.2 m.3 m.4 g gives ]

-- ---- statements that are the same but for the places of what they say

module _ (xs : List Item) (s : OptSet) where
  -- what the one gives, the other gives
  record GivesLike (y : Item) (g : Gift) : Type 0 where
    pub term : Term ScopedWord
    pub alike : IsAlike g.term term
    pub gives : GivesTo xs s y (record { holder = g.holder; term = term })

  gives_like : (x y : Item) → x.keyword ≡ keywords.ClassMapping → IsLike x y → (g : Gift) → GivesTo xs s x g → GivesLike y g
  gives_like x y is like g gives =
      let (word, permission, m, holder, args, stands) = of_mapping xs s x g.holder g.term is gives.given in
      let (q, cp, three, second, third) = rule_alike word (Leaf permission) g.term y.args (subst (λ ts. AreAlike ts y.args) args like.args) in
      let said : y.args ≡ cons (Leaf word) (cons (Leaf permission) (cons cp nil)) = three ∙ ap (λ u. cons (Leaf word) (cons u (cons cp nil))) (leaf_alike permission q second) in
      record {
        term = cp;
        alike = third;
        gives = record {
          enabled = ap (list_all s) (sym like.round) ∙ gives.enabled;
          there = gives.there;
          given = subst (λ h. IsGivenBy xs s y h cp) (sym holder) (word, permission, sym like.keyword ∙ is, said, stands, refl);
        };
      }

  one_term : (x : Item) → x.keyword ≡ keywords.ClassMapping → (g h : Gift) → GivesTo xs s x g → GivesTo xs s x h → g.term ≡ h.term
  one_term x is g h a b =
      let (word, permission, m, holder, args, stands) = of_mapping xs s x g.holder g.term is a.given in
      let (other, another, n, of, same, also) = of_mapping xs s x h.holder h.term is b.given in
      ap (λ p. p.2) (same_Some (word, Leaf permission, g.term) (other, Leaf another, h.term) (ap rule_form (sym args ∙ same)))

module _ (k : Known) (xs : List Item) (x y : Item) (is : y.keyword ≡ keywords.ClassMapping) (like : IsLike y x) where
  back : IsLike x y
  back = like_back y x like

  x_is : x.keyword ≡ keywords.ClassMapping
  x_is = sym like.keyword ∙ is

  pub none_given : ((g : Gift) → GivesTo xs (enabled_in k) y g → ⊥) → (g : Gift) → GivesTo xs (enabled_in k) x g → ⊥
  none_given none g gives = let l = gives_like xs (enabled_in k) x y x_is back g gives in none _ l.gives

  pub given_like : (f : Word → ScopedWord) (r : Giving) → IsGivingOf k xs f y r → IsGivingOf k xs f x r
  given_like f r of =
      let l = gives_like xs (enabled_in k) y x is like of.gift of.by in
      record {
        gift = record { holder = of.gift.holder; term = l.term };
        by = l.gives;
        only = λ g gives.
            let m = gives_like xs (enabled_in k) x y x_is back g gives in
            same_gift g (record { holder = of.gift.holder; term = l.term }) (ap (λ (h : Gift). h.holder) (of.only _ m.gives)) (one_term xs (enabled_in k) x x_is g (record { holder = of.gift.holder; term = l.term }) gives l.gives);
        node = of.node;
        term = sym l.alike ∙ of.term;
        begin = of.begin;
      }
