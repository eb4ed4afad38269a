-- What statements join.
use Rattle.std.specs.Prelude.{Contains, Option, None}
use Rattle.std.specs.List.Sorted.{IsStrictlySortedBy}
use Rattle.std.specs.Ordering.{nat_cmp}
use Rattle.std.proofs.Common.{◌≡◌, ◌⊎◌, ◌↔◌, ℕ, ◌+◌, ◌++◌, true, false, List, [], ◌∷◌, get_or, map, take, refl, sym, ◌∙◌, ap, subst, inl, inr}
use Rattle.std.proofs.lemmas.Bool.{true≢false}
use Rattle.std.proofs.lemmas.List.Elements.{Contains-append_cases, Contains-append_left, Contains-append_right}
use Rattle.std.proofs.lemmas.Option.{none-some}
use Rattle.cil_base.specs.Lists.{Lists, contains_cases, contains_here, contains_none}
use Rattle.cil_syntax.specs.Forms.{two_words}
use Rattle.cil_syntax.specs.declared.kind.Keyword.{Keyword}
use Rattle.cil_syntax.specs.declared.kind.Kind.{Kind}
use Rattle.cil_syntax.specs.declared.term.Word.{Word}
use Rattle.cil_syntax.specs.Terms.{Leaf, Terms, nil, cons}
use Rattle.cil_macros.specs.Item.{Item, OptSet, all_replaced, is_enabled}
use Rattle.cil_syntax.specs.Scopes.{ScopedWord}
use Rattle.cil_known.specs.declared.known.Known.{Known}
use Rattle.cil_tables.specs.declared.tables.Link.{Link}
use Rattle.cil_tables.specs.Links.{AreJoinedBy, IsLink, JoinsAll, JoinsNothing, LinkBy}
use Rattle.cil_known.specs.Known.{HasNumberFor, enabled_in, meant_in, value_in}
use Rattle.cil_known.specs.Members.{StandsFor}
use Rattle.cil_names.specs.Resolves.{Word as AWord, all_wanted_in, wanted_in}
use Rattle.cil_tables.specs.Table.{link_cmp}
use Rattle.cil_macros.proofs.FormLemmas.{no_pair, pair_across}

-- ---- one statement

two_wanted : (a b : ScopedWord) → all_wanted_in (cons (Leaf a) (cons (Leaf b) nil)) ≡ AWord a ∷ AWord b ∷ []
unfolding all_wanted_in wanted_in
two_wanted a b = refl

module _ (xs : List Item) (k : Known) (keyword : Keyword) (holder_kind held_kind : Kind) (holders helds : List (List ℕ)) (x : Item) where
  abbrev IsCaseOf : Link → Type 0
  IsCaseOf = LinkBy xs (enabled_in k) keyword holder_kind held_kind holders helds x

  pub other_keyword : (x.keyword ≡ keyword → ⊥) → (l : Link) → IsCaseOf l → ⊥
  other_keyword differ l by = differ by.is_keyword

  pub left_out : is_enabled (enabled_in k) x ≡ false → (l : Link) → IsCaseOf l → ⊥
  left_out out l by = true≢false (sym by.enabled ∙ out)

  module _ (f : Word → ScopedWord) (args : Terms Word) (says : x.args ≡ all_replaced (λ at. at) f args) where
    pub other_terms : two_words args ≡ None → (l : Link) → IsCaseOf l → ⊥
    other_terms none l by = none-some (by.holder_word, by.held_word) (sym (no_pair f args none) ∙ ap two_words (sym says ∙ by.says))

    module _ (first second : Word) (said : args ≡ cons (Leaf first) (cons (Leaf second) nil)) where
      is_two : x.args ≡ cons (Leaf (f first)) (cons (Leaf (f second)) nil)
      is_two = says ∙ ap (all_replaced (λ at. at) f) said ∙ pair_across f first second

      module _ (words : List (Option ℕ)) (are : words ≡ map (value_in k) (all_wanted_in x.args)) where
        both_meant : words ≡ meant_in k (f first) ∷ meant_in k (f second) ∷ []
        both_meant =
            are
            ∙ ap (λ ts. map (value_in k) (all_wanted_in ts)) is_two
            ∙ ap (map (value_in k)) (two_wanted (f first) (f second))

        pub first_means : (r : Option ℕ) → r ≡ get_or words 0 None → r ≡ meant_in k (f first)
        first_means r e = e ∙ ap (λ ws. get_or ws 0 None) both_meant

        pub second_means : (r : Option ℕ) → r ≡ get_or words 1 None → r ≡ meant_in k (f second)
        second_means r e = e ∙ ap (λ ws. get_or ws 1 None) both_meant

      first_word : (l : Link) (by : IsCaseOf l) → by.holder_word ≡ f first
      first_word l by = let f : cons (Leaf by.holder_word) (cons (Leaf by.held_word) nil) ≡ cons (Leaf (f first)) (cons (Leaf (f second)) nil) = sym by.says ∙ is_two in cc

      second_word : (l : Link) (by : IsCaseOf l) → by.held_word ≡ f second
      second_word l by = let f : cons (Leaf by.holder_word) (cons (Leaf by.held_word) nil) ≡ cons (Leaf (f first)) (cons (Leaf (f second)) nil) = sym by.says ∙ is_two in cc

      holder_of : (l : Link) (by : IsCaseOf l) → StandsFor xs (enabled_in k) holder_kind (f first) by.holder
      holder_of l by = subst (λ w. StandsFor xs (enabled_in k) holder_kind w by.holder) (first_word l by) by.has_holder

      held_of : (l : Link) (by : IsCaseOf l) → StandsFor xs (enabled_in k) held_kind (f second) by.held
      held_of l by = subst (λ w. StandsFor xs (enabled_in k) held_kind w by.held) (second_word l by) by.has_held

      -- where the words stand for these numbers, the statement joins each with each
      module _ (some others : List ℕ) (holders_are : Lists nat_cmp (HasNumberFor xs (enabled_in k) holder_kind holders (f first)) some)
          (helds_are : Lists nat_cmp (HasNumberFor xs (enabled_in k) held_kind helds (f second)) others) where
        both_there : (l : Link) → IsCaseOf l → Contains some l.holder × Contains others l.held
        both_there l by = (
          (holders_are.members l.holder).1 (record { symbol = by.holder; stands = holder_of l by; numbered = by.holder_number }),
          (helds_are.members l.held).1 (record { symbol = by.held; stands = held_of l by; numbered = by.held_number }),
        )

        pub joins_all : x.keyword ≡ keyword → is_enabled (enabled_in k) x ≡ true → JoinsAll xs (enabled_in k) keyword holder_kind held_kind holders helds x some others
        joins_all is enabled l = (
          both_there l,
          λ c.
              let h = (holders_are.members l.holder).0 c.0 in
              let g = (helds_are.members l.held).0 c.1 in
              record {
                holder_word = f first;
                held_word = f second;
                holder = h.symbol;
                held = g.symbol;
                enabled = enabled;
                is_keyword = is;
                says = is_two;
                has_holder = h.stands;
                has_held = g.stands;
                holder_number = h.numbered;
                held_number = g.numbered;
              },
        )

        pub no_holder : some ≡ [] → JoinsNothing xs (enabled_in k) keyword holder_kind held_kind holders helds x
        no_holder none l by = contains_none l.holder (subst (λ ns. Contains ns l.holder) none (both_there l by).0)

        pub no_held : others ≡ [] → JoinsNothing xs (enabled_in k) keyword holder_kind held_kind holders helds x
        no_held none l by = contains_none l.held (subst (λ ns. Contains ns l.held) none (both_there l by).1)

-- ---- what all statements join

module _ (xs : List Item) (s : OptSet) (keyword : Keyword) (holder_kind held_kind : Kind) (holders helds : List (List ℕ)) where
  pub none_joined : AreJoinedBy xs s keyword holder_kind held_kind holders helds [] []
  none_joined l = (λ c. absurd (contains_none l c), λ h. absurd (contains_none h.0 h.1))

  module _ (all : List Item) (i : ℕ) (x : Item) (taken : take (i + 1) all ≡ take i all ++ x ∷ []) (old : List Link) (so_far : AreJoinedBy xs s keyword holder_kind held_kind holders helds (take i all) old) where
    step : (new : List Link) (more : Link → Type 0) → ((l : Link) → Contains new l ↔ (Contains old l ⊎ more l)) → ((l : Link) → LinkBy xs s keyword holder_kind held_kind holders helds x l ↔ more l)
        → AreJoinedBy xs s keyword holder_kind held_kind holders helds (take (i + 1) all) new
    step new more added one l = (
      λ c. elim ((added l).0 c) [
        | inl d ↦ let h = (so_far l).0 d in (h.0, subst (λ ys. Contains ys h.0) (sym taken) (Contains-append_left (take i all) (x ∷ []) h.0 h.1), h.2)
        | inr m ↦ (x, subst (λ ys. Contains ys x) (sym taken) (Contains-append_right (take i all) (x ∷ []) x (contains_here x [])), (one l).1 m)
      ],
      λ h. (added l).1 (elim (Contains-append_cases (take i all) (x ∷ []) h.0 (subst (λ ys. Contains ys h.0) taken h.1)) [
        | inl d ↦ inl ((so_far l).1 (h.0, d, h.2))
        | inr d ↦ elim (contains_cases h.0 x [] d) [
          | inl e ↦ inr ((one l).0 (subst (λ y. LinkBy xs s keyword holder_kind held_kind holders helds y l) (sym e) h.2))
          | inr n ↦ absurd (contains_none h.0 n)
        ]
      ]),
    )

    -- one statement more, and what it joins
    pub joined_more : (some others : List ℕ) → JoinsAll xs s keyword holder_kind held_kind holders helds x some others → (new : List Link)
        → Lists link_cmp (λ l. Contains old l ⊎ (Contains some l.holder × Contains others l.held)) new → AreJoinedBy xs s keyword holder_kind held_kind holders helds (take (i + 1) all) new
    joined_more some others one new added = step new (λ l. Contains some l.holder × Contains others l.held) added.members one

    pub nothing_more : JoinsNothing xs s keyword holder_kind held_kind holders helds x → AreJoinedBy xs s keyword holder_kind held_kind holders helds (take (i + 1) all) old
    nothing_more none = step old (λ l. ⊥) (λ l. (λ c. inl c, λ h. elim h [ inl c ↦ c | inr n ↦ absurd n ])) (λ l. (none l, λ n. absurd n))

  module _ (raw : List Link) (are : AreJoinedBy xs s keyword holder_kind held_kind holders helds xs raw) where
    abbrev IsOne : Link → Type 0
    IsOne = IsLink xs s keyword holder_kind held_kind holders helds

    is_link : (l : Link) → Contains raw l → IsOne l
    is_link l c =
        let o = (are l).0 c in
        let by = o.2 in
        record {
          holder = by.holder;
          held = by.held;
          joined = record {
            holder_word = by.holder_word;
            held_word = by.held_word;
            statement = record {
              item = o.0;
              is_item = o.1;
              enabled = by.enabled;
              is_keyword = by.is_keyword;
              says = by.says;
            };
            has_holder = by.has_holder;
            has_held = by.has_held;
          };
          holder_number = by.holder_number;
          held_number = by.held_number;
        }

    from_link : (l : Link) → IsOne l → Contains raw l
    from_link l is =
        let j = is.joined in
        (are l).1 (
          j.statement.item,
          j.statement.is_item,
          record {
            holder_word = j.holder_word;
            held_word = j.held_word;
            holder = is.holder;
            held = is.held;
            enabled = j.statement.enabled;
            is_keyword = j.statement.is_keyword;
            says = j.statement.says;
            has_holder = j.has_holder;
            has_held = j.has_held;
            holder_number = is.holder_number;
            held_number = is.held_number;
          },
        )

    pub links_listed : IsStrictlySortedBy link_cmp raw → Lists link_cmp IsOne raw
    links_listed rising = record { rising = rising; members = λ l. (is_link l, from_link l) }
