-- What one statement gives a set.
use Rattle.std.proofs.Common.{Bor, ◌≡◌, ◌⊎◌, ◌↔◌, ℕ, ◌+◌, ◌<◌, ◌≤◌, Bool, true, false, ◌&&◌, ◌||◌, List, [], ◌∷◌, ◌++◌, drop, length, get_or, map, take, refl, sym, ◌∙◌, ap, subst, inl, inr}
use Rattle.std.specs.Prelude.{Contains, MatchOption, Option, Some, None, slice_get}
use Rattle.std.specs.Option.{option_map_or}
use Rattle.std.proofs.lemmas.Bool.{true≢false}
use Rattle.std.proofs.lemmas.List.{append-nil, take_all}
use Rattle.std.proofs.lemmas.List.Elements.{Contains-append_left, Contains-append_right, Contains-append_cases}
use Rattle.cil_base.specs.Lists.{contains_cases, contains_here, contains_none}
use Rattle.std.proofs.lemmas.Option.{none-some, same_Some}
use Rattle.cil_base.specs.Searches.{same_truth}
use Rattle.cil_syntax.specs.declared.kind.Keyword.{Keyword}
use Rattle.cil_syntax.specs.declared.kind.Kind.{Kind}
use Rattle.cil_syntax.specs.declared.term.Term as rust
use Rattle.cil_syntax.specs.declared.term.Word.{Word}
use Rattle.cil_syntax.specs.Said.{all_said, said_of}
use Rattle.cil_syntax.specs.Forms.{word_and_term}
use Rattle.cil_syntax.specs.Kinds.{is_wanted}
use Rattle.cil_syntax.specs.Scopes.{ScopedWord}
use Rattle.cil_syntax.specs.Terms.{Term, Leaf, Terms, nil, cons}
use Rattle.cil_known.specs.macros.Items.{Kept, item_at, items_in, may_say_lists, says_as_written, word_at}
use Rattle.cil_known.specs.macros.Item.{Item, all_replaced, is_enabled, replaced}
use Rattle.cil_known.proofs.macros_lemmas.FormLemmas.{across, all_across, no_word}
use Rattle.cil_known.specs.names.Entry.{Entry}
use Rattle.cil_known.specs.declared.known.Known.{Known}
use Rattle.cil_known.specs.names.Declarations.{Symbol}
use Rattle.cil_known.specs.names.Entries.{IsAnswer, IsNamed, is_declared_in}
use Rattle.cil_known.specs.Family.{Family, gives, in_value, is_giving, no_range}
use Rattle.cil_known.specs.Known.{IsKnown, enabled_in, meant_by, meant_in, value_in, wanted_with}
use Rattle.cil_known.specs.names.Laws.{MeansWhatItNames}
use Rattle.cil_known.specs.names.Symbols.{symbol_of}
use Rattle.cil_known.specs.names.Resolves.{Word as AWord, all_wanted_in, found_in, is_mapping, wanted_in}
use Rattle.cil_known.specs.Spaces.{Sets, SpaceOf, any_sets, is_declared, is_same_symbol, names, names_set, symbol_in}
use Rattle.cil_attrs.specs.declared.giver.SetKind.{SetKind}
use Rattle.cil_attrs.specs.declared.giver.SpaceKinds.{SpaceKinds}
use Rattle.cil_attrs.specs.Givers.{AreGifts, AreSets, AreWritten, GivesNothing, IsGift, IsNamedSet, IsSets, HasKinds, NamesNoSet, SaysItsTerms, is_giving_as, is_written}
use Rattle.cil_attrs.specs.declared.making.Given.{Given}
use Rattle.cil_attrs.specs.Holding.{is_kind}
use Rattle.cil_attrs.proofs.HoldingLemmas.{kind_named}

-- ---- kinds of sets

none_of : (a b : Bool) → (a || b) ≡ false → (a ≡ false) × (b ≡ false)
none_of false b e = (refl, e)
none_of true b e = absurd (let f : true ≡ false = e in cc)

module _ (p q : Sets → Bool) where
  one_without : (o : Option Sets) → option_map_or p o false ≡ false → option_map_or (λ j. p j && q j) o false ≡ false
  one_without None e = refl
  one_without (Some j) e = ap (λ b. b && q j) e

  -- what no kind of sets has, none has with something more
  any_without : (which : SpaceOf) → any_sets which p ≡ false → any_sets which (λ j. p j && q j) ≡ false
  any_without which e =
      let parts = none_of (option_map_or p which.aliases false) (option_map_or p which.attributes false) e in
      ap (λ b. b || option_map_or (λ j. p j && q j) which.attributes false) (one_without which.aliases parts.0) ∙ one_without which.attributes parts.1

and_either : (a b s : Bool) → ((a && s) || (b && s)) ≡ ((a || b) && s)
and_either true b true = refl
and_either true true false = refl
and_either true false false = refl
and_either false b s = refl

and_moved : (a b s : Bool) → (a && (b && s)) ≡ ((a && b) && s)
and_moved true b s = refl
and_moved false b s = refl

-- a test that all kinds share may stand behind
any_shared : (p q : Sets → Bool) (s : Bool) (which : SpaceOf) → any_sets which (λ j. p j && (q j && s)) ≡ (any_sets which (λ j. p j && q j) && s)
any_shared p q s which =
    ap (λ b. b || option_map_or (λ j. p j && (q j && s)) which.attributes false) (one which.aliases)
    ∙ ap (λ b. (option_map_or (λ j. p j && q j) which.aliases false && s) || b) (one which.attributes)
    ∙ and_either (option_map_or (λ j. p j && q j) which.aliases false) (option_map_or (λ j. p j && q j) which.attributes false) s
  where
    one : (o : Option Sets) → option_map_or (λ j. p j && (q j && s)) o false ≡ (option_map_or (λ j. p j && q j) o false && s)
    one None = refl
    one (Some j) = and_moved (p j) (q j) s

any_alike : (p q : Sets → Bool) (which : SpaceOf) → ((j : Sets) → p j ≡ q j) → any_sets which p ≡ any_sets which q
any_alike p q which alike = ap (λ b. b || option_map_or p which.attributes false) (one which.aliases) ∙ ap (λ b. option_map_or q which.aliases false || b) (one which.attributes)
  where
    one : (o : Option Sets) → option_map_or p o false ≡ option_map_or q o false
    one None = refl
    one (Some j) = alike j

second : (a b : Bool) → (a && b) ≡ true → b ≡ true
second true b h = h
second false b h = absurd (let f : false ≡ true = h in cc)

second_any : (p q : Sets → Bool) (which : SpaceOf) → any_sets which (λ j. p j && q j) ≡ true → any_sets which q ≡ true
second_any p q which e = by which.aliases which.attributes e
  where
    one : (o : Option Sets) → option_map_or (λ j. p j && q j) o false ≡ true → option_map_or q o false ≡ true
    one None t = t
    one (Some j) t = second (p j) (q j) t

    either : (a b c d : Bool) → (a ≡ true → c ≡ true) → (b ≡ true → d ≡ true) → (a || b) ≡ true → (c || d) ≡ true
    either true b true d f g h = refl
    either true b false d f g h = absurd (let e : false ≡ true = f refl in cc)
    either false b true d f g h = refl
    either false b false d f g h = g h

    by : (o u : Option Sets) → (option_map_or (λ j. p j && q j) o false || option_map_or (λ j. p j && q j) u false) ≡ true → (option_map_or q o false || option_map_or q u false) ≡ true
    by o u h = either _ _ _ _ (one o) (one u) h

-- ---- the name space

giving_same : (r : SetKind) (j : Sets) (keyword : Keyword) (b : Bool) → IsSets r j → (b ≡ true) ↔ (keyword ≡ r.giving) → b ≡ j.giving keyword
giving_same r j keyword b is h = same_truth b (j.giving keyword) (λ t. (is.giving keyword).1 (h.0 t)) (λ t. h.1 ((is.giving keyword).0 t))

-- what holds of the kind of sets holds of what is said of it
some_kind : (sets : Option SetKind) (r : SetKind) (p : Sets → Bool) (b : Bool) → sets ≡ Some r → ((i : Sets) → IsSets r i → b ≡ p i) → (j : Option Sets) → AreSets sets j → b ≡ option_map_or p j false
some_kind sets r p b e f j are = by j (subst (λ o. AreSets o j) e are)
  where
    by : (j : Option Sets) → AreSets (Some r) j → b ≡ option_map_or p j false
    by None none = absurd none
    by (Some i) is = f i is

pub gives_any_some : (sets : Option SetKind) (r : SetKind) (keyword : Keyword) (b : Bool) → sets ≡ Some r → (b ≡ true) ↔ (keyword ≡ r.giving) → (j : Option Sets) → AreSets sets j
    → b ≡ option_map_or (λ i. i.giving keyword) j false
gives_any_some sets r keyword b e h = some_kind sets r (λ i. i.giving keyword) b e (λ i is. giving_same r i keyword b is h)

pub gives_kind_some : (sets : Option SetKind) (r : SetKind) (keyword : Keyword) (kind : Kind) (b : Bool) → sets ≡ Some r → ((i : Sets) → IsSets r i → b ≡ (i.giving keyword && is_kind kind i.kind))
    → (j : Option Sets) → AreSets sets j → b ≡ option_map_or (λ i. i.giving keyword && is_kind kind i.kind) j false
gives_kind_some sets r keyword kind b e f = some_kind sets r (λ i. i.giving keyword && is_kind kind i.kind) b e f

pub not_giving : (r : SetKind) (j : Sets) (keyword : Keyword) (kind : Kind) (b : Bool) → IsSets r j → (b ≡ true) ↔ (keyword ≡ r.giving) → b ≡ false → false ≡ (j.giving keyword && is_kind kind j.kind)
not_giving r j keyword kind b is h f = ap (λ x. x && is_kind kind j.kind) (sym f ∙ giving_same r j keyword b is h)

pub giving_kind : (r : SetKind) (j : Sets) (keyword : Keyword) (kind : Kind) (b c : Bool) → IsSets r j → (b ≡ true) ↔ (keyword ≡ r.giving) → b ≡ true → c ≡ is_kind kind r.kind
    → c ≡ (j.giving keyword && is_kind kind j.kind)
giving_kind r j keyword kind b c is h t e = e ∙ ap (is_kind kind) (sym is.kind) ∙ ap (λ x. x && is_kind kind j.kind) (sym t ∙ giving_same r j keyword b is h)

-- statements that give sets their members say what is written
pub written_of : (r : SpaceKinds) (which : SpaceOf) → HasKinds r which → AreWritten r → (keyword : Keyword) → any_sets which (λ j. j.giving keyword) ≡ true → SaysItsTerms keyword
written_of r which is written keyword t = by (either_true (option_map_or (λ j. j.giving keyword) which.aliases false) (option_map_or (λ j. j.giving keyword) which.attributes false) t)
  where
    either_true : (a b : Bool) → (a || b) ≡ true → (a ≡ true) ⊎ (b ≡ true)
    either_true true b e = inl refl
    either_true false b e = inr e

    one : (o : Option SetKind) (u : Option Sets) → AreSets o u → is_written o → option_map_or (λ j. j.giving keyword) u false ≡ true → SaysItsTerms keyword
    one None None are w e = absurd (let f : false ≡ true = e in cc)
    one None (Some j) are w e = absurd are
    one (Some i) None are w e = absurd are
    one (Some i) (Some j) are w e =
        let same = (are.giving keyword).0 e in record { written = ap says_as_written same ∙ w.written; named = ap may_say_lists same ∙ w.named; plain = ap is_mapping same ∙ w.plain }

    by : (option_map_or (λ j. j.giving keyword) which.aliases false ≡ true) ⊎ (option_map_or (λ j. j.giving keyword) which.attributes false ≡ true) → SaysItsTerms keyword
    by (inl e) = one r.aliases which.aliases is.aliases written.0 e
    by (inr e) = one r.attributes which.attributes is.attributes written.1 e

-- ---- two terms

not_two : (m : ℕ) (w : Word) (more : List rust.Term) → (length more ≡ 1 → ⊥) → word_and_term (cons (Leaf w) (all_said m more)) ≡ None
not_two m w [] n = refl
not_two m w (x ∷ []) n = absurd (n refl)
not_two m w (x ∷ y ∷ zs) n = refl

pub term_told : (m : ℕ) (terms more : List rust.Term) (w : Word) (r : Option (Bor rust.Term)) → all_said m terms ≡ cons (Leaf w) (all_said m more)
    → MatchOption r (length more ≡ 1 → ⊥) (λ t. all_said m more ≡ cons (said_of m t.now) nil)
    → MatchOption r (word_and_term (all_said m terms) ≡ None) (λ t. (v : Word) × (all_said m terms ≡ cons (Leaf v) (cons (said_of m t.now) nil)))
term_told m terms more w None is n = ap word_and_term is ∙ not_two m w more n
term_told m terms more w (Some t) is e = (w, is ∙ ap (λ us. cons (Leaf w) us) e)

-- ---- the set that a word names

-- a word that is not found names nothing
pub names_nothing : (k : Known) (xs : List Item) (w : ScopedWord) (kind : Kind) (a : Symbol) → found_in xs (enabled_in k) w ≡ None → names xs (enabled_in k) kind w a ≡ false
unfolding names
names_nothing k xs w kind a none =
    ap (λ r. (is_wanted w.sign kind && is_declared xs (enabled_in k) kind a) && option_map_or (λ n. is_same_symbol (symbol_in w n) a) r false) none ∙ and_false (is_wanted w.sign kind && is_declared xs (enabled_in k) kind a)
  where
    and_false : (b : Bool) → (b && false) ≡ false
    and_false true = refl
    and_false false = refl

pub names_no_set : (k : Known) (xs : List Item) (which : SpaceOf) (w : ScopedWord) → found_in xs (enabled_in k) w ≡ None → (a : Symbol) → names_set xs (enabled_in k) which w a ≡ false
names_no_set k xs which w none a =
    any_alike (λ j. names xs (enabled_in k) j.kind w a) (λ j. false) which (λ j. names_nothing k xs w j.kind a none) ∙ never which.aliases which.attributes
  where
    never : (o u : Option Sets) → (option_map_or (λ (j : Sets). false) o false || option_map_or (λ (j : Sets). false) u false) ≡ false
    never None None = refl
    never None (Some u) = refl
    never (Some o) None = refl
    never (Some o) (Some u) = refl

module _ (k : Known) (xs : List Item) (sections : Kind → List (List ℕ)) (known : IsKnown k xs sections) (law : MeansWhatItNames) (which : SpaceOf) (keyword : Keyword) (w : ScopedWord) where
  answer : (r : Option ℕ) → r ≡ meant_in k w → IsAnswer k.lookup.namespaces.now xs k.lookup.names.now (enabled_in k) w r
  answer r means =
      subst (IsAnswer k.lookup.namespaces.now xs k.lookup.names.now (enabled_in k) w) (sym means)
      (law k.lookup.namespaces.now xs k.lookup.names.now (enabled_in k) w known.namespaces known.entries)

  pub no_meaning : None ≡ meant_in k w → NamesNoSet k xs which keyword w
  no_meaning means a =
      any_alike (λ j. j.giving keyword && names xs (enabled_in k) j.kind w a) (λ j. false) which (λ j. ap (λ b. j.giving keyword && b) (names_nothing k xs w j.kind a (answer None means)) ∙ none (j.giving keyword))
      ∙ never which.aliases which.attributes
    where
      none : (b : Bool) → (b && false) ≡ false
      none true = refl
      none false = refl

      never : (o u : Option Sets) → (option_map_or (λ (j : Sets). false) o false || option_map_or (λ (j : Sets). false) u false) ≡ false
      never None None = refl
      never None (Some u) = refl
      never (Some o) None = refl
      never (Some o) (Some u) = refl

  pub no_entry : (d : ℕ) → Some d ≡ meant_in k w → slice_get k.lookup.names.now d ≡ None → NamesNoSet k xs which keyword w
  no_entry d means none = absurd (none-some (answer (Some d) means).entry (sym none ∙ (answer (Some d) means).at))

  module _ (d : ℕ) (e : Entry) (means : Some d ≡ meant_in k w) (at : slice_get k.lookup.names.now d ≡ Some e) where
    named : IsNamed k.lookup.namespaces.now xs k.lookup.names.now (enabled_in k) w d
    named = answer (Some d) means

    it_is : named.entry ≡ e
    it_is = same_Some named.entry e (sym named.at ∙ at)

    giving_is : (a : Symbol) → is_giving_as k xs which keyword w a ≡ (any_sets which (λ j. j.giving keyword && is_kind e.kind j.kind) && is_same_symbol (symbol_of k.lookup.namespaces.now e) a)
    giving_is a =
        any_alike (λ j. j.giving keyword && names xs (enabled_in k) j.kind w a) (λ j. j.giving keyword && (is_kind named.entry.kind j.kind && is_same_symbol (symbol_of k.lookup.namespaces.now named.entry) a)) which
        (λ j. ap (λ b. j.giving keyword && b) (kind_named k xs sections known w d named j.kind a))
        ∙ ap (λ (x : Entry). any_sets which (λ j. j.giving keyword && (is_kind x.kind j.kind && is_same_symbol (symbol_of k.lookup.namespaces.now x) a))) it_is
        ∙ any_shared (λ j. j.giving keyword) (λ j. is_kind e.kind j.kind) (is_same_symbol (symbol_of k.lookup.namespaces.now e) a) which

    pub other_set : any_sets which (λ j. j.giving keyword && is_kind e.kind j.kind) ≡ false → NamesNoSet k xs which keyword w
    other_set f a = giving_is a ∙ ap (λ b. b && is_same_symbol (symbol_of k.lookup.namespaces.now e) a) f

    pub this_set : any_sets which (λ j. j.giving keyword && is_kind e.kind j.kind) ≡ true → IsNamedSet k xs which keyword w d
    this_set t = record {
      entry = e;
      at = at;
      live = subst (λ (x : Entry). is_declared_in (enabled_in k) x ≡ true) it_is named.live;
      of_kind = second_any (λ j. j.giving keyword) (λ j. is_kind e.kind j.kind) which t;
      names_it = λ a. giving_is a ∙ ap (λ b. b && is_same_symbol (symbol_of k.lookup.namespaces.now e) a) t;
    }

-- ---- a statement

module _ (k : Known) (xs : List Item) (which : SpaceOf) (x : Item) where
  -- no family gives a set something by such a statement
  pub gives_none : GivesNothing k xs which x → (m : Family) (a t : Symbol) → gives xs (enabled_in k) which no_range m a t x ≡ false
  gives_none none m a t = by (is_enabled (enabled_in k) x) refl (word_and_term x.args) refl
    where
      by : (b : Bool) → is_enabled (enabled_in k) x ≡ b → (r : Option (ScopedWord × Term ScopedWord)) → word_and_term x.args ≡ r
          → (b && option_map_or (λ p. is_giving xs (enabled_in k) which no_range a x p.0 && in_value xs (enabled_in k) which no_range m p.1 t) r false) ≡ false
      by false on r says = refl
      by true on None says = refl
      by true on (Some p) says = ap (λ b. b && in_value xs (enabled_in k) which no_range m p.1 t) (none a p.0 p.1 on says)

  pub other_keyword : any_sets which (λ j. j.giving x.keyword) ≡ false → GivesNothing k xs which x
  other_keyword f a w e on says = any_without (λ j. j.giving x.keyword) (λ j. names xs (enabled_in k) j.kind w a) which f

  pub left_out : is_enabled (enabled_in k) x ≡ false → GivesNothing k xs which x
  left_out f a w e on says = absurd (true≢false (sym on ∙ f))

  module _ (f : Word → ScopedWord) (args : Terms Word) (says : x.args ≡ all_across f args) where
    pub other_terms : word_and_term args ≡ None → GivesNothing k xs which x
    other_terms none a w e on said = absurd (none-some (w, e) (sym (ap word_and_term says ∙ no_word f args none) ∙ said))

    module _ (w : Word) (e : Term Word) (said : args ≡ cons (Leaf w) (cons e nil)) where
      two_across : all_across f (cons (Leaf w) (cons e nil)) ≡ cons (Leaf (f w)) (cons (across f e) nil)
      unfolding all_replaced replaced
      two_across = refl

      args_are : x.args ≡ cons (Leaf (f w)) (cons (across f e) nil)
      args_are = says ∙ ap (all_across f) said ∙ two_across

      pub it_says : word_and_term x.args ≡ Some (f w, across f e)
      it_says = ap word_and_term args_are

      pub names_none : NamesNoSet k xs which x.keyword (f w) → GivesNothing k xs which x
      names_none none a v u on told =
          subst (λ z. is_giving_as k xs which x.keyword z a ≡ false) (ap (λ p. p.0) (same_Some (f w, across f e) (v, u) (sym it_says ∙ told))) (none a)

      -- the meanings of its words
      module _ (words : List (Option ℕ)) (are : words ≡ map (value_in k) (all_wanted_in x.args)) where
        wanted_are : all_wanted_in (cons (Leaf (f w)) (cons (across f e) nil)) ≡ AWord (f w) ∷ wanted_in (across f e) ++ []
        unfolding all_wanted_in wanted_in
        wanted_are = refl

        all_are : words ≡ meant_in k (f w) ∷ meant_by k f e
        all_are = are ∙ ap (λ ts. map (value_in k) (all_wanted_in ts)) args_are ∙ ap (map (value_in k)) wanted_are ∙ ap (λ l. meant_in k (f w) ∷ map (value_in k) l) (append-nil (wanted_with f e))

        pub first_means : (r : Option ℕ) → r ≡ get_or words 0 None → r ≡ meant_in k (f w)
        first_means r first = first ∙ ap (λ ws. get_or ws 0 None) all_are

        pub rest_means : (rest : List (Option ℕ)) → rest ≡ drop 1 words → rest ≡ meant_by k f e
        rest_means rest behind = behind ∙ ap (drop 1) all_are

-- ---- all statements

module _ (k : Known) (xs : List Item) (which : SpaceOf) (i : Kept) where
  pub no_gifts : AreGifts k xs which i [] []
  no_gifts = record { there = λ g c. absurd (contains_none g c); each = λ g c. absurd (contains_none g c); all = λ x c. absurd (contains_none x c) }

  module _ (all : List Item) (at : ℕ) (x : Item) (taken : take (at + 1) all ≡ take at all ++ x ∷ []) (old : List Given) (so_far : AreGifts k xs which i (take at all) old) where
    in_front : (z : Item) → Contains (take at all) z → Contains (take (at + 1) all) z
    in_front z c = subst (λ zs. Contains zs z) (sym taken) (Contains-append_left (take at all) (x ∷ []) z c)

    last_one : Contains (take (at + 1) all) x
    last_one = subst (λ zs. Contains zs x) (sym taken) (Contains-append_right (take at all) (x ∷ []) x (contains_here x []))

    which_one : (z : Item) → Contains (take (at + 1) all) z → Contains (take at all) z ⊎ (x ≡ z)
    which_one z c = elim (Contains-append_cases (take at all) (x ∷ []) z (subst (λ zs. Contains zs z) taken c)) [
      | inl d ↦ inl d
      | inr d ↦ elim (contains_cases z x [] d) [ inl e ↦ inr e | inr n ↦ absurd (contains_none z n) ]
    ]

    pub none_more : GivesNothing k xs which x → AreGifts k xs which i (take (at + 1) all) old
    none_more none = record {
      there = so_far.there;
      each = λ g c. let r = so_far.each g c in (r.0, in_front r.0 r.1, r.2);
      all = λ z c. elim (which_one z c) [ inl d ↦ so_far.all z d | inr e ↦ inl (subst (GivesNothing k xs which) e none) ];
    }

    pub gift_more : (g : Given) (new : List Given) → g.at ≡ at → IsGift k xs which x (word_at i at) g → at < length (items_in i) → x ≡ item_at i at → new ≡ old ++ g ∷ [] → AreGifts k xs which i (take (at + 1) all) new
    gift_more g new here gift within is_at push = record {
      there = λ y c. elim (Contains-append_cases old (g ∷ []) y (subst (λ ys. Contains ys y) push c)) [
        | inl d ↦ so_far.there y d
        | inr d ↦ elim (contains_cases y g [] d) [
          | inl e ↦ subst (λ u. (u.at < length (items_in i)) × IsGift k xs which (item_at i u.at) (word_at i u.at) u) e
              (subst (λ n. (n < length (items_in i)) × IsGift k xs which (item_at i n) (word_at i n) g) (sym here) (within, subst (λ y. IsGift k xs which y (word_at i at) g) is_at gift))
          | inr n ↦ absurd (contains_none y n)
        ]
      ];
      each = λ y c. elim (Contains-append_cases old (g ∷ []) y (subst (λ ys. Contains ys y) push c)) [
        | inl d ↦ let r = so_far.each y d in (r.0, in_front r.0 r.1, r.2)
        | inr d ↦ elim (contains_cases y g [] d) [ inl e ↦ subst (λ u. (z : Item) × Contains (take (at + 1) all) z × IsGift k xs which z (word_at i u.at) u) e (x, last_one, its) | inr n ↦ absurd (contains_none y n) ]
      ];
      all = λ z c. elim (which_one z c) [
        | inl d ↦ elim (so_far.all z d) [ inl none ↦ inl none | inr r ↦ inr (r.0, kept r.0 r.1, r.2, r.3) ]
        | inr e ↦ subst (λ u. GivesNothing k xs which u ⊎ ((y : Given) × Contains new y × IsGift k xs which u (word_at i y.at) y × (u ≡ item_at i y.at))) e (inr (g, added, its, is_at ∙ ap (item_at i) (sym here)))
      ];
    }
      where
        its : IsGift k xs which x (word_at i g.at) g
        its = subst (λ n. IsGift k xs which x (word_at i n) g) (sym here) gift

        kept : (y : Given) → Contains old y → Contains new y
        kept y c = subst (λ ys. Contains ys y) (sym push) (Contains-append_left old (g ∷ []) y c)

        added : Contains new g
        added = subst (λ ys. Contains ys g) (sym push) (Contains-append_right old (g ∷ []) g (contains_here g []))

  pub all_gifts : (all : List Item) (at : ℕ) (givens : List Given) → AreGifts k xs which i (take at all) givens → length all ≤ at → AreGifts k xs which i all givens
  all_gifts all at givens gifts over = subst (λ zs. AreGifts k xs which i zs givens) (take_all at all over) gifts
