-- A set depends on itself by numbers just where it does so by the definition.
use Rattle.std.proofs.Common.{◌≡◌, ◌↔◌, ℕ, Bool, true, false, ◌&&◌, if◌then◌else◌, List, [], get_or, map, refl, sym, ◌∙◌, ap, subst, inl, inr}
use Rattle.std.specs.Prelude.{Contains, Option, Some, None, slice_get}
use Rattle.std.proofs.lemmas.Bool.{true≢false}
use Rattle.std.proofs.lemmas.Option.{same_Some}
use Rattle.cil_base.specs.Searches.{or_second}
use Rattle.std.specs.Option.{option_map_or}
use Rattle.cil_base.specs.MadeLists.{contains_map, from_map}
use Rattle.cil_syntax.specs.declared.kind.Kind.{Kind}
use Rattle.cil_syntax.specs.Scopes.{ScopedWord}
use Rattle.cil_known.specs.macros.Item.{replaced, words_in}
use Rattle.cil_known.specs.macros.Items.{Kept, items_in, word_at}
use Rattle.cil_known.specs.names.Entry.{Entry}
use Rattle.cil_known.specs.declared.known.Known.{Known}
use Rattle.cil_known.specs.names.Declarations.{Symbol}
use Rattle.cil_known.specs.names.Entries.{IsAnswer, IsNamed, is_declared_in}
use Rattle.cil_known.specs.Family.{DependsOn, Uses, no_range}
use Rattle.cil_known.specs.Family as family
use Rattle.cil_known.specs.Known.{enabled_in, meant_in}
use Rattle.cil_known.specs.names.Resolves.{found_in}
use Rattle.cil_known.specs.names.Laws.{MeansWhatItNames}
use Rattle.cil_known.specs.names.Symbols.{symbol_of}
use Rattle.cil_known.specs.Spaces.{SpaceOf, any_sets, is_same_symbol, names_set}
use Rattle.cil_attrs.specs.declared.evaluator.Held.{Held}
use Rattle.cil_attrs.specs.declared.evaluator.Held.TheVariants.{Nothing, Set}
use Rattle.cil_attrs.specs.declared.evaluator.Held.TheVariants as holds
use Rattle.cil_attrs.specs.declared.giver.SpaceKinds.{SpaceKinds}
use Rattle.cil_attrs.specs.declared.making.Given.{Given}
use Rattle.cil_attrs.specs.Begun.{is_sets_kind}
use Rattle.cil_attrs.specs.Givers.{AreGifts, IsGift, is_giving_as}
use Rattle.cil_attrs.specs.Holding.{is_kind}
use Rattle.cil_attrs.specs.Made.{said}
use Rattle.cil_attrs.specs.Members.{AreBegun, IsIn, meaning_there}
use Rattle.cil_attrs.specs.Order.{Depends, Names, at_once, further, is_set, is_set_at}
use Rattle.cil_attrs.specs.Plain.{ArePlain}
use Rattle.cil_attrs.proofs.GiverLemmas.{names_no_set}
use Rattle.cil_attrs.proofs.HoldingLemmas.{both, same_symbol, sets_named, sets_of}
use Rattle.cil_attrs.proofs.MembersLemmas.{begun_set, gifts_mean, kinds_of, same_self, words_across}
use Rattle.cil_attrs.proofs.SpaceLemmas.{HasOneEntry, is_in_space}

-- what holds a set at first is of a kind of sets
of_sets : (b c : Bool) (n : ℕ) → is_set (if b then holds.Item n else (if c then Set [] else Nothing)) ≡ true → c ≡ true
of_sets true c n e = absurd (let f : false ≡ true = e in cc)
of_sets false true n e = refl
of_sets false false n e = absurd (let f : false ≡ true = e in cc)

module _ (k : Known) (i : Kept) (r : SpaceKinds) (names : List (List ℕ)) (sections : Kind → List (List ℕ)) (which : SpaceOf) (policy : IsIn k i r names sections which) (apart : is_sets_kind r r.item ≡ false)
    (law : MeansWhatItNames) (first : List Held) (are : AreBegun k i r first) (givens : List Given) (gifts : AreGifts k (items_in i) which i (items_in i) givens) (plain : ArePlain givens)
    (one : HasOneEntry k.lookup.namespaces.now k.lookup.names.now which) where
  abbrev pub symbol_at : ℕ → Symbol
  symbol_at d = option_map_or (symbol_of k.lookup.namespaces.now) (slice_get k.lookup.names.now d) (record { space = []; name = [] })

  its_kind : (d : ℕ) (e : Entry) → slice_get k.lookup.names.now d ≡ Some e → is_set_at first d ≡ true → any_sets which (λ j. is_kind e.kind j.kind) ≡ true
  its_kind d e at t =
      kinds_of r which policy.is_space e.kind
      ∙ of_sets (is_kind e.kind r.item && is_declared_in (enabled_in k) e) (is_sets_kind r e.kind) (get_or k.numbers.now d 0) (sym (ap (λ h. option_map_or is_set h false) (are d e at)) ∙ t)

  symbol_is : (d : ℕ) (e : Entry) → slice_get k.lookup.names.now d ≡ Some e → symbol_at d ≡ symbol_of k.lookup.namespaces.now e
  symbol_is d e at = ap (λ o. option_map_or (symbol_of k.lookup.namespaces.now) o (record { space = []; name = [] })) at

  uses : (a b : ℕ) → Names first givens a b → Uses (items_in i) (enabled_in k) which no_range (symbol_at a) (symbol_at b)
  uses a b n =
      let g = n.given in
      let (x, is_x, gift) = gifts.each g n.is_given in
      let f = word_at i g.at in
      let mean = gifts_mean k i r which policy.is_space apart first are givens gifts plain g n.is_given in
      let (w, is_w, means) = from_map (meaning_there k i g) (words_in (said g)) (Some b) (subst (λ ws. Contains ws (Some b)) mean n.word) in
      let named : IsNamed k.lookup.namespaces.now (items_in i) k.lookup.names.now (enabled_in k) (f w) b =
      subst (IsAnswer k.lookup.namespaces.now (items_in i) k.lookup.names.now (enabled_in k) (f w)) means
      (law k.lookup.namespaces.now (items_in i) k.lookup.names.now (enabled_in k) (f w) policy.known.namespaces policy.known.entries) in
      record {
        item = x;
        word = gift.word;
        expression = replaced (λ at. at) f (said g);
        inner = f w;
        is_item = is_x;
        enabled = gift.enabled;
        says = gift.says;
        giving =
            gift.set.names_it (symbol_at a)
            ∙ subst (λ u. is_same_symbol (symbol_of k.lookup.namespaces.now gift.set.entry) u ≡ true) (sym (ap symbol_at (sym n.set) ∙ symbol_is g.set gift.set.entry gift.set.at)) (same_self (symbol_of k.lookup.namespaces.now gift.set.entry));
        within = subst (λ ws. Contains ws (f w)) (sym (words_across f (said g))) (contains_map f (words_in (said g)) w is_w);
        names_b =
            ap (names_set (items_in i) (enabled_in k) which (f w)) (symbol_is b named.entry named.at)
            ∙ sets_of k (items_in i) sections policy.known (f w) b named which
            ∙ its_kind b named.entry named.at n.is_set;
      }

  pub depends : (a b : ℕ) → Depends first givens a b → DependsOn (items_in i) (enabled_in k) which no_range (symbol_at a) (symbol_at b)
  depends a b (at_once u v n) = family.at_once (symbol_at u) (symbol_at v) (uses u v n)
  depends a b (further u v w n d) = family.further (symbol_at u) (symbol_at v) (symbol_at w) (uses u v n) (depends v w d)

  -- ---- the way back

  -- the entry of this number is that of the set
  pub record IsSetOf (d : ℕ) (a : Symbol) : Type 0 where
    pub entry : Entry
    pub at : slice_get k.lookup.names.now d ≡ Some entry
    pub of_sets : any_sets which (λ j. is_kind entry.kind j.kind) ≡ true
    pub symbol : symbol_of k.lookup.namespaces.now entry ≡ a

  sets_in_space : (kind : Kind) → any_sets which (λ j. is_kind kind j.kind) ≡ true → is_in_space which kind ≡ true
  sets_in_space kind t = or_second (is_kind kind which.item) (any_sets which (λ j. is_kind kind j.kind)) t

  pub one_set : (c d : ℕ) (a : Symbol) → IsSetOf c a → IsSetOf d a → c ≡ d
  one_set c d a s t = one c d s.entry t.entry s.at t.at (sets_in_space s.entry.kind s.of_sets) (sets_in_space t.entry.kind t.of_sets) (s.symbol ∙ sym t.symbol)

  set_at : (d : ℕ) (a : Symbol) → IsSetOf d a → is_set_at first d ≡ true
  set_at d a s =
      ap (λ h. option_map_or is_set h false)
      (are d s.entry s.at ∙ ap Some (begun_set r (enabled_in k) k.numbers.now d s.entry apart (sym (kinds_of r which policy.is_space s.entry.kind) ∙ s.of_sets)))

  -- the entry that a word names, if the word names a set
  named_set : (w : ScopedWord) (b : Symbol) → names_set (items_in i) (enabled_in k) which w b ≡ true → (c : ℕ) × (meant_in k w ≡ Some c) × IsSetOf c b
  named_set w b t = by (meant_in k w) refl (law k.lookup.namespaces.now (items_in i) k.lookup.names.now (enabled_in k) w policy.known.namespaces policy.known.entries)
    where
      by : (o : Option ℕ) → meant_in k w ≡ o → IsAnswer k.lookup.namespaces.now (items_in i) k.lookup.names.now (enabled_in k) w (meant_in k w) → (c : ℕ) × (meant_in k w ≡ Some c) × IsSetOf c b
      by None e answer =
          let none : found_in (items_in i) (enabled_in k) w ≡ None = subst (IsAnswer k.lookup.namespaces.now (items_in i) k.lookup.names.now (enabled_in k) w) e answer in
          absurd (true≢false (sym t ∙ names_no_set k (items_in i) which w none b))
      by (Some c) e answer =
          let named : IsNamed k.lookup.namespaces.now (items_in i) k.lookup.names.now (enabled_in k) w c = subst (IsAnswer k.lookup.namespaces.now (items_in i) k.lookup.names.now (enabled_in k) w) e answer in
          let parts = both (any_sets which (λ j. is_kind named.entry.kind j.kind)) (is_same_symbol (symbol_of k.lookup.namespaces.now named.entry) b) (sym (sets_named k (items_in i) sections policy.known w c named which b) ∙ t) in
          (c, e, record { entry = named.entry; at = named.at; of_sets = parts.0; symbol = same_symbol (symbol_of k.lookup.namespaces.now named.entry) b parts.1 })

  -- what the one set uses has a number that its own names
  pub names_found : (a b : Symbol) → Uses (items_in i) (enabled_in k) which no_range a b → (d : ℕ) × (c : ℕ) × IsSetOf d a × IsSetOf c b × Names first givens d c
  names_found a b u = elim (gifts.all u.item u.is_item) [
    | inl none ↦ absurd (true≢false (sym u.giving ∙ none a u.word u.expression u.enabled u.says))
    | inr q ↦ by q.0 q.1 q.2
  ]
    where
      by : (g : Given) → Contains givens g → IsGift k (items_in i) which u.item (word_at i g.at) g → (d : ℕ) × (c : ℕ) × IsSetOf d a × IsSetOf c b × Names first givens d c
      by g is_g gift =
          let f = word_at i g.at in
          let same = same_Some (gift.word, replaced (λ at. at) f (said g)) (u.word, u.expression) (sym gift.says ∙ u.says) in
          let symbol = same_symbol (symbol_of k.lookup.namespaces.now gift.set.entry) a (sym (gift.set.names_it a) ∙ subst (λ w. is_giving_as k (items_in i) which u.item.keyword w a ≡ true) (sym (ap (λ p. p.0) same)) u.giving) in
          let within : Contains (map f (words_in (said g))) u.inner =
          subst (λ ws. Contains ws u.inner) (ap words_in (sym (ap (λ p. p.1) same)) ∙ words_across f (said g)) u.within in
          let (w, is_w, means_w) = from_map f (words_in (said g)) u.inner within in
          let (c, means, is_set_c) = named_set (f w) b (subst (λ v. names_set (items_in i) (enabled_in k) which v b ≡ true) (sym means_w) u.names_b) in
          let mean = gifts_mean k i r which policy.is_space apart first are givens gifts plain g is_g in (
            g.set,
            c,
            record { entry = gift.set.entry; at = gift.set.at; of_sets = gift.set.of_kind; symbol = symbol },
            is_set_c,
            record {
              given = g;
              is_given = is_g;
              set = refl;
              word = subst (λ ws. Contains ws (Some c)) (sym mean) (subst (Contains (map (meaning_there k i g) (words_in (said g)))) means (contains_map (meaning_there k i g) (words_in (said g)) w is_w));
              is_set = set_at c b is_set_c;
            },
          )

  pub depends_found : (a c : Symbol) → DependsOn (items_in i) (enabled_in k) which no_range a c → (d : ℕ) × (e : ℕ) × IsSetOf d a × IsSetOf e c × Depends first givens d e
  depends_found a c (family.at_once u v n) = let (d, e, s, t, p) = names_found u v n in (d, e, s, t, at_once d e p)
  depends_found a c (family.further u v w n rest) =
      let (d, e, s, t, p) = names_found u v n in
      let (e2, g, s2, t2, q) = depends_found v w rest in
      (d, g, s, t2, further d e g p (subst (λ z. Depends first givens z g) (one_set e2 e v s2 t) q))

  -- the set of an entry depends on itself just where its number does
  pub circular_is : (d : ℕ) (a : Symbol) → IsSetOf d a → Depends first givens d d ↔ DependsOn (items_in i) (enabled_in k) which no_range a a
  circular_is d a s = (
    λ on. subst (λ z. DependsOn (items_in i) (enabled_in k) which no_range z z) (symbol_is d s.entry s.at ∙ s.symbol) (depends d d on),
    λ on.
        let (c, e, t, u, q) = depends_found a a on in
        subst (λ z. Depends first givens z z) (one_set c d a t s) (subst (λ z. Depends first givens c z) (one_set e c a u t) q),
  )
