-- Faults of sets, by the numbers of entries.
use Rattle.std.proofs.Common.{◌≡◌, ◌⊎◌, ◌↔◌, ℕ, ◌<◌, ◌≤◌, Bool, true, false, ◌||◌, not, List, [], get_or, length, map, refl, sym, ◌∙◌, ap, subst, inl, inr, arith}
use Rattle.std.specs.Prelude.{Contains, MatchOption, Option, Some, None, slice_get}
use Rattle.std.specs.Option.{is_some, option_map_or}
use Rattle.std.proofs.lemmas.Bool.{cases_eq}
use Rattle.std.proofs.lemmas.Cmp.{nat_list_cmp_total}
use Rattle.std.proofs.lemmas.Option.{none-some, same_Some}
use Rattle.cil_base.specs.Lists.{Lists, contains_none, one_list, text_cmp}
use Rattle.cil_base.specs.MadeLists.{contains_map}
use Rattle.cil_base.specs.Places.{get_at, get_contains, in_range}
use Rattle.cil_base.specs.Searches.{or_second}
use Rattle.cil_base.specs.Sorted.{lists_of}
use Rattle.cil_faults.specs.Reported.{fault_at, global_fault}
use Rattle.cil_faults.specs.declared.code.FaultCode.{FaultCode}
use Rattle.cil_faults.specs.declared.code.FaultCode.TheVariants as causes
use Rattle.cil_faults.specs.declared.fault.Fault.{Fault}
use Rattle.cil_known.specs.macros.blocks.Space as blocks
use Rattle.cil_syntax.specs.declared.kind.Keyword.{Keyword}
use Rattle.cil_syntax.specs.declared.kind.Kind.{Kind}
use Rattle.cil_syntax.specs.Forms.{word_and_term}
use Rattle.cil_syntax.specs.Scopes.{ScopedWord}
use Rattle.cil_syntax.specs.Table.{entry_of}
use Rattle.cil_syntax.specs.Terms.{Form, Leaf, Name, Term, Terms, cons, nil}
use Rattle.cil_syntax.proofs.KindLemmas.{same_kind}
use Rattle.cil_faults.specs.declared.spot.Spot.{Spot}
use Rattle.cil_known.specs.macros.Item.{Item, OptSet}
use Rattle.cil_known.specs.macros.Items.{Kept, item_at, items_in, may_say_lists, says_as_written}
use Rattle.cil_known.specs.names.Declarations.{Declaration, Symbol, by, content_of, declarations, declared_by, name_of, nowhere}
use Rattle.cil_known.specs.names.Entries.{AreEntries}
use Rattle.cil_known.specs.Family.{DependsOn, no_range}
use Rattle.cil_known.specs.Known.{IsKnown, enabled_in}
use Rattle.cil_known.specs.Numbers.{IsNameAmong, has_section}
use Rattle.cil_known.specs.names.Symbols.{symbol_of}
use Rattle.cil_known.specs.Spaces.{Sets, SpaceOf, any_sets}
use Rattle.cil_known.specs.names.Entry.{Entry}
use Rattle.cil_known.specs.declared.known.Known.{Known}
use Rattle.cil_known.proofs.names_lemmas.DeclareDecided.{symbol_by}
use Rattle.cil_attrs.specs.declared.giver.SetKind.{SetKind}
use Rattle.cil_attrs.specs.declared.targets.Step.{Step}
use Rattle.cil_attrs.specs.Givers.{AreSets, IsSets}
use Rattle.cil_attrs.specs.Holding.{is_kind}
use Rattle.cil_attrs.specs.SetFaults.{AliasTwice, CircularSet, DeclaresAt, IsItemName, OpenAlias, SetFault, TargetBy, TooMany, alias_cycle, alias_open, alias_twice, limit_of, many, set_cycle, symbol_under}
use Rattle.cil_attrs.specs.Targets.{AreCircular, AreLast, AreSteps, HasNoStep, HasOther, HasStep, IsEntryAt, IsFlagged, IsStep, IsToldAmong, IsToldIn, IsToldOf, SaysTwo}
use Rattle.cil_attrs.proofs.SpaceLemmas.{HasOneEntry, is_in_space}
use Rattle.cil_attrs.proofs.TargetLemmas.{open_flagged, other_two, two_other}
use Rattle.cil_attrs.proofs.ToldLemmas.{told_as}

-- ---- declarations and their entries

module _ (xs : List Item) (s : OptSet) (kind : Kind) (x : Item) (at : Spot) (name : List ℕ) (declares : DeclaresAt xs s kind x at name) where
  abbrev its_declaration : Declaration
  its_declaration = record { kind = kind; space = x.space; name = name; content = content_of declares.rest }

  declared_here : Contains (declared_by x) its_declaration
  declared_here =
      subst (λ ts. Contains (declarations x.space (entry_of x.keyword).declares ts) its_declaration) (sym declares.says)
      (contains_map (λ (q : Kind). record { kind = q; space = x.space; name = name; content = content_of declares.rest }) (entry_of x.keyword).declares kind declares.of_kind)

  pub its_entry : (ss : List blocks.Space) (es : List Entry) → AreEntries ss xs es → (d : ℕ) × IsEntryAt ss es kind d (symbol_under x name)
  its_entry ss es entries =
      let (d, f) = entries.each s its_declaration (by x its_declaration declares.is_item declares.enabled declared_here) in
      (d, record { entry = f.entry; at = f.at; of_kind = f.of_kind; symbol = symbol_by (symbol_of ss f.entry) (symbol_under x name) f.in_space f.of_name })

module _ (ss : List blocks.Space) (es : List Entry) (which : SpaceOf) (one : HasOneEntry ss es which) where
  one_place : (q w : Kind) (c d : ℕ) (a b : Symbol) → is_in_space which q ≡ true → is_in_space which w ≡ true → IsEntryAt ss es q c a → IsEntryAt ss es w d b → a ≡ b → c ≡ d
  one_place q w c d a b in_q in_w e f same =
      one c d e.entry f.entry e.at f.at (ap (is_in_space which) e.of_kind ∙ in_q) (ap (is_in_space which) f.of_kind ∙ in_w) (e.symbol ∙ same ∙ sym f.symbol)

  one_symbol : (q w : Kind) (c d : ℕ) (a b : Symbol) → IsEntryAt ss es q c a → IsEntryAt ss es w d b → c ≡ d → a ≡ b
  one_symbol q w c d a b e f same = sym e.symbol ∙ ap (symbol_of ss) (same_Some e.entry f.entry (sym e.at ∙ ap (slice_get es) same ∙ f.at)) ∙ f.symbol

-- ---- targets

module _ (k : Known) (i : Kept) (entries : AreEntries k.lookup.namespaces.now (items_in i) k.lookup.names.now) (which : SpaceOf) (one : HasOneEntry k.lookup.namespaces.now k.lookup.names.now which)
    (j : Sets) (are_aliases : which.aliases ≡ Some j) (steps : List Step) (are : AreSteps k i which.item j steps) (lasts : List (Option ℕ)) (last : AreLast steps lasts) (len : length lasts ≡ length k.lookup.names.now) where
  abbrev ss : List blocks.Space
  ss = k.lookup.namespaces.now

  abbrev es : List Entry
  es = k.lookup.names.now

  alias_in : is_in_space which j.kind ≡ true
  alias_in =
      or_second (is_kind j.kind which.item) (any_sets which (λ q. is_kind j.kind q.kind))
      (ap (λ o. option_map_or (λ (q : Sets). is_kind j.kind q.kind) o false || option_map_or (λ (q : Sets). is_kind j.kind q.kind) which.attributes false) are_aliases
      ∙ ap (λ b. b || option_map_or (λ (q : Sets). is_kind j.kind q.kind) which.attributes false) (same_kind j.kind j.kind refl))

  item_in : is_in_space which which.item ≡ true
  item_in = ap (λ b. b || any_sets which (λ q. is_kind which.item q.kind)) (same_kind which.item which.item refl)

  target_in : (s : Step) (is : IsStep k i which.item j s) → is_in_space which is.target_kind ≡ true
  target_in s is = elim is.in_space [ inl e ↦ ap (is_in_space which) e ∙ item_in | inr e ↦ ap (is_in_space which) e ∙ alias_in ]

  same_alias : (s t : Step) (is : IsStep k i which.item j s) (it : IsStep k i which.item j t) → s.alias ≡ t.alias → is.alias ≡ it.alias
  same_alias s t is it e = one_symbol ss es which one j.kind j.kind s.alias t.alias is.alias it.alias is.is_alias it.is_alias e

  alias_same : (s t : Step) (is : IsStep k i which.item j s) (it : IsStep k i which.item j t) → is.alias ≡ it.alias → s.alias ≡ t.alias
  alias_same s t is it e = one_place ss es which one j.kind j.kind s.alias t.alias is.alias it.alias alias_in alias_in is.is_alias it.is_alias e

  same_target : (s t : Step) (is : IsStep k i which.item j s) (it : IsStep k i which.item j t) → s.target ≡ t.target → is.target ≡ it.target
  same_target s t is it e = one_symbol ss es which one is.target_kind it.target_kind s.target t.target is.target it.target is.is_target it.is_target e

  target_same : (s t : Step) (is : IsStep k i which.item j s) (it : IsStep k i which.item j t) → is.target ≡ it.target → s.target ≡ t.target
  target_same s t is it e = one_place ss es which one is.target_kind it.target_kind s.target t.target is.target it.target (target_in s is) (target_in t it) is.is_target it.is_target e

  same_sets : (q : Sets) → which.aliases ≡ Some q → q ≡ j
  same_sets q e = same_Some q j (sym e ∙ are_aliases)

  -- ---- aliases without a target

  abbrev open_flags : List Bool
  open_flags = map (λ (o : Option ℕ). not (is_some o)) lasts

  no_step : (d : ℕ) → get_or lasts d None ≡ None → HasNoStep steps d
  no_step d e = subst (λ o. MatchOption o (HasNoStep steps d) (HasStep steps d)) e (last d)

  pub open_there : (f : Fault) → IsToldIn ss es (items_in i) (enabled_in k) j.kind causes.AliasOpen open_flags f → OpenAlias (items_in i) (enabled_in k) which f
  open_there f (x, c, t) = record {
    sets = j;
    are_aliases = are_aliases;
    item = x;
    at = t.at;
    name = t.name;
    declares = t.declares;
    no_target = λ y target by.
        let (s, cs, is, alias_is, target_is, at_is) = are.all y (symbol_under x t.name) target by in
        let same = one_place ss es which one j.kind j.kind s.alias t.place is.alias (symbol_under x t.name) alias_in alias_in is.is_alias t.entry alias_is in
        let none = (open_flagged lasts t.place (subst (λ n. t.place < n) (sym len) (in_range es t.place t.entry.entry t.entry.at))).0 t.flagged in
        no_step t.place none s.target (record { step = s; is_step = cs; from = same; to = refl });
    told = t.told;
  }

  pub open_back : (f : Fault) → OpenAlias (items_in i) (enabled_in k) which f → IsToldIn ss es (items_in i) (enabled_in k) j.kind causes.AliasOpen open_flags f
  open_back f o = by j (sym (same_sets o.sets o.are_aliases)) refl
    where
      by : (q : Sets) → q ≡ o.sets → q ≡ j → IsToldIn ss es (items_in i) (enabled_in k) q.kind causes.AliasOpen open_flags f
      by q same is =
          let declares : DeclaresAt (items_in i) (enabled_in k) q.kind o.item o.at o.name = subst (λ (z : Sets). DeclaresAt (items_in i) (enabled_in k) z.kind o.item o.at o.name) (sym same) o.declares in
          let (d, e) = its_entry (items_in i) (enabled_in k) q.kind o.item o.at o.name declares ss es entries in
          let none : get_or lasts d None ≡ None = ended (get_or lasts d None) d (subst (λ (z : Sets). IsEntryAt ss es z.kind d (symbol_under o.item o.name)) is e) refl (last d) in (
            o.item,
            declares.is_item,
            record {
              at = o.at;
              name = o.name;
              place = d;
              declares = declares;
              entry = e;
              flagged = (open_flagged lasts d (subst (λ n. d < n) (sym len) (in_range es d e.entry e.at))).1 none;
              told = o.told;
            },
          )
        where
          ended : (r : Option ℕ) (d : ℕ) → IsEntryAt ss es j.kind d (symbol_under o.item o.name) → get_or lasts d None ≡ r → MatchOption r (HasNoStep steps d) (HasStep steps d) → get_or lasts d None ≡ None
          ended None d e is_none none = is_none
          ended (Some b) d e is_some h =
              let is = are.each h.step h.is_step in
              let alias_is = one_symbol ss es which one j.kind j.kind h.step.alias d is.alias (symbol_under o.item o.name) is.is_alias e h.from in
              let by_o : TargetBy (items_in i) (enabled_in k) which.item o.sets (item_at i h.step.at) (symbol_under o.item o.name) is.target =
              subst (λ (z : Sets). TargetBy (items_in i) (enabled_in k) which.item z (item_at i h.step.at) (symbol_under o.item o.name) is.target) (sym (same_sets o.sets o.are_aliases))
              (subst (λ z. TargetBy (items_in i) (enabled_in k) which.item j (item_at i h.step.at) z is.target) alias_is is.by) in
              absurd (o.no_target (item_at i h.step.at) is.target by_o)

  -- ---- aliases with two targets

  -- the word that a statement says of an alias
  word_is : (x : Item) (a b : Symbol) (w : ScopedWord) (u : Term ScopedWord) (t : TargetBy (items_in i) (enabled_in k) which.item j x a b) → word_and_term x.args ≡ Some (w, u) → t.alias_word ≡ w
  word_is x a b w u t says = ap (λ p. p.0) (same_Some (t.alias_word, Leaf t.target_word) (w, u) (sym t.says ∙ says))

  pub twice_there : (f : Fault) → IsToldAmong i (HasOther steps lasts) steps f → AliasTwice (items_in i) (enabled_in k) which f
  twice_there f (s, c, t) =
      let two = other_two steps lasts last s.alias t.holds in
      elim (cases_eq two.first s.target) [
        | inl same ↦ by two.has_second.step two.has_second.is_step two.has_second.from (λ e. two.differ (same ∙ e ∙ two.has_second.to))
        | inr apart ↦ by two.has_first.step two.has_first.is_step two.has_first.from (λ e. apart (sym two.has_first.to ∙ sym e))
      ]
    where
      by : (o : Step) → Contains steps o → o.alias ≡ s.alias → (s.target ≡ o.target → ⊥) → AliasTwice (items_in i) (enabled_in k) which f
      by o co same_o apart =
          let is = are.each s c in
          let io = are.each o co in
          record {
            sets = j;
            are_aliases = are_aliases;
            item = item_at i s.at;
            other = item_at i o.at;
            alias = is.alias;
            first = is.target;
            second = io.target;
            says_first = is.by;
            says_second = subst (λ z. TargetBy (items_in i) (enabled_in k) which.item j (item_at i o.at) z io.target) (same_alias o s io is same_o) io.by;
            differ = λ e. apart (target_same s o is io e);
            told = t.told ∙ ap (λ (w : ScopedWord). fault_at causes.AliasTwice w.at (item_at i s.at).space w.bytes) (sym (word_is (item_at i s.at) is.alias is.target t.word t.term is.by t.says));
          }

  pub twice_back : (f : Fault) → AliasTwice (items_in i) (enabled_in k) which f → IsToldAmong i (HasOther steps lasts) steps f
  twice_back f a = by a.sets (same_sets a.sets a.are_aliases) a.item a.other a.says_first a.says_second a.told
    where
      by : (q : Sets) → q ≡ j → (x y : Item) (t : TargetBy (items_in i) (enabled_in k) which.item q x a.alias a.first) → TargetBy (items_in i) (enabled_in k) which.item q y a.alias a.second
          → f ≡ fault_at causes.AliasTwice t.alias_word.at x.space t.alias_word.bytes → IsToldAmong i (HasOther steps lasts) steps f
      by q e x y t u told =
          let (s, c, is, alias_is, target_is, at_is) = are.all x a.alias a.first (subst (λ z. TargetBy (items_in i) (enabled_in k) which.item z x a.alias a.first) e t) in
          let (o, co, io, alias_io, target_io, at_io) = are.all y a.alias a.second (subst (λ z. TargetBy (items_in i) (enabled_in k) which.item z y a.alias a.second) e u) in (
            s,
            c,
            record {
              word = t.alias_word;
              term = Leaf t.target_word;
              says = ap (λ (z : Item). word_and_term z.args) (sym at_is) ∙ t.says;
              holds = two_other steps lasts last s.alias (record {
                first = s.target;
                second = o.target;
                has_first = record { step = s; is_step = c; from = refl; to = refl };
                has_second = record { step = o; is_step = co; from = alias_same o s io is (alias_io ∙ sym alias_is); to = refl };
                differ = λ same. a.differ (sym target_is ∙ same_target s o is io same ∙ target_io);
              });
              told = told ∙ ap (λ (z : Item). fault_at causes.AliasTwice t.alias_word.at z.space t.alias_word.bytes) at_is;
            },
          )

  -- both
  pub targets_told : (old middle new : List Fault)
      → ((f : Fault) → Contains middle f ↔ (Contains old f ⊎ IsToldIn ss es (items_in i) (enabled_in k) j.kind causes.AliasOpen open_flags f))
      → ((f : Fault) → Contains new f ↔ (Contains middle f ⊎ IsToldAmong i (HasOther steps lasts) steps f))
      → (f : Fault) → Contains new f ↔ ((Contains old f ⊎ OpenAlias (items_in i) (enabled_in k) which f) ⊎ AliasTwice (items_in i) (enabled_in k) which f)
  targets_told old middle new of_open of_twice f = (
    λ c. elim ((of_twice f).0 c) [
      | inl d ↦ elim ((of_open f).0 d) [ inl e ↦ inl (inl e) | inr t ↦ inl (inr (open_there f t)) ]
      | inr t ↦ inr (twice_there f t)
    ],
    λ e. (of_twice f).1 (elim e [
      | inl d ↦ inl ((of_open f).1 (elim d [ inl g ↦ inl g | inr o ↦ inr (open_back f o) ]))
      | inr t ↦ inr (twice_back f t)
    ]),
  )

-- ---- sets that depend on themselves

module _ (k : Known) (i : Kept) (entries : AreEntries k.lookup.namespaces.now (items_in i) k.lookup.names.now) (which : SpaceOf) (flags : List Bool) (circular : AreCircular k (items_in i) which flags) (sets : Option Sets)
    (code : FaultCode) (j : Sets) (are_sets : sets ≡ Some j) (of_kind : any_sets which (λ q. is_kind j.kind q.kind) ≡ true) where
  is_circular : (d : ℕ) (a : Symbol) → IsEntryAt k.lookup.namespaces.now k.lookup.names.now j.kind d a → IsFlagged flags d ↔ DependsOn (items_in i) (enabled_in k) which no_range a a
  is_circular d a e =
      subst (λ z. IsFlagged flags d ↔ DependsOn (items_in i) (enabled_in k) which no_range z z) e.symbol
      (circular d e.entry e.at (ap (λ kind. any_sets which (λ q. is_kind kind q.kind)) e.of_kind ∙ of_kind))

  pub circular_there : (f : Fault) → IsToldIn k.lookup.namespaces.now k.lookup.names.now (items_in i) (enabled_in k) j.kind code flags f → CircularSet (items_in i) (enabled_in k) which f sets code
  circular_there f (x, c, t) = record {
    kind = j;
    are_sets = are_sets;
    item = x;
    at = t.at;
    name = t.name;
    declares = t.declares;
    depends = (is_circular t.place (symbol_under x t.name) t.entry).0 t.flagged;
    told = t.told;
  }

  pub circular_back : (f : Fault) → CircularSet (items_in i) (enabled_in k) which f sets code → IsToldIn k.lookup.namespaces.now k.lookup.names.now (items_in i) (enabled_in k) j.kind code flags f
  circular_back f h =
      let same : h.kind ≡ j = same_Some h.kind j (sym h.are_sets ∙ are_sets) in
      let declares : DeclaresAt (items_in i) (enabled_in k) j.kind h.item h.at h.name = subst (λ (z : Sets). DeclaresAt (items_in i) (enabled_in k) z.kind h.item h.at h.name) same h.declares in
      let (d, e) = its_entry (items_in i) (enabled_in k) j.kind h.item h.at h.name declares k.lookup.namespaces.now k.lookup.names.now entries in (
        h.item,
        declares.is_item,
        record {
          at = h.at;
          name = h.name;
          place = d;
          declares = declares;
          entry = e;
          flagged = (is_circular d (symbol_under h.item h.name) e).1 h.depends;
          told = h.told;
        },
      )

-- ---- too many

-- the names of a section are those of its items
pub names_are : (k : Known) (xs : List Item) (sections : Kind → List (List ℕ)) → IsKnown k xs sections → (kind : Kind) → has_section kind ≡ true → Lists text_cmp (IsItemName xs (enabled_in k) kind) (sections kind)
names_are k xs sections known kind section =
    lists_of text_cmp (IsNameAmong k.lookup.namespaces.now k.lookup.names.now (enabled_in k) kind) (IsItemName xs (enabled_in k) kind) (sections kind) there back (known.numbered.lists kind section)
  where
    there : (name : List ℕ) → IsNameAmong k.lookup.namespaces.now k.lookup.names.now (enabled_in k) kind name → IsItemName xs (enabled_in k) kind name
    there name a =
        let (m, l, at) = get_at k.lookup.names.now a.entry a.among in
        let (d, is_d, of_kind, in_space, of_name) = known.entries.only (enabled_in k) m a.entry at a.live in
        (symbol_of k.lookup.namespaces.now a.entry, record { declaration = d; declares = is_d; of_kind = of_kind ∙ a.of_kind; in_space = in_space; of_name = of_name }, a.spelled)

    back : (name : List ℕ) → IsItemName xs (enabled_in k) kind name → IsNameAmong k.lookup.namespaces.now k.lookup.names.now (enabled_in k) kind name
    back name (t, st, spelled) =
        let (d, f) = known.entries.each (enabled_in k) st.declaration st.declares in
        record {
          entry = f.entry;
          among = get_contains k.lookup.names.now d f.entry f.at;
          of_kind = f.of_kind ∙ st.of_kind;
          live = f.live;
          spelled = ap name_of (symbol_by (symbol_of k.lookup.namespaces.now f.entry) t (f.in_space ∙ st.in_space) (f.of_name ∙ st.of_name)) ∙ spelled;
        }

pub no_limit : (xs : List Item) (s : OptSet) (which : SpaceOf) → limit_of which.item ≡ None → (f : Fault) → TooMany xs s which f → ⊥
no_limit xs s which none f t = absurd (none-some (t.limit, t.word) (sym none ∙ t.is_limit))

module _ (xs : List Item) (s : OptSet) (which : SpaceOf) (names : List (List ℕ)) (are : Lists text_cmp (IsItemName xs s which.item) names) (most : ℕ) (word : List ℕ) (limit : limit_of which.item ≡ Some (most, word)) where
  pub not_many : length names ≤ most → (f : Fault) → TooMany xs s which f → ⊥
  not_many few f t =
      let same = one_list text_cmp nat_list_cmp_total (IsItemName xs s which.item) t.names names t.are_names are in
      let bound : t.limit ≡ most = ap (λ p. p.0) (same_Some (t.limit, t.word) (most, word) (sym t.is_limit ∙ limit)) in
      let len = ap length same in
      let big = t.many in
      omega (arith, few, bound, len, big)

  pub are_many : most < length names → (f : Fault) → TooMany xs s which f ↔ (f ≡ global_fault causes.TooMany nowhere word)
  are_many big f = (
    λ t. t.told ∙ ap (global_fault causes.TooMany nowhere) (ap (λ p. p.1) (same_Some (t.limit, t.word) (most, word) (sym t.is_limit ∙ limit))),
    λ told. record { names = names; are_names = are; limit = most; word = word; is_limit = limit; many = big; told = told },
  )

-- ---- kinds of sets that a name space may not have

pub alias_of_space : (which : SpaceOf) (j : Sets) → which.aliases ≡ Some j → any_sets which (λ q. is_kind j.kind q.kind) ≡ true
alias_of_space which j e =
    ap (λ o. option_map_or (λ (q : Sets). is_kind j.kind q.kind) o false || option_map_or (λ (q : Sets). is_kind j.kind q.kind) which.attributes false) e
    ∙ ap (λ b. b || option_map_or (λ (q : Sets). is_kind j.kind q.kind) which.attributes false) (same_kind j.kind j.kind refl)

pub attribute_of_space : (which : SpaceOf) (j : Sets) → which.attributes ≡ Some j → any_sets which (λ q. is_kind j.kind q.kind) ≡ true
attribute_of_space which j e =
    or_second (option_map_or (λ (q : Sets). is_kind j.kind q.kind) which.aliases false) (option_map_or (λ (q : Sets). is_kind j.kind q.kind) which.attributes false)
    (ap (λ o. option_map_or (λ (q : Sets). is_kind j.kind q.kind) o false) e ∙ same_kind j.kind j.kind refl)

pub circular_told : (k : Known) (i : Kept) → AreEntries k.lookup.namespaces.now (items_in i) k.lookup.names.now → (which : SpaceOf) (flags : List Bool) → AreCircular k (items_in i) which flags → (code : FaultCode)
    → (sets : Option SetKind) (o : Option Sets) → AreSets sets o → ((j : Sets) → o ≡ Some j → any_sets which (λ q. is_kind j.kind q.kind) ≡ true) → (old new : List Fault)
    → (sets ≡ None → (f : Fault) → Contains new f ↔ Contains old f)
    → ((a : SetKind) → sets ≡ Some a → (f : Fault) → Contains new f ↔ (Contains old f ⊎ IsToldIn k.lookup.namespaces.now k.lookup.names.now (items_in i) (enabled_in k) a.kind code flags f))
    → (f : Fault) → Contains new f ↔ (Contains old f ⊎ CircularSet (items_in i) (enabled_in k) which f o code)
circular_told k i entries which flags circular code None None are of_kind old new none some f = (
  λ c. inl ((none refl f).0 c),
  λ e. elim e [ inl d ↦ (none refl f).1 d | inr h ↦ absurd (none-some h.kind h.are_sets) ],
)
circular_told k i entries which flags circular code None (Some j) are of_kind old new none some f = absurd are
circular_told k i entries which flags circular code (Some a) None are of_kind old new none some f = absurd are
circular_told k i entries which flags circular code (Some a) (Some j) are of_kind old new none some f =
    told_as old new (IsToldIn k.lookup.namespaces.now k.lookup.names.now (items_in i) (enabled_in k) a.kind code flags) (λ f. CircularSet (items_in i) (enabled_in k) which f (Some j) code)
    (λ f.
    let there = circular_there k i entries which flags circular (Some j) code j refl (of_kind j refl) f in
    let back = circular_back k i entries which flags circular (Some j) code j refl (of_kind j refl) f in (
      λ t. there (subst (λ kind. IsToldIn k.lookup.namespaces.now k.lookup.names.now (items_in i) (enabled_in k) kind code flags f) (sym are.kind) t),
      λ h. subst (λ kind. IsToldIn k.lookup.namespaces.now k.lookup.names.now (items_in i) (enabled_in k) kind code flags f) are.kind (back h),
    ))
    (some a refl) f

-- where there are no aliases nothing is told of them
pub no_targets : (xs : List Item) (s : OptSet) (which : SpaceOf) → AreSets None which.aliases → (old : List Fault) (f : Fault) → Contains old f ↔ ((Contains old f ⊎ OpenAlias xs s which f) ⊎ AliasTwice xs s which f)
no_targets xs s which are old f = (
  λ c. inl (inl c),
  λ e. elim e [
    | inl d ↦ elim d [ inl c ↦ c | inr o ↦ absurd (none which.aliases are o.sets o.are_aliases) ]
    | inr t ↦ absurd (none which.aliases are t.sets t.are_aliases)
  ],
)
  where
    none : (o : Option Sets) → AreSets None o → (j : Sets) → o ≡ Some j → ⊥
    none None is j e = none-some j e
    none (Some q) is j e = is

pub some_targets : (r : SetKind) (o : Option Sets) → AreSets (Some r) o → (j : Sets) × (o ≡ Some j) × IsSets r j
some_targets r None are = absurd are
some_targets r (Some j) are = (j, refl, are)

-- ---- all

module _ (xs : List Item) (s : OptSet) (which : SpaceOf) (first second third fourth : List Fault) (of_many : (f : Fault) → Contains first f ↔ (Contains [] f ⊎ TooMany xs s which f))
    (of_targets : (f : Fault) → Contains second f ↔ ((Contains first f ⊎ OpenAlias xs s which f) ⊎ AliasTwice xs s which f))
    (of_aliases : (f : Fault) → Contains third f ↔ (Contains second f ⊎ CircularSet xs s which f which.aliases causes.AliasCycle))
    (of_attributes : (f : Fault) → Contains fourth f ↔ (Contains third f ⊎ CircularSet xs s which f which.attributes causes.SetCycle)) where
  pub faults_there : (f : Fault) → Contains fourth f → SetFault xs s which f
  faults_there f c = elim ((of_attributes f).0 c) [
    | inl d ↦ elim ((of_aliases f).0 d) [
      | inl e ↦ elim ((of_targets f).0 e) [
        | inl g ↦ elim g [
          | inl h ↦ elim ((of_many f).0 h) [ inl n ↦ absurd (contains_none f n) | inr t ↦ many t ]
          | inr o ↦ alias_open o
        ]
        | inr t ↦ alias_twice t
      ]
      | inr t ↦ alias_cycle t
    ]
    | inr t ↦ set_cycle t
  ]

  pub faults_back : (f : Fault) → SetFault xs s which f → Contains fourth f
  faults_back f (alias_open o) = (of_attributes f).1 (inl ((of_aliases f).1 (inl ((of_targets f).1 (inl (inr o))))))
  faults_back f (alias_twice t) = (of_attributes f).1 (inl ((of_aliases f).1 (inl ((of_targets f).1 (inr t)))))
  faults_back f (alias_cycle t) = (of_attributes f).1 (inl ((of_aliases f).1 (inr t)))
  faults_back f (set_cycle t) = (of_attributes f).1 (inr t)
  faults_back f (many t) = (of_attributes f).1 (inl ((of_aliases f).1 (inl ((of_targets f).1 (inl (inl ((of_many f).1 (inr t))))))))

-- ---- a statement of an alias

-- two terms, the first a word
pub two_said : (ts : Terms ScopedWord) (w : ScopedWord) (t : Term ScopedWord) → word_and_term ts ≡ Some (w, t) → ts ≡ cons (Leaf w) (cons t nil)
two_said nil w t e = absurd (none-some (w, t) e)
two_said (cons (Leaf a) nil) w t e = absurd (none-some (w, t) e)
two_said (cons (Leaf a) (cons b nil)) w t e = let p = same_Some (a, b) (w, t) e in (λ i. cons (Leaf (p i).0) (cons (p i).1 nil))
two_said (cons (Leaf a) (cons b (cons c ts))) w t e = absurd (none-some (w, t) e)
two_said (cons (Name at bytes) ts) w t e = absurd (none-some (w, t) e)
two_said (cons (Form at op parts) ts) w t e = absurd (none-some (w, t) e)

pub told_step : (i : Kept) (P : ℕ → Type 0) (s : Step) (w : ScopedWord) (t : Term ScopedWord) → word_and_term (item_at i s.at).args ≡ Some (w, t) → P s.alias → (f : Fault)
    → IsToldOf i P s f ↔ (f ≡ fault_at causes.AliasTwice w.at (item_at i s.at).space w.bytes)
told_step i P s w t says holds f = (
  λ q. q.told ∙ ap (λ (v : ScopedWord). fault_at causes.AliasTwice v.at (item_at i s.at).space v.bytes) (ap (λ p. p.0) (same_Some (q.word, q.term) (w, t) (sym q.says ∙ says))),
  λ told. record { word = w; term = t; says = says; holds = holds; told = told },
)

pub told_among : (i : Kept) (P Q : ℕ → Type 0) (steps : List Step) → ((d : ℕ) → P d ↔ Q d) → (f : Fault) → IsToldAmong i P steps f ↔ IsToldAmong i Q steps f
told_among i P Q steps same f = (
  λ (s, c, t). (s, c, record { word = t.word; term = t.term; says = t.says; holds = (same s.alias).0 t.holds; told = t.told }),
  λ (s, c, t). (s, c, record { word = t.word; term = t.term; says = t.says; holds = (same s.alias).1 t.holds; told = t.told }),
)

-- the statement of a step says two words, and its alias has an entry
module _ (k : Known) (i : Kept) (item : Kind) (j : Sets) (steps : List Step) (are : AreSteps k i item j steps) (written : (keyword : Keyword) → j.giving keyword ≡ true → (says_as_written keyword ≡ true) × (may_say_lists keyword ≡ false)) where
  pub step_says : (s : Step) → Contains steps s → SaysTwo i s
  step_says s c = let is = are.each s c in (is.by.alias_word, is.by.target_word, is.by.says, (written (item_at i s.at).keyword is.by.giving).0, (written (item_at i s.at).keyword is.by.giving).1, is.within)

pub step_within : (k : Known) (i : Kept) (item : Kind) (j : Sets) (steps : List Step) → AreSteps k i item j steps → (s : Step) → Contains steps s → s.alias < length k.lookup.names.now
step_within k i item j steps are s c = let is = are.each s c in in_range k.lookup.names.now s.alias is.is_alias.entry is.is_alias.at
