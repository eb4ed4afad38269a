-- Which sets of categories name which: by numbers just where the definition says so.
use Rattle.std.specs.Prelude.{Contains, IsPermutation, MatchOption, Option, Some, None, take}
use Rattle.std.specs.Option.{option_map_or}
use Rattle.std.proofs.Common.{◌≡◌, ◌↔◌, ℕ, ◌+◌, ◌<◌, ◌≤◌, Bool, true, false, List, [], ◌∷◌, ◌++◌, get_or, length, map, refl, sym, ◌∙◌, ap, subst, inl, inr}
use Rattle.std.proofs.lemmas.Bool.{true≢false}
use Rattle.std.proofs.lemmas.List.{take_all}
use Rattle.std.proofs.lemmas.List.Sorted.{Contains-permutation, IsPermutation-sym}
use Rattle.std.proofs.lemmas.Option.{none-some, same_Some}
use Rattle.std.proofs.lemmas.Simd.{map-map}
use Rattle.cil_base.specs.Lists.{contains_none}
use Rattle.cil_base.specs.MadeLists.{contains_map, from_map}
use Rattle.cil_base.specs.Places.{in_range}
use Rattle.cil_settle.specs.declared.edge.Edge.{Edge}
use Rattle.cil_settle.specs.Cycles.{AreOnCycles, IsWithin, Leads, Reaches}
use Rattle.cil_settle.specs.Cycles as paths
use Rattle.cil_faults.specs.declared.code.FaultCode.TheVariants as causes
use Rattle.cil_faults.specs.declared.fault.Fault.{Fault}
use Rattle.cil_faults.specs.declared.spot.Spot.{Spot}
use Rattle.cil_syntax.specs.declared.kind.Keyword.{Keyword}
use Rattle.cil_syntax.specs.declared.kind.Keyword.TheVariants as keywords
use Rattle.cil_syntax.specs.declared.kind.Kind.{Kind}
use Rattle.cil_syntax.specs.declared.kind.Kind.TheVariants as kinds
use Rattle.cil_syntax.specs.declared.kind.Sign.TheVariants as signs
use Rattle.cil_syntax.specs.Kinds.{is_wanted}
use Rattle.cil_syntax.specs.Scopes.{ScopedWord}
use Rattle.cil_syntax.specs.Table.{entry_of}
use Rattle.cil_syntax.specs.Terms.{Name, cons}
use Rattle.cil_syntax.proofs.KindLemmas.{one_kind, same_kind}
use Rattle.cil_attrs.specs.macros.blocks.Space.{Space}
use Rattle.cil_attrs.specs.macros.Item.{Item, all_words_in}
use Rattle.cil_attrs.specs.names.Declarations.{Symbol}
use Rattle.cil_attrs.specs.names.Entries.{AreEntries, HasNoEntryIn, IsAnswer, IsEntryIn, IsNamed, is_entry_of}
use Rattle.cil_attrs.specs.names.Laws.{MeansWhatItNames}
use Rattle.cil_attrs.specs.names.Resolves.{Word as AWord, all_wanted_in, found_in, is_mapping}
use Rattle.cil_attrs.specs.names.Entry.{Entry}
use Rattle.cil_attrs.specs.names.Symbols.{symbol_of}
use Rattle.cil_attrs.proofs.names_lemmas.AnswerLemmas.{one_entry}
use Rattle.cil_attrs.proofs.names_lemmas.CandidateLemmas.{they_are}
use Rattle.cil_attrs.proofs.names_lemmas.ReadingLemmas.{plain_said}
use Rattle.cil_attrs.specs.known.DeclaredKnown.{Known}
use Rattle.cil_attrs.specs.known.Known.{IsKnown, enabled_in, meant_in, row_in, value_in}
use Rattle.cil_attrs.specs.known.Spaces.{is_same_symbol, names}
use Rattle.cil_attrs.specs.Holding.{is_kind}
use Rattle.cil_attrs.specs.SetFaults.{DeclaresAt, symbol_under}
use Rattle.cil_attrs.specs.Targets.{IsEntryAt, IsToldIn}
use Rattle.cil_attrs.proofs.FaultLemmas.{its_entry}
use Rattle.cil_attrs.proofs.GiverLemmas.{names_nothing}
use Rattle.cil_attrs.proofs.HoldingLemmas.{both, kind_named, pair, same_symbol}
use Rattle.cil_attrs.proofs.MembersLemmas.{same_self}
use Rattle.cil_mls.specs.CategorySets.{CircularSet, DependsOn, NamesSet, at_once, further}
use Rattle.cil_mls.specs.Pairs.{LeadMore}
use Rattle.cil_mls.specs.SetEdges.{AreCircularSets, DeclaresJust, DeclaresNone, DeclaresSet, IsSetEdge, IsSetEdgeIn, is_set, is_set_at, is_set_kind}
use Rattle.cil_mls.proofs.PairLemmas.{lead_as, no_more, one_edge, taken_more, then_more}

-- ---- the words of one statement

module _ (es : List Entry) (set : ℕ) where
  -- from the set to each set that one of these means
  abbrev pub LeadsTo : List (Option ℕ) → ℕ → ℕ → Type 0
  LeadsTo row a b = (a ≡ set) × Contains row (Some b) × (is_set_at es b ≡ true)

  abbrev pub LeadsBy : Option ℕ → ℕ → ℕ → Type 0
  LeadsBy meaning a b = (a ≡ set) × (meaning ≡ Some b) × (is_set_at es b ≡ true)

  pub no_words : (row : List (Option ℕ)) (edges : List Edge) → LeadMore edges edges (LeadsTo (take 0 row))
  no_words [] edges = no_more edges (LeadsTo []) (λ a b h. contains_none (Some b) h.1)
  no_words (o ∷ row) edges = no_more edges (LeadsTo []) (λ a b h. contains_none (Some b) h.1)

  pub more_words : (row : List (Option ℕ)) (i : ℕ) (o : Option ℕ) → take (i + 1) row ≡ take i row ++ o ∷ [] → (old mid new : List Edge)
      → LeadMore old mid (LeadsTo (take i row)) → LeadMore mid new (LeadsBy o) → LeadMore old new (LeadsTo (take (i + 1) row))
  more_words row i o taken old mid new first second =
      then_more old mid new (LeadsTo (take i row)) (LeadsBy o) (LeadsTo (take (i + 1) row)) first second (λ a b. (
        λ h. elim ((taken_more row i o taken (Some b)).0 h.1) [ inl c ↦ inl (h.0, c, h.2) | inr e ↦ inr (h.0, e, h.2) ],
        λ h. elim h [
          | inl p ↦ (p.0, (taken_more row i o taken (Some b)).1 (inl p.1), p.2)
          | inr q ↦ (q.0, (taken_more row i o taken (Some b)).1 (inr q.1), q.2)
        ],
      ))

  pub all_words : (row : List (Option ℕ)) (i : ℕ) → length row ≤ i → (old new : List Edge) → LeadMore old new (LeadsTo (take i row)) → LeadMore old new (LeadsTo row)
  all_words row i over old new more = subst (λ r. LeadMore old new (LeadsTo r)) (take_all i row over) more

-- one word
module _ (es : List Entry) (set : ℕ) (meaning : Option ℕ) (old : List Edge) where
  pub no_meaning : meaning ≡ None → LeadMore old old (LeadsBy es set meaning)
  no_meaning none = no_more old (LeadsBy es set meaning) (λ a b h. none-some b (sym none ∙ h.1))

  module _ (to : ℕ) (means : meaning ≡ Some to) where
    pub no_set : is_set_at es to ≡ false → LeadMore old old (LeadsBy es set meaning)
    no_set none = no_more old (LeadsBy es set meaning) (λ a b h. true≢false (sym h.2 ∙ ap (is_set_at es) (same_Some b to (sym h.1 ∙ means)) ∙ none))

    pub one_set : is_set_at es to ≡ true → (new : List Edge) → new ≡ old ++ record { from = set; to = to; counted = false } ∷ [] → LeadMore old new (LeadsBy es set meaning)
    one_set is new push =
        lead_as old new (λ a b. (a ≡ set) × (to ≡ b)) (LeadsBy es set meaning) (λ a b. (
          λ h. (h.0, means ∙ ap Some h.1, subst (λ z. is_set_at es z ≡ true) h.1 is),
          λ h. (h.0, same_Some to b (sym means ∙ h.1)),
        )) (one_edge old new (record { from = set; to = to; counted = false }) push)

-- ---- the set that a statement declares

not_mapping : (keyword : Keyword) → Contains (entry_of keyword).declares kinds.CategorySet → is_mapping keyword ≡ false
unfolding entry_of
not_mapping keywords.ClassMapping c = absurd (contains_none kinds.CategorySet c)
not_mapping keyword c = refl

module _ (k : Known) (xs : List Item) (x : Item) where
  abbrev ss : List Space
  ss = k.lookup.namespaces.now

  abbrev es : List Entry
  es = k.lookup.names.now

  -- the name that is declared is one
  same_name : (at bt : Spot) (name other : List ℕ) → DeclaresAt xs (enabled_in k) kinds.CategorySet x at name → DeclaresAt xs (enabled_in k) kinds.CategorySet x bt other → name ≡ other
  same_name at bt name other a b = let e : cons (Name at name) a.rest ≡ cons (Name bt other) b.rest = sym a.says ∙ b.says in cc

  module _ (entries : AreEntries ss xs es) (at : Spot) (name : List ℕ) (declares : DeclaresAt xs (enabled_in k) kinds.CategorySet x at name) where
    fits : (d : ℕ) (e : IsEntryAt ss es kinds.CategorySet d (symbol_under x name)) → is_entry_of ss name signs.CategorySets x.space e.entry ≡ true
    fits d e =
        they_are ss name signs.CategorySets x.space e.entry (ap (λ (z : Symbol). z.space) e.symbol) (ap (λ (z : Symbol). z.name) e.symbol) (ap (is_wanted signs.CategorySets) e.of_kind)

    pub declares_just : (o : Option ℕ) → MatchOption o (HasNoEntryIn ss es name signs.CategorySets x.space) (IsEntryIn ss es name signs.CategorySets x.space)
        → MatchOption o (DeclaresNone k xs x) (DeclaresJust k xs x)
    declares_just None none =
        let (d, e) = its_entry xs (enabled_in k) kinds.CategorySet x at name declares ss es entries in
        absurd (none d e.entry e.at (fits d e))
    declares_just (Some d) there =
        let (c, e) = its_entry xs (enabled_in k) kinds.CategorySet x at name declares ss es entries in
        let same : c ≡ d = there.only c e.entry e.at (fits c e) in
        record {
          declares = record { at = at; name = name; declares = declares; entry = subst (λ z. IsEntryAt ss es kinds.CategorySet z (symbol_under x name)) same e };
          only = λ b h.
              let named = same_name h.at at h.name name h.declares declares in
              let f : IsEntryAt ss es kinds.CategorySet b (symbol_under x name) = subst (λ n. IsEntryAt ss es kinds.CategorySet b (symbol_under x n)) named h.entry in
              there.only b f.entry f.at (fits b f);
        }

  -- ---- its edges

  pub no_edges : DeclaresNone k xs x → (a b : ℕ) → IsSetEdge k xs x a b → ⊥
  no_edges none a b e = none e.declares.at e.declares.name e.declares.declares

  -- the meanings of its words, where it asks for these alone
  pub words_mean : Contains (entry_of x.keyword).declares kinds.CategorySet → all_wanted_in x.args ≡ map AWord (all_words_in x.args) → row_in k x ≡ map (meant_in k) (all_words_in x.args)
  words_mean declares asks =
      ap (map (value_in k)) (plain_said x.keyword x.args (not_mapping x.keyword declares) ∙ asks) ∙ map-map (value_in k) AWord (all_words_in x.args)

  pub its_edges : (d : ℕ) → DeclaresJust k xs x d → all_wanted_in x.args ≡ map AWord (all_words_in x.args) → (row : List (Option ℕ)) → row ≡ row_in k x
      → (a b : ℕ) → LeadsTo es d row a b ↔ IsSetEdge k xs x a b
  its_edges d just asks row is a b =
      let mean : row ≡ map (meant_in k) (all_words_in x.args) = is ∙ words_mean just.declares.declares.of_kind asks in (
        λ h.
            let (w, is_w, means) = from_map (meant_in k) (all_words_in x.args) (Some b) (subst (λ r. Contains r (Some b)) mean h.1) in
            record { declares = subst (DeclaresSet k xs x) (sym h.0) just.declares; word = w; within = is_w; means = means; of_sets = h.2 },
        λ e. (
          just.only a e.declares,
          subst (λ r. Contains r (Some b)) (sym mean) (subst (Contains (map (meant_in k) (all_words_in x.args))) e.means (contains_map (meant_in k) (all_words_in x.args) e.word e.within)),
          e.of_sets,
        ),
      )

-- ---- all statements

module _ (k : Known) (xs : List Item) where
  -- some of these give the edges that there are
  abbrev pub LeadAmong : List Item → List Edge → Type 0
  LeadAmong ys edges = (a b : ℕ) → Leads edges a b ↔ ((x : Item) × Contains ys x × IsSetEdge k xs x a b)

  pub none_among : (ys : List Item) → LeadAmong (take 0 ys) []
  none_among [] a b = ((λ l. absurd (contains_none l.edge l.is_edge)), λ h. absurd (contains_none h.0 h.1))
  none_among (y ∷ ys) a b = ((λ l. absurd (contains_none l.edge l.is_edge)), λ h. absurd (contains_none h.0 h.1))

  pub more_among : (ys : List Item) (i : ℕ) (x : Item) → take (i + 1) ys ≡ take i ys ++ x ∷ [] → (old new : List Edge) → LeadAmong (take i ys) old → LeadMore old new (IsSetEdge k xs x) → LeadAmong (take (i + 1) ys) new
  more_among ys i x taken old new are more a b = (
    λ l. elim ((more a b).0 l) [
      | inl o ↦ let h = (are a b).0 o in (h.0, (taken_more ys i x taken h.0).1 (inl h.1), h.2)
      | inr e ↦ (x, (taken_more ys i x taken x).1 (inr refl), e)
    ],
    λ h. (more a b).1 (elim ((taken_more ys i x taken h.0).0 h.1) [
      | inl c ↦ inl ((are a b).1 (h.0, c, h.2))
      | inr e ↦ inr (subst (λ z. IsSetEdge k xs z a b) (sym e) h.2)
    ]),
  )

  pub all_among : (ys : List Item) (i : ℕ) → length ys ≤ i → (edges : List Edge) → LeadAmong (take i ys) edges → LeadAmong ys edges
  all_among ys i over edges are = subst (λ zs. LeadAmong zs edges) (take_all i ys over) are

-- ---- by symbols

pub is_set_of : (kind : Kind) → is_set_kind kind ≡ true → kind ≡ kinds.CategorySet
is_set_of kinds.CategorySet e = refl
is_set_of kind e = absurd (true≢false (sym e))

module _ (k : Known) (xs : List Item) (sections : Kind → List (List ℕ)) (known : IsKnown k xs sections) (law : MeansWhatItNames) (edges : List Edge)
    (are : (a b : ℕ) → Leads edges a b ↔ IsSetEdgeIn k xs a b) where
  abbrev pub IsSetOf : ℕ → Symbol → Type 0
  IsSetOf d a = IsEntryAt k.lookup.namespaces.now k.lookup.names.now kinds.CategorySet d a

  answers : (w : ScopedWord) → IsAnswer k.lookup.namespaces.now xs k.lookup.names.now (enabled_in k) w (meant_in k w)
  answers w = law k.lookup.namespaces.now xs k.lookup.names.now (enabled_in k) w known.namespaces known.entries

  -- a set has one entry, and an entry one symbol
  fits_as : (d : ℕ) (a : Symbol) (s : IsSetOf d a) → is_entry_of k.lookup.namespaces.now a.name signs.CategorySets a.space s.entry ≡ true
  fits_as d a s =
      they_are k.lookup.namespaces.now a.name signs.CategorySets a.space s.entry (ap (λ (z : Symbol). z.space) s.symbol) (ap (λ (z : Symbol). z.name) s.symbol) (ap (is_wanted signs.CategorySets) s.of_kind)

  pub one_place : (c d : ℕ) (a : Symbol) → IsSetOf c a → IsSetOf d a → c ≡ d
  one_place c d a s t =
      one_entry k.lookup.namespaces.now known.namespaces k.lookup.names.now known.entries.ordered a.name signs.CategorySets a.space c d s.entry t.entry s.at t.at (fits_as c a s) (fits_as d a t)

  pub one_symbol : (d : ℕ) (a b : Symbol) → IsSetOf d a → IsSetOf d b → a ≡ b
  one_symbol d a b s t = sym s.symbol ∙ ap (symbol_of k.lookup.namespaces.now) (same_Some s.entry t.entry (sym s.at ∙ t.at)) ∙ t.symbol

  -- the set that a word means, by its symbol
  pub means_set : (w : ScopedWord) (b : ℕ) → meant_in k w ≡ Some b → is_set_at k.lookup.names.now b ≡ true → (t : Symbol) × IsSetOf b t × (names xs (enabled_in k) kinds.CategorySet w t ≡ true)
  means_set w b means of_sets =
      let named : IsNamed k.lookup.namespaces.now xs k.lookup.names.now (enabled_in k) w b = subst (IsAnswer k.lookup.namespaces.now xs k.lookup.names.now (enabled_in k) w) means (answers w) in
      let kind : named.entry.kind ≡ kinds.CategorySet = is_set_of named.entry.kind (sym (ap (λ o. option_map_or is_set o false) named.at) ∙ of_sets) in
      let t = symbol_of k.lookup.namespaces.now named.entry in (
        t,
        record { entry = named.entry; at = named.at; of_kind = kind; symbol = refl },
        kind_named k xs sections known w b named kinds.CategorySet t ∙ pair (is_kind named.entry.kind kinds.CategorySet) (is_same_symbol t t) (same_kind named.entry.kind kinds.CategorySet kind) (same_self t),
      )

  -- and back
  pub named_set : (w : ScopedWord) (t : Symbol) → names xs (enabled_in k) kinds.CategorySet w t ≡ true → (c : ℕ) × (meant_in k w ≡ Some c) × IsSetOf c t × (is_set_at k.lookup.names.now c ≡ true)
  named_set w t e = by (meant_in k w) refl (answers w)
    where
      by : (o : Option ℕ) → meant_in k w ≡ o → IsAnswer k.lookup.namespaces.now xs k.lookup.names.now (enabled_in k) w (meant_in k w)
          → (c : ℕ) × (meant_in k w ≡ Some c) × IsSetOf c t × (is_set_at k.lookup.names.now c ≡ true)
      by None is answer =
          let none : found_in xs (enabled_in k) w ≡ None = subst (IsAnswer k.lookup.namespaces.now xs k.lookup.names.now (enabled_in k) w) is answer in
          absurd (true≢false (sym e ∙ names_nothing k xs w kinds.CategorySet t none))
      by (Some c) is answer =
          let named : IsNamed k.lookup.namespaces.now xs k.lookup.names.now (enabled_in k) w c = subst (IsAnswer k.lookup.namespaces.now xs k.lookup.names.now (enabled_in k) w) is answer in
          let parts = both (is_kind named.entry.kind kinds.CategorySet) (is_same_symbol (symbol_of k.lookup.namespaces.now named.entry) t) (sym (kind_named k xs sections known w c named kinds.CategorySet t) ∙ e) in
          let kind = one_kind named.entry.kind kinds.CategorySet parts.0 in (
            c,
            is,
            record { entry = named.entry; at = named.at; of_kind = kind; symbol = same_symbol (symbol_of k.lookup.namespaces.now named.entry) t parts.1 },
            ap (λ o. option_map_or is_set o false) named.at ∙ ap is_set_kind kind,
          )

  -- an edge leads from a set to one that it names
  names_by : (a b : ℕ) (t u : Symbol) → IsSetOf a t → IsSetOf b u → Leads edges a b → NamesSet xs (enabled_in k) t u
  names_by a b t u s v l =
      let (x, is_x, e) = (are a b).0 l in
      let (q, at_b, names_q) = means_set e.word b e.means e.of_sets in
      record {
        item = x;
        at = e.declares.at;
        name = e.declares.name;
        declares = e.declares.declares;
        is_a = one_symbol a (symbol_under x e.declares.name) t e.declares.entry s;
        word = e.word;
        within = e.within;
        names_b = subst (λ z. names xs (enabled_in k) kinds.CategorySet e.word z ≡ true) (one_symbol b q u at_b v) names_q;
      }

  -- to a set, whatever it is
  to_set : (a b : ℕ) → Leads edges a b → (u : Symbol) × IsSetOf b u
  to_set a b l = let (x, is_x, e) = (are a b).0 l in let (q, at_b, names_q) = means_set e.word b e.means e.of_sets in (q, at_b)

  leads_by : (t u : Symbol) → NamesSet xs (enabled_in k) t u → (a : ℕ) × (b : ℕ) × IsSetOf a t × IsSetOf b u × Leads edges a b
  leads_by t u n =
      let (d, e) = its_entry xs (enabled_in k) kinds.CategorySet n.item n.at n.name n.declares k.lookup.namespaces.now k.lookup.names.now known.entries in
      let (c, means, at_c, set_c) = named_set n.word u n.names_b in (
        d,
        c,
        subst (IsSetOf d) n.is_a e,
        at_c,
        (are d c).1 (
          n.item,
          n.declares.is_item,
          record { declares = record { at = n.at; name = n.name; declares = n.declares; entry = e }; word = n.word; within = n.within; means = means; of_sets = set_c },
        ),
      )

  -- ---- in steps

  pub depends : (a b : ℕ) (t u : Symbol) → IsSetOf a t → IsSetOf b u → Reaches edges a b → DependsOn xs (enabled_in k) t u
  depends a b t u s v (paths.at_once c d l) = at_once t u (names_by a b t u s v l)
  depends a b t u s v (paths.further c d e l rest) =
      let (q, at_d) = to_set c d l in
      further t q u (names_by c d t q s at_d l) (depends d e q u at_d v rest)

  reaches : (t u : Symbol) → DependsOn xs (enabled_in k) t u → (a : ℕ) × (b : ℕ) × IsSetOf a t × IsSetOf b u × Reaches edges a b
  reaches t u (at_once v w n) = let (a, b, s, q, l) = leads_by v w n in (a, b, s, q, paths.at_once a b l)
  reaches t u (further v w z n rest) =
      let (a, b, s, q, l) = leads_by v w n in
      let (c, d, s2, q2, r) = reaches w z rest in
      (a, d, s, q2, paths.further a b d l (subst (λ p. Reaches edges p d) (one_place c b w s2 q) r))

  -- a set depends on itself just where its entry lies on a cycle
  pub circular_is : (nodes : ℕ) (flags : List Bool) → nodes ≡ length k.lookup.names.now → AreOnCycles edges nodes flags → (d : ℕ) (a : Symbol) → IsSetOf d a
      → (get_or flags d false ≡ true) ↔ DependsOn xs (enabled_in k) a a
  circular_is nodes flags len on d a s =
      let within : d < nodes = subst (λ n. d < n) (sym len) (in_range k.lookup.names.now d s.entry s.at) in (
        λ e. depends d d a a s s ((on.each d within).0 e),
        λ h. (on.each d within).1 (let (b, c, t, u, r) = reaches a a h in subst (λ z. Reaches edges z z) (one_place b d a t s) (subst (Reaches edges b) (one_place c b a u t) r)),
      )

  -- both ends of each edge are entries
  pub edges_are_within : (nodes : ℕ) → nodes ≡ length k.lookup.names.now → (e : Edge) → Contains edges e → IsWithin nodes e
  edges_are_within nodes len e c =
      let (x, is_x, h) = (are e.from e.to).0 (record { edge = e; is_edge = c; from_a = refl; to_b = refl }) in
      let (u, at_b, names_u) = means_set h.word e.to h.means h.of_sets in
      record {
        from_node = subst (λ n. e.from < n) (sym len) (in_range k.lookup.names.now e.from h.declares.entry.entry h.declares.entry.at);
        to_node = subst (λ n. e.to < n) (sym len) (in_range k.lookup.names.now e.to at_b.entry at_b.at);
      }

-- ---- what is told

module _ (k : Known) (xs : List Item) (entries : AreEntries k.lookup.namespaces.now xs k.lookup.names.now) (flags : List Bool) (are : AreCircularSets k xs flags) where
  pub told_there : (f : Fault) → IsToldIn k.lookup.namespaces.now k.lookup.names.now xs (enabled_in k) kinds.CategorySet causes.SetCycle flags f → CircularSet xs (enabled_in k) f
  told_there f (x, is_x, t) = record { item = x; at = t.at; name = t.name; declares = t.declares; depends = (are t.place (symbol_under x t.name) t.entry).0 t.flagged; told = t.told }

  pub told_back : (f : Fault) → CircularSet xs (enabled_in k) f → IsToldIn k.lookup.namespaces.now k.lookup.names.now xs (enabled_in k) kinds.CategorySet causes.SetCycle flags f
  told_back f h =
      let (d, e) = its_entry xs (enabled_in k) kinds.CategorySet h.item h.at h.name h.declares k.lookup.namespaces.now k.lookup.names.now entries in (
        h.item,
        h.declares.is_item,
        record { at = h.at; name = h.name; place = d; declares = h.declares; entry = e; flagged = (are d (symbol_under h.item h.name) e).1 h.depends; told = h.told },
      )

-- the same edges in another order
pub leads_sorted : (es fs : List Edge) → IsPermutation es fs → (P : ℕ → ℕ → Type 0) → ((a b : ℕ) → Leads es a b ↔ P a b) → (a b : ℕ) → Leads fs a b ↔ P a b
leads_sorted es fs same P are a b = (
  λ l. (are a b).0 (record { edge = l.edge; is_edge = Contains-permutation fs es l.edge (IsPermutation-sym es fs same) l.is_edge; from_a = l.from_a; to_b = l.to_b }),
  λ p. let l = (are a b).1 p in record { edge = l.edge; is_edge = Contains-permutation es fs l.edge same l.is_edge; from_a = l.from_a; to_b = l.to_b },
)
