-- What names hold solves the equations.
use Rattle.std.proofs.Common.{◌≡◌, ◌↔◌, ◌⊎◌, ℕ, ◌<◌, ◌≤◌, Bool, true, false, ◌&&◌, ◌||◌, ◌==◌, ltb, List, get_or, length, refl, sym, ◌∙◌, ap, subst, inl, inr, arith}
use Rattle.std.specs.Prelude.{All, Contains, Option, None, Some}
use Rattle.std.specs.List.{list_any}
use Rattle.std.specs.Option.{option_map_or}
use Rattle.std.proofs.lemmas.Bool.{cases_Bool, true≢false}
use Rattle.std.proofs.lemmas.Bool.Decides.{nat_tests}
use Rattle.std.proofs.lemmas.Option.{same_Some}
use Rattle.cil_base.specs.Places.{get_at, in_range}
use Rattle.cil_base.specs.Searches.{any_from, any_true}
use Rattle.cil_settle.specs.declared.edge.Edge.{Edge}
use Rattle.cil_settle.specs.Cycles.{Fall, Leads}
use Rattle.cil_faults.specs.declared.spot.Spot.{Spot}
use Rattle.cil_syntax.specs.declared.kind.Kind.{Kind}
use Rattle.cil_syntax.specs.declared.kind.Kind.TheVariants as kinds
use Rattle.cil_syntax.specs.Expressions.{Complement, EachOf, Everything, OddOf, RangeOf, SomeOf, Way, by_way, differ, is_in, is_in_each, is_in_odd, is_in_some, way_of}
use Rattle.cil_syntax.specs.Scopes.{ScopedWord}
use Rattle.cil_syntax.specs.Terms.{Term, Leaf, Name, Form, Terms, nil, cons}
use Rattle.cil_macros.specs.Item.{Item}
use Rattle.cil_macros.specs.Items.{Kept, item_at, items_in}
use Rattle.cil_macros.proofs.ItemLemmas.{item_there}
use Rattle.cil_names.specs.Declarations.{Symbol}
use Rattle.cil_names.specs.Entries.{place_where}
use Rattle.cil_names.specs.Laws.{MeansWhatItNames}
use Rattle.cil_names.specs.Symbols.{symbol_of}
use Rattle.cil_names.specs.declared.entry.Entry.{Entry}
use Rattle.cil_names.proofs.AnswerLemmas.{none_where}
use Rattle.cil_names.proofs.CandidateLemmas.{place_is}
use Rattle.cil_known.specs.declared.known.Known.{Known}
use Rattle.cil_known.specs.Known.{IsKnown, enabled_in, meant_in}
use Rattle.cil_known.specs.Spaces.{is_same_symbol}
use Rattle.cil_mls.specs.attrs.SetFaults.{symbol_under}
use Rattle.cil_mls.specs.attrs.Targets.{IsEntryAt}
use Rattle.cil_mls.proofs.attrs_lemmas.FaultLemmas.{its_entry}
use Rattle.cil_mls.proofs.attrs_lemmas.HoldingLemmas.{both, pair, same_symbol}
use Rattle.cil_mls.proofs.attrs_lemmas.MembersLemmas.{same_self}
use Rattle.cil_mls.specs.declared.categories.Categories.{Categories}
use Rattle.cil_mls.specs.declared.expression.Held.{Held}
use Rattle.cil_mls.specs.declared.expression.Held.TheVariants.{Nothing, Category, Set}
use Rattle.cil_mls.specs.Bits.{is_between}
use Rattle.cil_mls.specs.SetEdges.{DeclaresSet, IsSetEdgeIn, is_set, is_set_at, is_set_kind}
use Rattle.cil_mls.specs.Values.{IsFew, held_between, in_span, in_term, is_held, meant_held}
use Rattle.cil_mls.proofs.SetEdgeLemmas.{is_set_of, means_set, named_set, one_place, one_symbol}
use Rattle.cil_levels.specs.declared.definitions.Definition.{Definition}
use Rattle.cil_levels.specs.Begun.{AreBegun, IsBegun}
use Rattle.cil_levels.specs.Held.{AreHeld, HoldCategories, HoldValues}
use Rattle.cil_levels.specs.Made.{AreDefined, AreMade, IsKept, held_at, in_second, is_made_by, says_of}
use Rattle.cil_levels.specs.Places.{IsBetween, IsCategoryAt, IsInSpan}
use Rattle.cil_levels.specs.Values.{IsGiven, IsRanked, NamesSetWith, Values, in_value}
use Rattle.cil_levels.proofs.MakingLemmas.{set_within as first_within}
use Rattle.cil_levels.proofs.TermLemmas.{same_in}

-- ---- numbers

less_tells : (a b : ℕ) → a < b → ltb a b ≡ true
less_tells a b l = grind (arith, nat_tests)

tells_less : (a b : ℕ) → ltb a b ≡ true → a < b
tells_less a b e = grind (arith, nat_tests)

not_less : (a b : ℕ) → b ≤ a → ltb a b ≡ false
not_less a b l = grind (arith, nat_tests)

same_number : (a b : ℕ) → (a == b) ≡ true → a ≡ b
same_number a b e = grind (arith, nat_tests)

number_same : (a b : ℕ) → a ≡ b → (a == b) ≡ true
number_same a b e = grind (arith, nat_tests)

between_is : (low high c : ℕ) → is_between low high c ≡ true → (low ≤ c) × (c ≤ high)
between_is low high c e = (grind (arith, nat_tests), grind (arith, nat_tests))

is_in_between : (low high c : ℕ) → low ≤ c → c ≤ high → is_between low high c ≡ true
is_in_between low high c a b = grind (arith, nat_tests)

-- ---- what is in nothing is in no expression

module _ {L : Type 0} (p : L → Bool) (r : Terms L → Bool) (none : (w : L) → p w ≡ false) (ranges : (ts : Terms L) → r ts ≡ false) where
  no_way : (way : Way) (some each odd range : Bool) → some ≡ false → each ≡ false → odd ≡ false → range ≡ false → by_way way false some each odd range ≡ false
  no_way Everything some each odd range f g h e = refl
  no_way Complement some each odd range f g h e = refl
  no_way SomeOf some each odd range f g h e = f
  no_way EachOf some each odd range f g h e = g
  no_way OddOf some each odd range f g h e = h
  no_way RangeOf some each odd range f g h e = e

  mutual
    unfolding is_in is_in_some is_in_each is_in_odd

    pub in_none : (e : Term L) → is_in p false r e ≡ false
    in_none (Leaf w) = none w
    in_none (Name at x) = refl
    in_none (Form at op ts) = no_way (way_of op) (is_in_some p false r ts) (is_in_each p false r ts) (is_in_odd p false r ts) (r ts) (none_some ts) (none_each ts) (none_odd ts) (ranges ts)

    none_some : (ts : Terms L) → is_in_some p false r ts ≡ false
    none_some nil = refl
    none_some (cons a ts) = ap (λ b. b || is_in_some p false r ts) (in_none a) ∙ none_some ts

    none_each : (ts : Terms L) → is_in_each p false r ts ≡ false
    none_each nil = refl
    none_each (cons a ts) = ap (λ b. b && is_in_each p false r ts) (in_none a)

    none_odd : (ts : Terms L) → is_in_odd p false r ts ≡ false
    none_odd nil = refl
    none_odd (cons a ts) = ap (λ b. differ b (is_in_odd p false r ts)) (in_none a) ∙ none_odd ts

-- ---- ranges

module _ (k : Known) (xs : List Item) (row : List Symbol) (helds : List Held) (hold : HoldCategories k xs row helds) where
  between_two : (v w : ScopedWord) (c : ℕ) (a b : Held) → meant_held helds (meant_in k v) ≡ a → meant_held helds (meant_in k w) ≡ b → held_between a b c ≡ true → IsBetween xs (enabled_in k) row v w c
  between_two v w c Nothing b e f h = absurd (true≢false (sym h))
  between_two v w c (Set set) b e f h = absurd (true≢false (sym h))
  between_two v w c (Category low) Nothing e f h = absurd (true≢false (sym h))
  between_two v w c (Category low) (Set set) e f h = absurd (true≢false (sym h))
  between_two v w c (Category low) (Category high) e f h =
      let l = between_is low high c h in
      record { low = low; high = high; from = (hold v low).1 e; to = (hold w high).1 f; above = l.0; below = l.1 }

  two_between : (v w : ScopedWord) (c : ℕ) → IsBetween xs (enabled_in k) row v w c → held_between (meant_held helds (meant_in k v)) (meant_held helds (meant_in k w)) c ≡ true
  two_between v w c b =
      ap (λ h. held_between h (meant_held helds (meant_in k w)) c) ((hold v b.low).0 b.from)
      ∙ ap (λ h. held_between (Category b.low) h c) ((hold w b.high).0 b.to)
      ∙ is_in_between b.low b.high c b.above b.below

  pub span_is : (ts : Terms ScopedWord) (c : ℕ) → (in_span helds (meant_in k) c ts ≡ true) ↔ IsInSpan xs (enabled_in k) row ts c
  span_is nil c = (λ e. true≢false (sym e), λ h. absurd h)
  span_is (cons a nil) c = (λ e. true≢false (sym e), λ h. absurd h)
  span_is (cons (Name at x) (cons b rest)) c = (λ e. true≢false (sym e), λ h. absurd h)
  span_is (cons (Form at op ts) (cons b rest)) c = (λ e. true≢false (sym e), λ h. absurd h)
  span_is (cons (Leaf v) (cons (Name at x) rest)) c = (λ e. true≢false (sym e), λ h. absurd h)
  span_is (cons (Leaf v) (cons (Form at op ts) rest)) c = (λ e. true≢false (sym e), λ h. absurd h)
  span_is (cons (Leaf v) (cons (Leaf w) nil)) c = (λ e. between_two v w c (meant_held helds (meant_in k v)) (meant_held helds (meant_in k w)) refl refl e, two_between v w c)
  span_is (cons (Leaf v) (cons (Leaf w) (cons d rest))) c = (λ e. true≢false (sym e), λ h. absurd h)

-- ---- sets become no categories

kept_category : (first h : Held) (c : ℕ) → IsKept first h → (h ≡ Category c) ↔ (first ≡ Category c)
kept_category Nothing h c kept = (λ e. sym kept ∙ e, λ e. kept ∙ e)
kept_category (Category p) h c kept = (λ e. sym kept ∙ e, λ e. kept ∙ e)
kept_category (Set set) h c kept = (λ e. absurd (let f = sym kept.1 ∙ e in cc), λ e. absurd cc)

pub still_hold : (k : Known) (xs : List Item) (row : List Symbol) (first helds : List Held) → ((d : ℕ) → IsKept (get_or first d Nothing) (get_or helds d Nothing)) → HoldCategories k xs row first → HoldCategories k xs row helds
still_hold k xs row first helds kept hold w c = (λ it. (same (meant_in k w)).1 ((hold w c).0 it), λ e. (hold w c).1 ((same (meant_in k w)).0 e)) where
  same : (r : Option ℕ) → (meant_held helds r ≡ Category c) ↔ (meant_held first r ≡ Category c)
  same None = (λ e. e, λ e. e)
  same (Some d) = kept_category (get_or first d Nothing) (get_or helds d Nothing) c (kept d)

-- what holds a set held one at first, and holds nothing then
kept_back : (first h : Held) (set : Categories) → IsKept first h → h ≡ Set set → (old : Categories) × (first ≡ Set old)
kept_back Nothing h set kept e = absurd (let f = sym kept ∙ e in cc)
kept_back (Category p) h set kept e = absurd (let f = sym kept ∙ e in cc)
kept_back (Set old) h set kept e = (old, refl)

module _ (es : List Entry) (standing : List (List ℕ)) (places : List ℕ) (d : ℕ) where
  begun_of_set : (h : Held) (old : Categories) → h ≡ Set old → IsBegun es standing places d h → is_set_at es d ≡ true
  begun_of_set Nothing old e is = absurd cc
  begun_of_set (Category c) old e is = absurd cc
  begun_of_set (Set set) old e is = is.0

  begun_empty : (h : Held) → is_set_at es d ≡ true → IsBegun es standing places d h → (c : ℕ) → is_held c h ≡ false
  begun_empty Nothing set is c = refl
  begun_empty (Category p) set is c = absurd (true≢false (sym set ∙ is.0))
  begun_empty (Set s) set is c = is.2 c

-- ---- the values

-- the number of the set with this symbol
abbrev pub set_place : Known → Symbol → Option ℕ
set_place k a = place_where (λ (e : Entry). is_set e && is_same_symbol (symbol_of k.lookup.namespaces.now e) a) k.lookup.names.now

-- the rank of a set is that of its number
abbrev pub rank_by : Known → List ℕ → Symbol → ℕ
rank_by k ranks a = option_map_or (λ d. get_or ranks d 0) (set_place k a) 0

-- what is held, of the categories that there may be
abbrev pub holds_as : List Held → Option ℕ → ℕ → Bool
holds_as helds r c = ltb c 1024 && is_held c (meant_held helds r)

abbrev pub values_of : Known → List Held → Values
values_of k helds = record { has = λ w c. holds_as helds (meant_in k w) c; span = λ ts c. in_span helds (meant_in k) c ts; sets = λ a c. holds_as helds (set_place k a) c }

module _ (k : Known) (i : Kept) (sections : Kind → List (List ℕ)) (known : IsKnown k (items_in i) sections) (law : MeansWhatItNames) (edges : List Edge) (lead : (a b : ℕ) → Leads edges a b ↔ IsSetEdgeIn k (items_in i) a b)
    (row : List Symbol) (few : length row ≤ 1024) (standing : List (List ℕ)) (places : List ℕ) (first : List Held) (begun : AreBegun k.lookup.names.now standing places first) (hold_first : HoldCategories k (items_in i) row first)
    (all : List Definition) (defined : AreDefined k i (length (items_in i)) all) (helds : List Held) (made : AreMade k i (length row) first all helds) where
  abbrev pub xs : List Item
  xs = items_in i

  abbrev pub IsSetOf : ℕ → Symbol → Type 0
  IsSetOf d a = IsEntryAt k.lookup.namespaces.now k.lookup.names.now kinds.CategorySet d a

  abbrev pub v : Values
  v = values_of k helds

  hold : HoldCategories k xs row helds
  hold = still_hold k xs row first helds made.kept hold_first

  -- ---- numbers of sets

  place_set : (a : Symbol) (d : ℕ) → set_place k a ≡ Some d → IsSetOf d a
  place_set a d e =
      let (x, at, t) = place_is (λ (e : Entry). is_set e && is_same_symbol (symbol_of k.lookup.namespaces.now e) a) k.lookup.names.now d e in
      let p = both (is_set x) (is_same_symbol (symbol_of k.lookup.namespaces.now x) a) t in
      record { entry = x; at = at; of_kind = is_set_of x.kind p.0; symbol = same_symbol (symbol_of k.lookup.namespaces.now x) a p.1 }

  set_has_place : (a : Symbol) (d : ℕ) → IsSetOf d a → set_place k a ≡ Some d
  set_has_place a d is = by (set_place k a) refl where
    by : (r : Option ℕ) → set_place k a ≡ r → set_place k a ≡ Some d
    by None e =
        absurd (none_where (λ (x : Entry). is_set x && is_same_symbol (symbol_of k.lookup.namespaces.now x) a) k.lookup.names.now e d is.entry is.at
        (pair (is_set is.entry) (is_same_symbol (symbol_of k.lookup.namespaces.now is.entry) a) (ap is_set_kind is.of_kind) (ap (λ z. is_same_symbol z a) is.symbol ∙ same_self a)))
    by (Some b) e = e ∙ ap Some (one_place k xs sections known law edges lead b d a (place_set a b e) is)

  -- ---- ranks

  rank_is : (ranks : List ℕ) (d : ℕ) (a : Symbol) → IsSetOf d a → rank_by k ranks a ≡ get_or ranks d 0
  rank_is ranks d a is = ap (λ r. option_map_or (λ b. get_or ranks b 0) r 0) (set_has_place a d is)

  -- they fall, as those of numbers do along edges
  ranked : (ranks : List ℕ) → Fall edges ranks → IsRanked xs (enabled_in k) (rank_by k ranks)
  ranked ranks fall a b n =
      let (d, entry) = its_entry xs (enabled_in k) kinds.CategorySet n.item n.at n.name n.declares k.lookup.namespaces.now k.lookup.names.now known.entries in
      let (e, means, at_e, of_sets) = named_set k xs sections known law edges lead n.word b n.names_b in
      let declares : DeclaresSet k xs n.item d = record { at = n.at; name = n.name; declares = n.declares; entry = entry } in
      let falls = fall d e ((lead d e).1 (n.item, n.declares.is_item, record { declares = declares; word = n.word; within = n.within; means = means; of_sets = of_sets })) in
      let high = rank_is ranks d a (subst (IsSetOf d) n.is_a entry) in
      let low = rank_is ranks e b at_e in
      omega (arith, falls, high, low)

  -- ---- expressions

  -- below 1,024 the values are those by which expressions are evaluated
  pub value_as : (e : Term ScopedWord) (c : ℕ) → c < 1024 → in_term helds (length row) (meant_in k) c e ≡ in_value row v e c
  value_as e c l =
      same_in (λ w. Unit {0}) (λ w. is_held c (meant_held helds (meant_in k w))) (λ w. v.has w c) (ltb c (length row)) (in_span helds (meant_in k) c) (λ ts. v.span ts c)
      (λ w h. ap (λ b. b && is_held c (meant_held helds (meant_in k w))) (sym (less_tells c 1024 l))) (λ ts h. refl) e (λ w h. tt)

  -- the categories that there may be are below 1,024
  category_below : (w : ScopedWord) (c : ℕ) → IsCategoryAt xs (enabled_in k) row w c → c < 1024
  category_below w c it = let l = in_range row c it.symbol it.at in omega (arith, l, few)

  span_below : (ts : Terms ScopedWord) (c : ℕ) → IsInSpan xs (enabled_in k) row ts c → c < 1024
  span_below nil c h = absurd h
  span_below (cons a nil) c h = absurd h
  span_below (cons (Name at x) (cons b rest)) c h = absurd h
  span_below (cons (Form at op ts) (cons b rest)) c h = absurd h
  span_below (cons (Leaf u) (cons (Name at x) rest)) c h = absurd h
  span_below (cons (Leaf u) (cons (Form at op ts) rest)) c h = absurd h
  span_below (cons (Leaf u) (cons (Leaf w) nil)) c h = let l = category_below w h.high h.to in let m = h.below in omega (arith, l, m)
  span_below (cons (Leaf u) (cons (Leaf w) (cons d rest))) c h = absurd h

  no_span : (ts : Terms ScopedWord) (c : ℕ) → 1024 ≤ c → v.span ts c ≡ false
  no_span ts c over = elim (cases_Bool (v.span ts c)) [
    | inl t ↦ absurd (let l = span_below ts c ((span_is k xs row helds hold ts c).0 t) in omega (arith, l, over))
    | inr f ↦ f
  ]

  pub value_below : (e : Term ScopedWord) (c : ℕ) → in_value row v e c ≡ true → c < 1024
  value_below e c t = elim (cases_Bool (ltb c 1024)) [
    | inl l ↦ tells_less c 1024 l
    | inr f ↦
        let over : 1024 ≤ c = above c f in
        let none : ltb c (length row) ≡ false = not_less c (length row) (omega (arith, over, few)) in
        absurd (true≢false (sym t ∙ ap (λ b. is_in (λ w. v.has w c) b (λ ts. v.span ts c) e) none
        ∙ in_none (λ w. v.has w c) (λ ts. v.span ts c) (λ w. ap (λ b. b && is_held c (meant_held helds (meant_in k w))) f) (λ ts. no_span ts c over) e))
  ] where
    above : (c : ℕ) → ltb c 1024 ≡ false → 1024 ≤ c
    above c f = grind (arith, nat_tests)

  -- ---- sets

  -- what a set holds is what its declarations say
  set_holds : (d : ℕ) (a : Symbol) → IsSetOf d a → (c : ℕ) → c < 1024 → held_at helds d c ≡ list_any (is_made_by k i helds (length row) d c) all
  set_holds d a is c l =
      made.made d c l
      ∙ ap (λ b. b || list_any (is_made_by k i helds (length row) d c) all)
      (begun_empty k.lookup.names.now standing places d (get_or first d Nothing) (ap (λ o. option_map_or is_set o false) is.at ∙ ap is_set_kind is.of_kind) (begun.each d (in_range k.lookup.names.now d is.entry is.at)) c)

  -- a declaration that begins with the name and has a second term says an expression
  says_expression : (c : ℕ) (at : Spot) (name : List ℕ) (args rest : Terms ScopedWord) → args ≡ cons (Name at name) rest → in_second helds (length row) (meant_in k) c args ≡ true
      → (e : Term ScopedWord) × (args ≡ cons (Name at name) (cons e nil)) × (in_term helds (length row) (meant_in k) c e ≡ true)
  says_expression c at name args nil is t = absurd (true≢false (sym t ∙ ap (in_second helds (length row) (meant_in k) c) is))
  says_expression c at name args (cons e nil) is t = (e, is, sym (ap (in_second helds (length row) (meant_in k) c) is) ∙ t)
  says_expression c at name args (cons e (cons f rest)) is t = absurd (true≢false (sym t ∙ ap (in_second helds (length row) (meant_in k) c) is))

  given_by : (d : ℕ) (a : Symbol) → IsSetOf d a → (c : ℕ) → c < 1024 → list_any (is_made_by k i helds (length row) d c) all ≡ true → IsGiven xs (enabled_in k) row v a c
  given_by d a is c l t =
      let (x, is_x, made_x) = any_true (is_made_by k i helds (length row) d c) all t in
      let p = both (x.set == d) (says_of k i helds (length row) c x) made_x in
      let declares = (defined.each x is_x).1.declares in
      let same : x.set ≡ d = same_number x.set d p.0 in
      let (e, says, has) = says_expression c declares.at declares.name (item_at i x.at).args declares.declares.rest declares.declares.says p.1 in
      record {
        item = item_at i x.at;
        at = declares.at;
        name = declares.name;
        declares = declares.declares;
        is_a = one_symbol k xs sections known law edges lead d (symbol_under (item_at i x.at) declares.name) a (subst (λ z. IsSetOf z (symbol_under (item_at i x.at) declares.name)) same declares.entry) is;
        expression = e;
        says = says;
        value = sym (value_as e c l) ∙ has;
      }

  by_given : (a : Symbol) (c : ℕ) (g : IsGiven xs (enabled_in k) row v a c) → (d : ℕ) × IsSetOf d a × (list_any (is_made_by k i helds (length row) d c) all ≡ true)
  by_given a c g =
      let (d, entry) = its_entry xs (enabled_in k) kinds.CategorySet g.item g.at g.name g.declares k.lookup.namespaces.now k.lookup.names.now known.entries in
      let l = value_below g.expression c g.value in
      let (at, within, there) = get_at xs g.item g.declares.is_item in
      let same : g.item ≡ item_at i at = same_Some g.item (item_at i at) (sym there ∙ item_there i at within) in
      let x : Definition = record { set = d; at = at } in
      let is_x : Contains all x = defined.every at d within (subst (λ y. DeclaresSet k xs y d) same (record { at = g.at; name = g.name; declares = g.declares; entry = entry })) in
      let says : says_of k i helds (length row) c x ≡ true =
      ap (in_second helds (length row) (meant_in k) c) (ap (λ (y : Item). y.args) (sym same) ∙ g.says) ∙ value_as g.expression c l ∙ g.value in (
        d,
        subst (IsSetOf d) g.is_a entry,
        any_from (is_made_by k i helds (length row) d c) all x is_x (pair (d == d) (says_of k i helds (length row) c x) (number_same d d refl) says),
      )

  sets_are : (a : Symbol) (c : ℕ) → (v.sets a c ≡ true) ↔ IsGiven xs (enabled_in k) row v a c
  sets_are a c = (λ t. there (set_place k a) refl t, back) where
    there : (r : Option ℕ) → set_place k a ≡ r → holds_as helds r c ≡ true → IsGiven xs (enabled_in k) row v a c
    there None e t = absurd (true≢false (sym ((both (ltb c 1024) false t).1)))
    there (Some d) e t =
        let p = both (ltb c 1024) (held_at helds d c) t in
        let is = place_set a d e in
        let l = tells_less c 1024 p.0 in
        given_by d a is c l (sym (set_holds d a is c l) ∙ p.1)

    back : IsGiven xs (enabled_in k) row v a c → v.sets a c ≡ true
    back g =
        let (d, is, t) = by_given a c g in
        let l = value_below g.expression c g.value in
        ap (λ r. holds_as helds r c) (set_has_place a d is) ∙ pair (ltb c 1024) (held_at helds d c) (less_tells c 1024 l) (set_holds d a is c l ∙ t)

  -- ---- words

  word_there : (w : ScopedWord) (c : ℕ) (h : Held) → meant_held helds (meant_in k w) ≡ h → c < 1024 → is_held c h ≡ true → IsCategoryAt xs (enabled_in k) row w c ⊎ NamesSetWith xs (enabled_in k) row v w c
  word_there w c Nothing e l t = absurd (true≢false (sym t))
  word_there w c (Category p) e l t = inl ((hold w c).1 (e ∙ ap Category (same_number p c t)))
  word_there w c (Set set) e l t = inr (by (meant_in k w) refl e) where
    by : (r : Option ℕ) → meant_in k w ≡ r → meant_held helds r ≡ Set set → NamesSetWith xs (enabled_in k) row v w c
    by None means h = absurd (let f : Nothing ≡ Set set = h in cc)
    by (Some d) means h =
        let (old, at_first) = kept_back (get_or first d Nothing) (get_or helds d Nothing) set (made.kept d) h in
        let within : d < length k.lookup.names.now = subst (λ n. d < n) begun.len (first_within first d old at_first) in
        let of_sets = begun_of_set k.lookup.names.now standing places d (get_or first d Nothing) old at_first (begun.each d within) in
        let (a, is, named) = means_set k xs sections known law edges lead w d means of_sets in
        record {
          set = a;
          names_set = named;
          has = ap (λ r. holds_as helds r c) (set_has_place a d is) ∙ pair (ltb c 1024) (held_at helds d c) (less_tells c 1024 l) (ap (is_held c) h ∙ t);
        }

  words_are : (w : ScopedWord) (c : ℕ) → (v.has w c ≡ true) ↔ (IsCategoryAt xs (enabled_in k) row w c ⊎ NamesSetWith xs (enabled_in k) row v w c)
  words_are w c = (
    λ t. let p = both (ltb c 1024) (is_held c (meant_held helds (meant_in k w))) t in word_there w c (meant_held helds (meant_in k w)) refl (tells_less c 1024 p.0) p.1,
    λ s. elim s [
      | inl it ↦
          pair (ltb c 1024) (is_held c (meant_held helds (meant_in k w))) (less_tells c 1024 (category_below w c it)) (ap (is_held c) ((hold w c).0 it) ∙ number_same c c refl)
      | inr n ↦
          let (d, means, is, of_sets) = named_set k xs sections known law edges lead w n.set n.names_set in
          ap (λ r. holds_as helds r c) (means ∙ sym (set_has_place n.set d is)) ∙ n.has
    ],
  )

  pub are_held : (ranks : List ℕ) → Fall edges ranks → All IsFew helds → HoldValues k xs row helds
  are_held ranks fall are_few = (
    v,
    record {
      are = record { words = words_are; spans = span_is k xs row helds hold; sets = sets_are };
      rank = rank_by k ranks;
      ranked = ranked ranks fall;
      count = few;
      few = are_few;
      categories = hold;
      has = λ w c l. ap (λ b. b && is_held c (meant_held helds (meant_in k w))) (sym (less_tells c 1024 l));
    },
  )

-- ---- by what is held

same_bools : (a b : Bool) → (a ≡ true → b ≡ true) → (b ≡ true → a ≡ true) → a ≡ b
same_bools true b f g = sym (f refl)
same_bools false true f g = g refl
same_bools false false f g = refl

-- expressions are evaluated to what they have in the values
pub evaluated : (k : Known) (xs : List Item) (row : List Symbol) (helds : List Held) (v : Values) → AreHeld k xs row helds v → (e : Term ScopedWord) (c : ℕ) → c < 1024 → in_term helds (length row) (meant_in k) c e ≡ in_value row v e c
evaluated k xs row helds v held e c l =
    same_in (λ w. Unit {0}) (λ w. is_held c (meant_held helds (meant_in k w))) (λ w. v.has w c) (ltb c (length row)) (in_span helds (meant_in k) c) (λ ts. v.span ts c) (λ w h. held.has w c l)
    (λ ts h.
    same_bools (in_span helds (meant_in k) c ts) (v.span ts c)
    (λ t. (held.are.spans ts c).1 ((span_is k xs row helds held.categories ts c).0 t))
    (λ t. (span_is k xs row helds held.categories ts c).1 ((held.are.spans ts c).0 t)))
    e (λ w h. tt)
