-- Made sets stand for a family that has just the members that statements give.
use Rattle.std.proofs.Common.{◌≡◌, ◌⊎◌, ℕ, zero, suc, ◌<◌, Bool, true, false, ◌&&◌, ◌||◌, ◌==◌, if◌then◌else◌, List, [], get_or, length, map, refl, sym, ◌∙◌, ap, subst, inl, inr, arith}
use Rattle.std.specs.Prelude.{Contains, Option, Some, None, slice_get}
use Rattle.std.specs.List.{list_any}
use Rattle.std.specs.Option.{option_map_or}
use Rattle.std.proofs.lemmas.Bool.{cases_Bool, true≢false}
use Rattle.std.proofs.lemmas.Bool.Decides.{nat_tests}
use Rattle.std.proofs.lemmas.Cmp.{nat_list_cmp_total}
use Rattle.std.proofs.lemmas.Map.Lookups.{exact_bytes}
use Rattle.std.proofs.lemmas.Option.{same_Some}
use Rattle.cil_base.proofs.SearchLemmas.{one_number}
use Rattle.cil_base.specs.Among.{among}
use Rattle.cil_base.specs.Lists.{text_cmp}
use Rattle.cil_base.specs.MadeLists.{contains_map}
use Rattle.cil_base.specs.Places.{in_range, some_at}
use Rattle.cil_base.specs.Searches.{any_true, or_second, same_truth}
use Rattle.cil_faults.specs.Namespaces.{Namespace}
use Rattle.cil_syntax.specs.declared.kind.Kind.{Kind}
use Rattle.cil_syntax.specs.declared.term.Word.{Word}
use Rattle.cil_syntax.specs.Forms.{word_and_term}
use Rattle.cil_syntax.specs.Kinds.{is_wanted}
use Rattle.cil_syntax.specs.Scopes.{ScopedWord}
use Rattle.cil_syntax.specs.Terms.{Term}
use Rattle.cil_syntax.proofs.KindLemmas.{one_kind, same_kind}
use Rattle.cil_known.specs.macros.Item.{Item, is_enabled, words_in}
use Rattle.cil_known.specs.macros.Items.{Kept, items_in}
use Rattle.cil_known.specs.names.Declarations.{Declared, Symbol, name_of}
use Rattle.cil_known.specs.names.Entries.{is_declared_in}
use Rattle.cil_known.specs.Family.{IsRanked, Solves, gives, holds, in_value, is_given, is_giving, no_range}
use Rattle.cil_known.specs.Known.{enabled_in}
use Rattle.cil_known.specs.names.Laws.{MeansWhatItNames}
use Rattle.cil_known.specs.Numbers.{AreApart, has_section}
use Rattle.cil_known.specs.names.Symbols.{symbol_of}
use Rattle.cil_known.specs.names.Resolves.{found_in}
use Rattle.cil_known.specs.Spaces.{SpaceOf, any_sets, is_declared, is_same_symbol, names, names_set, symbol_in}
use Rattle.cil_known.specs.names.Entry.{Entry}
use Rattle.cil_known.specs.declared.known.Known.{Known}
use Rattle.cil_known.proofs.names_lemmas.CandidateLemmas.{place_none, place_some}
use Rattle.cil_known.proofs.names_lemmas.DeclareDecided.{symbol_by}
use Rattle.cil_known.proofs.MemberLemmas.{declared_is}
use Rattle.cil_attrs.specs.declared.evaluator.Held.{Held}
use Rattle.cil_attrs.specs.declared.evaluator.Held.TheVariants as are_held
use Rattle.cil_attrs.specs.declared.giver.SpaceKinds.{SpaceKinds}
use Rattle.cil_attrs.specs.declared.making.Given.{Given}
use Rattle.cil_attrs.specs.Begun.{begun_as, is_sets_kind}
use Rattle.cil_attrs.specs.Evaluated.{has_meant, in_term, is_held}
use Rattle.cil_attrs.specs.Found.{family_of, is_item_entry, is_set_entry, item_place, rank_by, set_place}
use Rattle.cil_attrs.specs.Givers.{AreGifts}
use Rattle.cil_attrs.specs.Holding.{HoldsAs, IsItem, is_kind, stands}
use Rattle.cil_attrs.specs.Made.{held_at, is_made_by, said}
use Rattle.cil_attrs.specs.Members.{AreBegun, AreMade, AreMembers, IsIn, meaning_there}
use Rattle.cil_attrs.specs.Order.{FallFor, Names, is_set_at}
use Rattle.cil_attrs.specs.Order as order
use Rattle.cil_attrs.specs.Plain.{ArePlain}
use Rattle.cil_attrs.proofs.CircularLemmas.{IsSetOf, names_found}
use Rattle.cil_attrs.proofs.EvaluatedLemmas.{among_is}
use Rattle.cil_attrs.proofs.HoldingLemmas.{both, pair, same_symbol}
use Rattle.cil_attrs.proofs.MembersLemmas.{gifts_mean, gifts_sets, kinds_of, same_self}
use Rattle.cil_attrs.proofs.SolvedLemmas.{made_solves}
use Rattle.cil_attrs.proofs.SpaceLemmas.{HasOneEntry}
use Rattle.cil_attrs.proofs.ValueWithinLemmas.{value_has}

same_number : (a b : ℕ) → (a == b) ≡ true → a ≡ b
same_number a b e = grind (arith, nat_tests)

number_same : (a b : ℕ) → a ≡ b → (a == b) ≡ true
number_same a b e = grind (arith, nat_tests)

or_first : (a b : Bool) → a ≡ true → (a || b) ≡ true
or_first true b e = refl
or_first false b e = absurd (let f : false ≡ true = e in cc)

either_of : (a b : Bool) → (a || b) ≡ true → (a ≡ true) ⊎ (b ≡ true)
either_of true b e = inl refl
either_of false b e = inr e

or_none : (a b : Bool) → b ≡ false → (a || b) ≡ a
or_none true b e = refl
or_none false b e = e

never_any : {X : Type 0} (o : Option X) → option_map_or (λ (x : X). false) o false ≡ false
never_any None = refl
never_any (Some x) = refl

held_range : (hs : List Held) (d v : ℕ) → held_at hs d v ≡ true → d < length hs
held_range hs d v t = by (slice_get hs d) refl t
  where
    by : (o : Option Held) → slice_get hs d ≡ o → option_map_or (is_held v) o false ≡ true → d < length hs
    by None at u = absurd (let f : false ≡ true = u in cc)
    by (Some h) at u = in_range hs d h at

-- ---- what holds a name at first

begun_item : (r : SpaceKinds) (s : ℕ → Bool) (numbers : List ℕ) (d : ℕ) (e : Entry) → is_kind e.kind r.item ≡ true → is_declared_in s e ≡ true → begun_as r s numbers d e ≡ are_held.Item (get_or numbers d 0)
begun_item r s numbers d e t live =
    ap (λ b. if b && is_declared_in s e then are_held.Item (get_or numbers d 0) else (if is_sets_kind r e.kind then are_held.Set [] else are_held.Nothing)) t
    ∙ ap (λ b. if b then are_held.Item (get_or numbers d 0) else (if is_sets_kind r e.kind then are_held.Set [] else are_held.Nothing)) live

begun_nothing : (r : SpaceKinds) (s : ℕ → Bool) (numbers : List ℕ) (d : ℕ) (e : Entry) → is_kind e.kind r.item ≡ false → is_sets_kind r e.kind ≡ false → begun_as r s numbers d e ≡ are_held.Nothing
begun_nothing r s numbers d e f g =
    ap (λ b. if b && is_declared_in s e then are_held.Item (get_or numbers d 0) else (if is_sets_kind r e.kind then are_held.Set [] else are_held.Nothing)) f
    ∙ ap (λ b. if b then are_held.Set [] else are_held.Nothing) g

-- it holds a number only if it is a declared item
begun_holds : (r : SpaceKinds) (s : ℕ → Bool) (numbers : List ℕ) (d v : ℕ) (e : Entry) → is_held v (begun_as r s numbers d e) ≡ true → (is_kind e.kind r.item ≡ true) × (is_declared_in s e ≡ true) × (get_or numbers d 0 ≡ v)
begun_holds r s numbers d v e t = by (is_kind e.kind r.item) (is_declared_in s e) (is_sets_kind r e.kind) refl refl t
  where
    by : (a b c : Bool) → is_kind e.kind r.item ≡ a → is_declared_in s e ≡ b → is_held v (if a && b then are_held.Item (get_or numbers d 0) else (if c then are_held.Set [] else are_held.Nothing)) ≡ true
        → (is_kind e.kind r.item ≡ true) × (is_declared_in s e ≡ true) × (get_or numbers d 0 ≡ v)
    by true true c p q u = (p, q, same_number (get_or numbers d 0) v u)
    by true false true p q u = absurd (let f : false ≡ true = u in cc)
    by true false false p q u = absurd (let f : false ≡ true = u in cc)
    by false b true p q u = absurd (let f : false ≡ true = u in cc)
    by false b false p q u = absurd (let f : false ≡ true = u in cc)

module _ (k : Known) (i : Kept) (r : SpaceKinds) (names : List (List ℕ)) (sections : Kind → List (List ℕ)) (which : SpaceOf) (policy : IsIn k i r names sections which) (apart : is_sets_kind r r.item ≡ false)
    (law : MeansWhatItNames) (first : List Held) (are : AreBegun k i r first) (givens : List Given) (gifts : AreGifts k (items_in i) which i (items_in i) givens) (plain : ArePlain givens)
    (one : HasOneEntry k.lookup.namespaces.now k.lookup.names.now which) (section : has_section which.item ≡ true) (apart_numbers : AreApart k.lookup.names.now (enabled_in k) k.numbers.now)
    (held : List Held) (made : AreMade k i names first givens held) where
  abbrev symbol : Entry → Symbol
  symbol e = symbol_of k.lookup.namespaces.now e

  -- ---- places of symbols

  -- the entry of this number is that of the item, which is declared
  record IsItemAt (d : ℕ) (t : Symbol) : Type 0 where
    pub entry : Entry
    pub at : slice_get k.lookup.names.now d ≡ Some entry
    pub of_kind : entry.kind ≡ which.item
    pub live : is_declared_in (enabled_in k) entry ≡ true
    pub of_symbol : symbol entry ≡ t

  set_is : (d : ℕ) (a : Symbol) → IsSetOf k i r names sections which policy apart law first are givens gifts plain one d a → set_place k which a ≡ Some d
  set_is d a s =
      place_some (is_set_entry k which a) k.lookup.names.now d s.entry s.at (pair _ _ s.of_sets (ap (λ z. is_same_symbol z a) s.symbol ∙ same_self a))
      (λ m x at t.
      let p = both (any_sets which (λ j. is_kind x.kind j.kind)) (is_same_symbol (symbol x) a) t in
      one m d x s.entry at s.at (or_second (is_kind x.kind which.item) _ p.0) (or_second (is_kind s.entry.kind which.item) _ s.of_sets) (same_symbol (symbol x) a p.1 ∙ sym s.symbol))

  item_kind : (d : ℕ) (t : Symbol) (s : IsItemAt d t) → is_kind s.entry.kind which.item ≡ true
  item_kind d t s = same_kind s.entry.kind which.item s.of_kind

  item_is : (d : ℕ) (t : Symbol) → IsItemAt d t → item_place k which t ≡ Some d
  item_is d t s =
      place_some (is_item_entry k which t) k.lookup.names.now d s.entry s.at (pair _ _ (pair _ _ (item_kind d t s) s.live) (ap (λ z. is_same_symbol z t) s.of_symbol ∙ same_self t))
      (λ m x at u.
      let p = both (is_kind x.kind which.item && is_declared_in (enabled_in k) x) (is_same_symbol (symbol x) t) u in
      let q = both (is_kind x.kind which.item) (is_declared_in (enabled_in k) x) p.0 in
      one m d x s.entry at s.at (or_first (is_kind x.kind which.item) _ q.0) (or_first (is_kind s.entry.kind which.item) _ (item_kind d t s)) (same_symbol (symbol x) t p.1 ∙ sym s.of_symbol))

  -- the number of an item is that of its entry
  numbered_at : (d : ℕ) (t : Symbol) → IsItemAt d t → slice_get (sections which.item) (get_or k.numbers.now d 0) ≡ Some (name_of t)
  numbered_at d t s =
      ap (λ kind. slice_get (sections kind) (get_or k.numbers.now d 0)) (sym s.of_kind)
      ∙ policy.known.numbered.at d s.entry s.at (ap has_section s.of_kind ∙ section) s.live
      ∙ ap (λ z. Some (name_of z)) s.of_symbol

  declared_at : (t : Symbol) → Declared (items_in i) (enabled_in k) which.item t → (d : ℕ) × IsItemAt d t
  declared_at t st =
      let (d, f) = policy.known.entries.each (enabled_in k) st.declaration st.declares in
      (d, record { entry = f.entry; at = f.at; of_kind = f.of_kind ∙ st.of_kind; live = f.live; of_symbol = symbol_by (symbol f.entry) t (f.in_space ∙ st.in_space) (f.of_name ∙ st.of_name) })

  number_is : (t : Symbol) (n d : ℕ) → IsItem k (items_in i) sections which t n → IsItemAt d t → get_or k.numbers.now d 0 ≡ n
  number_is t n d is_item s =
      one_number (λ x. x) text_cmp nat_list_cmp_total exact_bytes (sections which.item) (get_or k.numbers.now d 0) n (name_of t) (name_of t) (policy.known.numbered.lists which.item section).rising
      (numbered_at d t s) is_item.numbered refl

  item_of : (t : Symbol) (n : ℕ) → IsItem k (items_in i) sections which t n → (d : ℕ) × IsItemAt d t × (get_or k.numbers.now d 0 ≡ n)
  item_of t n is_item = let (d, s) = declared_at t is_item.declared in (d, s, number_is t n d is_item s)

  number_of : (t : Symbol) → Declared (items_in i) (enabled_in k) which.item t → (n : ℕ) × IsItem k (items_in i) sections which t n
  number_of t st = let (d, s) = declared_at t st in (get_or k.numbers.now d 0, record { declared = st; numbered = numbered_at d t s })

  not_placed : (t : Symbol) → is_declared (items_in i) (enabled_in k) which.item t ≡ false → item_place k which t ≡ None
  not_placed t none =
      place_none (is_item_entry k which t) k.lookup.names.now (λ m x at u.
      let p = both (is_kind x.kind which.item && is_declared_in (enabled_in k) x) (is_same_symbol (symbol x) t) u in
      let q = both (is_kind x.kind which.item) (is_declared_in (enabled_in k) x) p.0 in
      let (d, is_d, of_kind, in_space, of_name) = policy.known.entries.only (enabled_in k) m x at q.1 in
      let same = same_symbol (symbol x) t p.1 in
      true≢false (sym ((declared_is (items_in i) (enabled_in k) which.item t).1 (record {
        declaration = d;
        declares = is_d;
        of_kind = of_kind ∙ one_kind x.kind which.item q.0;
        in_space = in_space ∙ ap (λ (z : Symbol). z.space) same;
        of_name = of_name ∙ ap (λ (z : Symbol). z.name) same;
      })) ∙ none))

  -- ---- what is held

  none_made : (d v : ℕ) → ((g : Given) → Contains givens g → g.set ≡ d → ⊥) → held_at held d v ≡ held_at first d v
  none_made d v none = made.made d v ∙ or_none (held_at first d v) (list_any (is_made_by (meaning_there k i) held made.all d v) givens) (by (list_any (is_made_by (meaning_there k i) held made.all d v) givens) refl)
    where
      by : (b : Bool) → list_any (is_made_by (meaning_there k i) held made.all d v) givens ≡ b → b ≡ false
      by false e = refl
      by true e =
          let (g, c, t) = any_true (is_made_by (meaning_there k i) held made.all d v) givens e in
          absurd (none g c (same_number g.set d (both (g.set == d) (in_term held made.all (meaning_there k i g) v (said g)) t).0))

  -- an entry that is no set is given nothing
  not_given : (d v : ℕ) (e : Entry) → slice_get k.lookup.names.now d ≡ Some e → any_sets which (λ j. is_kind e.kind j.kind) ≡ false → held_at held d v ≡ is_held v (begun_as r (enabled_in k) k.numbers.now d e)
  not_given d v e at none =
      none_made d v (λ g c same.
      let gift = (gifts.there g c).1 in
      let one_e : gift.set.entry ≡ e = same_Some gift.set.entry e (sym gift.set.at ∙ ap (slice_get k.lookup.names.now) same ∙ at) in
      true≢false (sym gift.set.of_kind ∙ ap (λ (z : Entry). any_sets which (λ j. is_kind z.kind j.kind)) one_e ∙ none))
      ∙ ap (λ h. option_map_or (is_held v) h false) (are d e at)

  -- ---- the family

  item_no_set : (e : Entry) → is_kind e.kind which.item ≡ true → any_sets which (λ j. is_kind e.kind j.kind) ≡ false
  item_no_set e t = kinds_of r which policy.is_space e.kind ∙ ap (is_sets_kind r) (one_kind e.kind which.item t ∙ policy.is_space.item) ∙ apart

  family_at : (d n : ℕ) (a t : Symbol) (m : ℕ) → set_place k which a ≡ Some d → item_place k which t ≡ Some m → get_or k.numbers.now m 0 ≡ n → family_of k which held a t ≡ held_at held d n
  unfolding family_of
  family_at d n a t m at_a at_t number =
      ap (λ o. option_map_or (λ c. option_map_or (λ q. held_at held c (get_or k.numbers.now q 0)) (item_place k which t) false) o false) at_a
      ∙ ap (λ o. option_map_or (λ q. held_at held d (get_or k.numbers.now q 0)) o false) at_t
      ∙ ap (held_at held d) number

  family_none : (a t : Symbol) → item_place k which t ≡ None → family_of k which held a t ≡ false
  unfolding family_of
  family_none a t none =
      ap (λ o. option_map_or (λ d. option_map_or (λ q. held_at held d (get_or k.numbers.now q 0)) o false) (set_place k which a) false) none ∙ never_any (set_place k which a)

  module _ (d : ℕ) (e : Entry) (at : slice_get k.lookup.names.now d ≡ Some e) (live : is_declared_in (enabled_in k) e ≡ true) (t : Symbol) (n : ℕ) (is_item : IsItem k (items_in i) sections which t n) where
    stands_item : is_kind e.kind which.item ≡ true → held_at held d n ≡ stands k (items_in i) sections which (family_of k which held) e t
    stands_item of_item =
        not_given d n e at (item_no_set e of_item)
        ∙ ap (is_held n) (begun_item r (enabled_in k) k.numbers.now d e (ap (is_kind e.kind) (sym policy.is_space.item) ∙ of_item) live)
        ∙ same_truth (get_or k.numbers.now d 0 == n) (is_same_symbol (symbol e) t) there back
        ∙ sym (or_none (is_same_symbol (symbol e) t) (any_sets which (λ j. is_kind e.kind j.kind) && family_of k which held (symbol e) t) (ap (λ b. b && family_of k which held (symbol e) t) (item_no_set e of_item)))
        ∙ ap (λ b. (b && is_same_symbol (symbol e) t) || (any_sets which (λ j. is_kind e.kind j.kind) && family_of k which held (symbol e) t)) (sym of_item)
      where
        there : (get_or k.numbers.now d 0 == n) ≡ true → is_same_symbol (symbol e) t ≡ true
        there b =
            let (m, s, number) = item_of t n is_item in
            let same : d ≡ m = apart_numbers d m e s.entry at s.at (one_kind e.kind which.item of_item ∙ sym s.of_kind) (ap has_section (one_kind e.kind which.item of_item) ∙ section) live s.live (same_number (get_or k.numbers.now d 0) n b ∙ sym number) in
            let one_e : e ≡ s.entry = same_Some e s.entry (sym at ∙ ap (slice_get k.lookup.names.now) same ∙ s.at) in
            ap (λ z. is_same_symbol z t) (ap (λ z. symbol z) one_e ∙ s.of_symbol) ∙ same_self t

        back : is_same_symbol (symbol e) t ≡ true → (get_or k.numbers.now d 0 == n) ≡ true
        back b =
            number_same (get_or k.numbers.now d 0) n
            (number_is t n d is_item (record { entry = e; at = at; of_kind = one_kind e.kind which.item of_item; live = live; of_symbol = same_symbol (symbol e) t b }))

    stands_set : is_kind e.kind which.item ≡ false → any_sets which (λ j. is_kind e.kind j.kind) ≡ true → held_at held d n ≡ stands k (items_in i) sections which (family_of k which held) e t
    stands_set no_item of_sets =
        let (m, s, number) = item_of t n is_item in
        sym (family_at d n (symbol e) t m (set_is d (symbol e) (record { entry = e; at = at; of_sets = of_sets; symbol = refl })) (item_is m t s) number)
        ∙ ap (λ b. b && family_of k which held (symbol e) t) (sym of_sets)
        ∙ ap (λ b. (b && is_same_symbol (symbol e) t) || (any_sets which (λ j. is_kind e.kind j.kind) && family_of k which held (symbol e) t)) (sym no_item)

    stands_none : is_kind e.kind which.item ≡ false → any_sets which (λ j. is_kind e.kind j.kind) ≡ false → held_at held d n ≡ stands k (items_in i) sections which (family_of k which held) e t
    stands_none no_item no_sets =
        not_given d n e at no_sets
        ∙ ap (is_held n) (begun_nothing r (enabled_in k) k.numbers.now d e (ap (is_kind e.kind) (sym policy.is_space.item) ∙ no_item) (sym (kinds_of r which policy.is_space e.kind) ∙ no_sets))
        ∙ ap (λ b. b && family_of k which held (symbol e) t) (sym no_sets)
        ∙ ap (λ b. (b && is_same_symbol (symbol e) t) || (any_sets which (λ j. is_kind e.kind j.kind) && family_of k which held (symbol e) t)) (sym no_item)

  pub holds_family : (d : ℕ) → HoldsAs k (items_in i) sections which held (family_of k which held) d
  holds_family d e at live t n is_item = elim (cases_Bool (is_kind e.kind which.item)) [
    | inl h ↦ stands_item d e at live t n is_item h
    | inr f ↦ elim (cases_Bool (any_sets which (λ j. is_kind e.kind j.kind))) [
      | inl h ↦ stands_set d e at live t n is_item f h
      | inr g ↦ stands_none d e at live t n is_item f g
    ]
  ]

  -- ---- the equations

  module _ (a t : Symbol) (none : is_declared (items_in i) (enabled_in k) which.item t ≡ false) where
    nothing_held : (w : ScopedWord) → holds (items_in i) (enabled_in k) which no_range (family_of k which held) w t ≡ true → ⊥
    unfolding holds names
    nothing_held w h = elim (either_of _ _ h) [
      | inl n ↦
          let p = both (is_wanted w.sign which.item && is_declared (items_in i) (enabled_in k) which.item t) _ n in
          let q = both (is_wanted w.sign which.item) (is_declared (items_in i) (enabled_in k) which.item t) p.0 in
          true≢false (sym q.1 ∙ none)
      | inr s ↦ by (found_in (items_in i) (enabled_in k) w) s
    ]
      where
        by : (o : Option Namespace) → option_map_or (λ z. names_set (items_in i) (enabled_in k) which w (symbol_in w z) && family_of k which held (symbol_in w z) t) o false ≡ true → ⊥
        by None e = let f : false ≡ true = e in cc
        by (Some z) e =
            true≢false (sym (both (names_set (items_in i) (enabled_in k) which w (symbol_in w z)) (family_of k which held (symbol_in w z) t) e).1 ∙ family_none (symbol_in w z) t (not_placed t none))

    nothing_in : (e : Term ScopedWord) → in_value (items_in i) (enabled_in k) which no_range (family_of k which held) e t ≡ true → ⊥
    nothing_in e h = elim (value_has (λ w. holds (items_in i) (enabled_in k) which no_range (family_of k which held) w t) (is_declared (items_in i) (enabled_in k) which.item t) e h) [
      | inl d ↦ true≢false (sym d ∙ none)
      | inr q ↦ nothing_held q.0 q.2
    ]

    nothing_given : (x : Item) → gives (items_in i) (enabled_in k) which no_range (family_of k which held) a t x ≡ true → ⊥
    nothing_given x h = by (word_and_term x.args) (both (is_enabled (enabled_in k) x) _ h).1
      where
        by : (o : Option (ScopedWord × Term ScopedWord))
            → option_map_or (λ p. is_giving (items_in i) (enabled_in k) which no_range a x p.0 && in_value (items_in i) (enabled_in k) which no_range (family_of k which held) p.1 t) o false ≡ true → ⊥
        by None e = let f : false ≡ true = e in cc
        by (Some p) e =
            nothing_in p.1 (both (is_giving (items_in i) (enabled_in k) which no_range a x p.0) (in_value (items_in i) (enabled_in k) which no_range (family_of k which held) p.1 t) e).1

    none_given : family_of k which held a t ≡ is_given (items_in i) (enabled_in k) which no_range (family_of k which held) a t
    unfolding is_given
    none_given = family_none a t (not_placed t none) ∙ by (list_any (gives (items_in i) (enabled_in k) which no_range (family_of k which held) a t) (items_in i)) refl
      where
        by : (b : Bool) → list_any (gives (items_in i) (enabled_in k) which no_range (family_of k which held) a t) (items_in i) ≡ b → false ≡ b
        by false e = refl
        by true e = let (x, c, g) = any_true (gives (items_in i) (enabled_in k) which no_range (family_of k which held) a t) (items_in i) e in absurd (nothing_given x g)

  pub solves_family : Solves (items_in i) (enabled_in k) which no_range (family_of k which held)
  solves_family a t set = elim (cases_Bool (is_declared (items_in i) (enabled_in k) which.item t)) [
    | inl h ↦
        let (n, is_item) = number_of t ((declared_is (items_in i) (enabled_in k) which.item t).0 h) in
        made_solves k i r names sections which policy apart law first are givens gifts held made (family_of k which held) holds_family t n is_item a set
    | inr f ↦ none_given a t f
  ]

  -- ---- ranks

  module _ (ranks : List ℕ) (fall : FallFor first givens ranks) where
    rank_is : (d : ℕ) (a : Symbol) → IsSetOf k i r names sections which policy apart law first are givens gifts plain one d a → rank_by k which ranks a ≡ get_or ranks d 0
    unfolding rank_by
    rank_is d a s = ap (λ o. option_map_or (λ c. get_or ranks c 0) o 0) (set_is d a s)

    pub ranked_family : IsRanked (items_in i) (enabled_in k) which no_range (rank_by k which ranks)
    ranked_family a b u =
        let (d, c, s, t, n) = names_found k i r names sections which policy apart law first are givens gifts plain one a b u in
        let low = rank_is c b t in
        let high = rank_is d a s in
        let falls = fall d c n in
        omega (arith, low, high, falls)

    -- ---- numbers of items alone

    first_within : length first ≡ length k.lookup.names.now → (d v : ℕ) → held_at first d v ≡ true → v < length (sections which.item)
    first_within len d v h =
        let (e, at) = some_at k.lookup.names.now d (subst (λ n. d < n) len (held_range first d v h)) in
        let (of_item, live, number) = begun_holds r (enabled_in k) k.numbers.now d v e (sym (ap (λ o. option_map_or (is_held v) o false) (are d e at)) ∙ h) in
        let s : IsItemAt d (symbol e) = record { entry = e; at = at; of_kind = one_kind e.kind r.item of_item ∙ sym policy.is_space.item; live = live; of_symbol = refl } in
        subst (λ n. n < length (sections which.item)) number (in_range (sections which.item) (get_or k.numbers.now d 0) (name_of (symbol e)) (numbered_at d (symbol e) s))

    -- an entry that holds no set is given nothing
    no_set_given : (e v : ℕ) → is_set_at first e ≡ false → held_at held e v ≡ held_at first e v
    no_set_given e v none =
        none_made e v (λ g c same.
        let (members, at) = gifts_sets k i r which policy.is_space apart first are givens gifts g c in
        true≢false (sym (ap (λ h. option_map_or order.is_set h false) at) ∙ ap (is_set_at first) same ∙ none))

    module _ (len : length first ≡ length k.lookup.names.now) where
      -- what a word of an expression holds is in range, if what is lower is
      word_within : (n d v : ℕ) → get_or ranks d 0 < suc n → ((e : ℕ) → get_or ranks e 0 < n → held_at held e v ≡ true → v < length (sections which.item)) → (g : Given) → Contains givens g → g.set ≡ d → (w : Word)
          → Contains (words_in (said g)) w → (o : Option ℕ) → meaning_there k i g w ≡ o → has_meant held v o ≡ true → v < length (sections which.item)
      word_within n d v l lower g c same w is_w None means t = absurd (let f : false ≡ true = t in cc)
      word_within n d v l lower g c same w is_w (Some e) means t = elim (cases_Bool (is_set_at first e)) [
        | inl set ↦
            let mean = gifts_mean k i r which policy.is_space apart first are givens gifts plain g c in
            let word : Contains g.words.now (Some e) =
            subst (λ ws. Contains ws (Some e)) (sym mean) (subst (Contains (map (meaning_there k i g) (words_in (said g)))) means (contains_map (meaning_there k i g) (words_in (said g)) w is_w)) in
            let falls = fall d e (record { given = g; is_given = c; set = same; word = word; is_set = set }) in
            lower e (omega (arith, falls, l)) t
        | inr none ↦ first_within len e v (sym (no_set_given e v none) ∙ t)
      ]

      within_below : (n d v : ℕ) → get_or ranks d 0 < n → held_at held d v ≡ true → v < length (sections which.item)
      within_below zero d v l h = absurd (omega (arith, l))
      within_below (suc n) d v l h = elim (either_of (held_at first d v) (list_any (is_made_by (meaning_there k i) held made.all d v) givens) (sym (made.made d v) ∙ h)) [
        | inl f ↦ first_within len d v f
        | inr a ↦
            let (g, c, t) = any_true (is_made_by (meaning_there k i) held made.all d v) givens a in
            let p = both (g.set == d) (in_term held made.all (meaning_there k i g) v (said g)) t in
            elim (value_has (λ w. has_meant held v (meaning_there k i g w)) (among made.all v) (said g) p.1) [
              | inl every ↦ subst (λ ns. v < length ns) (sym policy.named) ((made.are_all.members v).0 ((among_is made.all v).0 every))
              | inr q ↦ word_within n d v l (λ e m u. within_below n e v m u) g c (same_number g.set d p.0) q.0 q.1 (meaning_there k i g q.0) refl q.2
            ]
      ]

      pub are_members : AreMembers k (items_in i) sections which held
      are_members = record {
        family = family_of k which held;
        solves = solves_family;
        rank = rank_by k which ranks;
        ranked = ranked_family;
        holds = holds_family;
        within = λ d v. within_below (suc (get_or ranks d 0)) d v (omega arith);
      }
