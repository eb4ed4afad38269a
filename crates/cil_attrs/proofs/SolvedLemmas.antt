-- The sets that are made solve the equations of their definition.
use Rattle.std.proofs.Common.{◌≡◌, ◌⊎◌, ℕ, Bool, true, false, ◌&&◌, ◌||◌, ◌==◌, List, refl, sym, ◌∙◌, ap, inl, inr, arith}
use Rattle.std.specs.Prelude.{Contains, Option, Some, None, slice_get}
use Rattle.std.specs.List.{list_any}
use Rattle.std.specs.Option.{option_map_or}
use Rattle.std.specs.Cmp.Lexicographic.{bytes_decides}
use Rattle.std.proofs.lemmas.Bool.{cases_Bool, true≢false}
use Rattle.std.proofs.lemmas.Bool.Decides.{nat_tests}
use Rattle.std.proofs.lemmas.Option.{same_Some}
use Rattle.cil_base.specs.Searches.{any_from, any_true, same_truth}
use Rattle.cil_syntax.specs.declared.kind.Kind.{Kind}
use Rattle.cil_syntax.specs.Forms.{word_and_term}
use Rattle.cil_syntax.specs.Scopes.{same_space}
use Rattle.cil_syntax.specs.Spelling.{same_bytes}
use Rattle.cil_syntax.proofs.DecidedEquality.{spaces_decide}
use Rattle.cil_syntax.proofs.KindLemmas.{one_kind, same_kind}
use Rattle.cil_known.specs.macros.Item.{Item, replaced}
use Rattle.cil_known.specs.macros.Items.{Kept, items_in, word_at}
use Rattle.cil_known.specs.names.Entry.{Entry}
use Rattle.cil_known.specs.declared.known.Known.{Known}
use Rattle.cil_known.specs.names.Declarations.{Symbol}
use Rattle.cil_known.specs.names.Entries.{is_declared_in}
use Rattle.cil_known.specs.Family.{Family, gives, in_value, is_given, is_giving, no_range}
use Rattle.cil_known.specs.Known.{enabled_in}
use Rattle.cil_known.specs.names.Laws.{MeansWhatItNames}
use Rattle.cil_known.specs.names.Symbols.{symbol_of}
use Rattle.cil_known.specs.Spaces.{Sets, SpaceOf, any_sets, is_declared, is_same_symbol, is_set}
use Rattle.cil_known.proofs.names_lemmas.DeclareDecided.{symbol_by}
use Rattle.cil_known.proofs.MemberLemmas.{declared_is}
use Rattle.cil_attrs.specs.declared.evaluator.Held.{Held}
use Rattle.cil_attrs.specs.declared.giver.SpaceKinds.{SpaceKinds}
use Rattle.cil_attrs.specs.declared.making.Given.{Given}
use Rattle.cil_attrs.specs.Begun.{is_sets_kind}
use Rattle.cil_attrs.specs.Evaluated.{in_term, is_held}
use Rattle.cil_attrs.specs.Givers.{AreGifts, IsGift}
use Rattle.cil_attrs.specs.Holding.{AreAll, HoldsAs, IsItem, is_kind}
use Rattle.cil_attrs.specs.Made.{held_at, is_made_by, said}
use Rattle.cil_attrs.specs.Members.{AreBegun, AreMade, IsIn, meaning_there}
use Rattle.cil_attrs.proofs.GiverLemmas.{gives_none}
use Rattle.cil_attrs.proofs.BegunLemmas.{every_item}
use Rattle.cil_attrs.proofs.HoldingLemmas.{both, pair, value_as_family}
use Rattle.cil_attrs.proofs.MembersLemmas.{begun_set, kinds_of, same_self}

same_number : (a b : ℕ) → (a == b) ≡ true → a ≡ b
same_number a b e = grind (arith, nat_tests)

number_itself : (a : ℕ) → (a == a) ≡ true
number_itself a = grind (arith, nat_tests)

pub same_is : (a b : Symbol) → is_same_symbol a b ≡ true → a ≡ b
same_is a b e =
    let p = both (same_space a.space b.space) (same_bytes a.name b.name) e in
    symbol_by a b ((spaces_decide a.space b.space).0 p.0) ((bytes_decides a.name b.name).0 p.1)

either_of : (a b : Bool) → (a || b) ≡ true → (a ≡ true) ⊎ (b ≡ true)
either_of true b e = inl refl
either_of false b e = inr e

or_first : (a b : Bool) → a ≡ true → (a || b) ≡ true
or_first true b e = refl
or_first false b e = absurd (let f : false ≡ true = e in cc)

or_second : (a b : Bool) → b ≡ true → (a || b) ≡ true
or_second true b e = refl
or_second false b e = e

-- the entry of a declared set
record SetEntry (k : Known) (which : SpaceOf) (a : Symbol) : Type 0 where
  pub place : ℕ
  pub entry : Entry
  pub at : slice_get k.lookup.names.now place ≡ Some entry
  pub live : is_declared_in (enabled_in k) entry ≡ true
  pub of_sets : any_sets which (λ j. is_kind entry.kind j.kind) ≡ true
  pub symbol : symbol_of k.lookup.namespaces.now entry ≡ a

module _ (k : Known) (i : Kept) (r : SpaceKinds) (names : List (List ℕ)) (sections : Kind → List (List ℕ)) (which : SpaceOf) (of_policy : IsIn k i r names sections which) (apart : is_sets_kind r r.item ≡ false)
    (law : MeansWhatItNames) (first : List Held) (are_begun : AreBegun k i r first) (givens : List Given) (gifts : AreGifts k (items_in i) which i (items_in i) givens) (held : List Held)
    (made : AreMade k i names first givens held) (m : Family) (as_family : (d : ℕ) → HoldsAs k (items_in i) sections which held m d) where
  every : AreAll k (items_in i) sections which made.all
  every = every_item k (items_in i) sections which names made.all of_policy.named made.are_all

  set_entry : (a : Symbol) → is_set (items_in i) (enabled_in k) which a ≡ true → SetEntry k which a
  set_entry a set = elim (either_of (option_map_or (λ (j : Sets). is_declared (items_in i) (enabled_in k) j.kind a) which.aliases false) (option_map_or (λ (j : Sets). is_declared (items_in i) (enabled_in k) j.kind a) which.attributes false) set) [
    | inl e ↦ one which.aliases e (λ kind t. or_first _ _ t)
    | inr e ↦ one which.attributes e (λ kind t. or_second _ _ t)
  ]
    where
      one : (o : Option Sets) → option_map_or (λ (j : Sets). is_declared (items_in i) (enabled_in k) j.kind a) o false ≡ true
          → ((kind : Kind) → option_map_or (λ (j : Sets). is_kind kind j.kind) o false ≡ true → any_sets which (λ j. is_kind kind j.kind) ≡ true) → SetEntry k which a
      one None e all = absurd (let f : false ≡ true = e in cc)
      one (Some j) e all =
          let st = (declared_is (items_in i) (enabled_in k) j.kind a).0 e in
          let (d, f) = of_policy.known.entries.each (enabled_in k) st.declaration st.declares in
          record {
            place = d;
            entry = f.entry;
            at = f.at;
            live = f.live;
            of_sets = all f.entry.kind (same_kind f.entry.kind j.kind (f.of_kind ∙ st.of_kind));
            symbol = symbol_by (symbol_of k.lookup.namespaces.now f.entry) a (f.in_space ∙ st.in_space) (f.of_name ∙ st.of_name);
          }

  module _ (t : Symbol) (n : ℕ) (is_item : IsItem k (items_in i) sections which t n) where
    module _ (d : ℕ) (e : Entry) (at : slice_get k.lookup.names.now d ≡ Some e) (live : is_declared_in (enabled_in k) e ≡ true) (sets : any_sets which (λ j. is_kind e.kind j.kind) ≡ true) where
      sets_here : is_sets_kind r e.kind ≡ true
      sets_here = sym (kinds_of r which of_policy.is_space e.kind) ∙ sets

      no_item : is_kind e.kind which.item ≡ false
      no_item = elim (cases_Bool (is_kind e.kind which.item)) [
        | inl h ↦ absurd (true≢false (sym sets_here ∙ ap (is_sets_kind r) (one_kind e.kind which.item h ∙ of_policy.is_space.item) ∙ apart))
        | inr f ↦ f
      ]

      -- a set holds what the family says
      of_set : held_at held d n ≡ m (symbol_of k.lookup.namespaces.now e) t
      of_set =
          as_family d e at live t n is_item
          ∙ ap (λ b. (b && is_same_symbol (symbol_of k.lookup.namespaces.now e) t) || (any_sets which (λ j. is_kind e.kind j.kind) && m (symbol_of k.lookup.namespaces.now e) t)) no_item
          ∙ ap (λ b. b && m (symbol_of k.lookup.namespaces.now e) t) sets

      first_none : held_at first d n ≡ false
      first_none = ap (λ h. option_map_or (is_held n) h false) (are_begun d e at ∙ ap Some (begun_set r (enabled_in k) k.numbers.now d e apart sets_here))

      made_is : held_at held d n ≡ list_any (is_made_by (meaning_there k i) held made.all d n) givens
      made_is = made.made d n ∙ ap (λ b. b || list_any (is_made_by (meaning_there k i) held made.all d n) givens) first_none

    module _ (g : Given) (x : Item) (gift : IsGift k (items_in i) which x (word_at i g.at) g) where
      value : in_term held made.all (meaning_there k i g) n (said g) ≡ in_value (items_in i) (enabled_in k) which no_range m (replaced (λ at. at) (word_at i g.at) (said g)) t
      value = value_as_family k (items_in i) sections of_policy.known law which m held made.all every (word_at i g.at) (said g) (λ w d c means. as_family d) t n is_item

      gives_is : (a : Symbol) → gives (items_in i) (enabled_in k) which no_range m a t x
          ≡ (is_same_symbol (symbol_of k.lookup.namespaces.now gift.set.entry) a && in_value (items_in i) (enabled_in k) which no_range m (replaced (λ at. at) (word_at i g.at) (said g)) t)
      gives_is a =
          ap (λ b. b && option_map_or (λ p. is_giving (items_in i) (enabled_in k) which no_range a x p.0 && in_value (items_in i) (enabled_in k) which no_range m p.1 t) (word_and_term x.args) false) gift.enabled
          ∙ ap (λ q. option_map_or (λ p. is_giving (items_in i) (enabled_in k) which no_range a x p.0 && in_value (items_in i) (enabled_in k) which no_range m p.1 t) q false) gift.says
          ∙ ap (λ b. b && in_value (items_in i) (enabled_in k) which no_range m (replaced (λ at. at) (word_at i g.at) (said g)) t) (gift.set.names_it a)

    -- what is made is what statements give
    pub made_solves : (a : Symbol) → is_set (items_in i) (enabled_in k) which a ≡ true → m a t ≡ is_given (items_in i) (enabled_in k) which no_range m a t
    unfolding is_given
    made_solves a set = same_truth (m a t) (list_any (gives (items_in i) (enabled_in k) which no_range m a t) (items_in i)) there back
      where
        there : m a t ≡ true → list_any (gives (items_in i) (enabled_in k) which no_range m a t) (items_in i) ≡ true
        there h =
            let it = set_entry a set in
            let holds = of_set it.place it.entry it.at it.live it.of_sets ∙ ap (λ u. m u t) it.symbol ∙ h in
            let (g, c, by) = any_true (is_made_by (meaning_there k i) held made.all it.place n) givens (sym (made_is it.place it.entry it.at it.live it.of_sets) ∙ holds) in
            let parts = both (g.set == it.place) (in_term held made.all (meaning_there k i g) n (said g)) by in
            let (x, cx, gift) = gifts.each g c in
            let one : gift.set.entry ≡ it.entry = same_Some gift.set.entry it.entry (sym gift.set.at ∙ ap (slice_get k.lookup.names.now) (same_number g.set it.place parts.0) ∙ it.at) in
            let symbol : symbol_of k.lookup.namespaces.now gift.set.entry ≡ a = ap (symbol_of k.lookup.namespaces.now) one ∙ it.symbol in
            any_from (gives (items_in i) (enabled_in k) which no_range m a t) (items_in i) x cx
            (gives_is g x gift a ∙ pair _ _ (ap (λ u. is_same_symbol u a) symbol ∙ same_self a) (sym (value g x gift) ∙ parts.1))

        back : list_any (gives (items_in i) (enabled_in k) which no_range m a t) (items_in i) ≡ true → m a t ≡ true
        back h =
            let (x, cx, gx) = any_true (gives (items_in i) (enabled_in k) which no_range m a t) (items_in i) h in
            elim (gifts.all x cx) [
              | inl none ↦ absurd (true≢false (sym gx ∙ gives_none k (items_in i) which x none m a t))
              | inr q ↦ by q.0 q.1 x q.2 gx
            ]
          where
            by : (g : Given) → Contains givens g → (x : Item) → IsGift k (items_in i) which x (word_at i g.at) g → gives (items_in i) (enabled_in k) which no_range m a t x ≡ true → m a t ≡ true
            by g c x gift gx =
                let parts = both (is_same_symbol (symbol_of k.lookup.namespaces.now gift.set.entry) a) (in_value (items_in i) (enabled_in k) which no_range m (replaced (λ at. at) (word_at i g.at) (said g)) t) (sym (gives_is g x gift a) ∙ gx) in
                let symbol = same_is (symbol_of k.lookup.namespaces.now gift.set.entry) a parts.0 in
                ap (λ u. m u t) (sym symbol)
                ∙ sym (of_set g.set gift.set.entry gift.set.at gift.set.live gift.set.of_kind)
                ∙ made_is g.set gift.set.entry gift.set.at gift.set.live gift.set.of_kind
                ∙ any_from (is_made_by (meaning_there k i) held made.all g.set n) givens g c (pair _ _ (number_itself g.set) (value g x gift ∙ parts.1))
