-- What statements say of aliases is what they give in a name space of aliases alone.
use Rattle.std.proofs.Common.{◌≡◌, ◌⊎◌, ℕ, Bool, true, false, ◌&&◌, ◌||◌, if◌then◌else◌, List, [], ◌∷◌, get_or, refl, sym, ◌∙◌, ap, subst, inl, inr}
use Rattle.std.specs.Prelude.{Contains, Option, Some, None, slice_get}
use Rattle.std.specs.Option.{option_map_or}
use Rattle.std.proofs.lemmas.Bool.{true≢false}
use Rattle.std.proofs.lemmas.Option.{none-some, same_Some}
use Rattle.cil_base.specs.Lists.{contains_cases, contains_here, contains_none}
use Rattle.cil_base.specs.MadeLists.{contains_flat, from_flat}
use Rattle.cil_base.specs.Places.{get_contains}
use Rattle.cil_syntax.specs.declared.kind.Kind.{Kind}
use Rattle.cil_syntax.specs.declared.term.Word.{Word}
use Rattle.cil_syntax.specs.Scopes.{ScopedWord}
use Rattle.cil_syntax.specs.Terms.{Term, Leaf, Name, Form}
use Rattle.cil_syntax.proofs.KindLemmas.{one_kind}
use Rattle.cil_known.specs.macros.Item.{Item, replaced}
use Rattle.cil_known.specs.macros.Items.{Kept, item_at, items_in, word_at}
use Rattle.cil_known.proofs.macros_lemmas.FormLemmas.{leaf_across}
use Rattle.cil_known.proofs.macros_lemmas.ItemLemmas.{item_there}
use Rattle.cil_known.specs.names.Declarations.{Symbol}
use Rattle.cil_known.specs.names.Entries.{IsAnswer, IsNamed}
use Rattle.cil_known.specs.Known.{IsKnown, enabled_in, meant_by, meant_in}
use Rattle.cil_known.specs.names.Laws.{MeansWhatItNames}
use Rattle.cil_known.specs.names.Symbols.{symbol_of}
use Rattle.cil_known.specs.names.Resolves.{wanted_in}
use Rattle.cil_known.specs.Spaces.{Sets, SpaceOf, is_same_symbol, names}
use Rattle.cil_known.specs.names.Entry.{Entry}
use Rattle.cil_known.specs.declared.known.Known.{Known}
use Rattle.cil_attrs.specs.declared.making.Given.{Given}
use Rattle.cil_attrs.specs.declared.targets.Step.{Step}
use Rattle.cil_attrs.specs.Givers.{AreGifts, IsGift}
use Rattle.cil_attrs.specs.Holding.{is_kind}
use Rattle.cil_attrs.specs.Made.{said}
use Rattle.cil_attrs.specs.SetFaults.{TargetBy}
use Rattle.cil_attrs.specs.Targets.{AreSteps, IsStep, is_target, leaf_meaning, step_to, steps_by, steps_in, target_among, target_by}
use Rattle.cil_attrs.proofs.GiverLemmas.{names_nothing}
use Rattle.cil_attrs.proofs.HoldingLemmas.{both, kind_named, pair, same_symbol}
use Rattle.cil_attrs.proofs.MembersLemmas.{same_self}

either_of : (a b : Bool) → (a || b) ≡ true → (a ≡ true) ⊎ (b ≡ true)
either_of true b e = inl refl
either_of false b e = inr e

or_first : (a b : Bool) → a ≡ true → (a || b) ≡ true
or_first true b e = refl
or_first false b e = absurd (let f : false ≡ true = e in cc)

or_false : (b : Bool) → (b || false) ≡ true → b ≡ true
or_false true e = refl
or_false false e = e

and_either : (a b s : Bool) → ((a && s) || (b && s)) ≡ ((a || b) && s)
and_either true b true = refl
and_either true true false = refl
and_either true false false = refl
and_either false b s = refl

-- ---- the word behind

leaf_from : (f : Word → ScopedWord) (t : Term Word) (v : ScopedWord) → replaced (λ at. at) f t ≡ Leaf v → (w : Word) × (t ≡ Leaf w) × (f w ≡ v)
unfolding replaced
leaf_from f (Leaf w) v e = (w, refl, let h : Leaf (f w) ≡ Leaf v = e in cc)
leaf_from f (Name at bytes) v e = absurd cc
leaf_from f (Form at op parts) v e = absurd cc

leaf_wanted : (k : Known) (f : Word → ScopedWord) (w : Word) → meant_by k f (Leaf w) ≡ meant_in k (f w) ∷ []
unfolding replaced wanted_in
leaf_wanted k f w = refl

-- what a target is found by
pub record IsFoundBy (es : List Entry) (item alias : Kind) (g : Given) (t : ℕ) : Type 0 where
  pub word : Word
  pub is_word : said g ≡ Leaf word
  pub means : get_or g.words.now 0 None ≡ Some t
  pub entry : Entry
  pub at : slice_get es t ≡ Some entry
  pub of_kind : is_target item alias entry ≡ true

found_by : (es : List Entry) (item alias : Kind) (g : Given) (t : ℕ) → target_by es item alias g ≡ Some t → IsFoundBy es item alias g t
found_by es item alias g t e = by (said g) refl e
  where
    kept : (o : Option ℕ) (q : Option Entry) → (d : ℕ) → slice_get es d ≡ q → (w : Word) → said g ≡ Leaf w → get_or g.words.now 0 None ≡ Some d
        → (if option_map_or (is_target item alias) q false then Some d else None) ≡ Some t → IsFoundBy es item alias g t
    kept o None d at w is means h = absurd (none-some t h)
    kept o (Some x) d at w is means h = tested (is_target item alias x) refl h
      where
        tested : (b : Bool) → is_target item alias x ≡ b → (if b then Some d else None) ≡ Some t → IsFoundBy es item alias g t
        tested false f same = absurd (none-some t same)
        tested true s same = let one : d ≡ t = same_Some d t same in record {
          word = w;
          is_word = is;
          means = means ∙ ap Some one;
          entry = x;
          at = ap (slice_get es) (sym one) ∙ at;
          of_kind = s;
        }

    meant : (w : Word) → said g ≡ Leaf w → (o : Option ℕ) → get_or g.words.now 0 None ≡ o → target_among es item alias o ≡ Some t → IsFoundBy es item alias g t
    meant w is None means h = absurd (none-some t h)
    meant w is (Some d) means h = kept None (slice_get es d) d refl w is means h

    by : (u : Term Word) → said g ≡ u → target_among es item alias (leaf_meaning u g.words.now) ≡ Some t → IsFoundBy es item alias g t
    by (Leaf w) is h = meant w is (get_or g.words.now 0 None) refl h
    by (Name at bytes) is h = absurd (none-some t h)
    by (Form at op parts) is h = absurd (none-some t h)

-- ---- steps

module _ (k : Known) (i : Kept) (sections : Kind → List (List ℕ)) (known : IsKnown k (items_in i) sections) (law : MeansWhatItNames) (item : Kind) (j : Sets) where
  abbrev pub alone : SpaceOf
  alone = record { item = item; aliases = Some j; attributes = None }

  abbrev symbol : Entry → Symbol
  symbol e = symbol_of k.lookup.namespaces.now e

  abbrev names_it : ScopedWord → Symbol → Bool
  names_it w b = names (items_in i) (enabled_in k) item w b || names (items_in i) (enabled_in k) j.kind w b

  -- the word names a symbol just where its entry is of the kinds, and that of the symbol
  target_named : (w : ScopedWord) (t : ℕ) (named : IsNamed k.lookup.namespaces.now (items_in i) k.lookup.names.now (enabled_in k) w t) (b : Symbol)
      → names_it w b ≡ (is_target item j.kind named.entry && is_same_symbol (symbol named.entry) b)
  target_named w t named b =
      ap (λ z. z || names (items_in i) (enabled_in k) j.kind w b) (kind_named k (items_in i) sections known w t named item b)
      ∙ ap (λ z. (is_kind named.entry.kind item && is_same_symbol (symbol named.entry) b) || z) (kind_named k (items_in i) sections known w t named j.kind b)
      ∙ and_either (is_kind named.entry.kind item) (is_kind named.entry.kind j.kind) (is_same_symbol (symbol named.entry) b)

  answer : (w : ScopedWord) (o : Option ℕ) → meant_in k w ≡ o → IsAnswer k.lookup.namespaces.now (items_in i) k.lookup.names.now (enabled_in k) w o
  answer w o e =
      subst (IsAnswer k.lookup.namespaces.now (items_in i) k.lookup.names.now (enabled_in k) w) e
      (law k.lookup.namespaces.now (items_in i) k.lookup.names.now (enabled_in k) w known.namespaces known.entries)

  -- the entry of what a word names
  named_target : (w : ScopedWord) (b : Symbol) → names_it w b ≡ true → (t : ℕ) × (meant_in k w ≡ Some t) × (e : Entry) × (slice_get k.lookup.names.now t ≡ Some e) × (is_target item j.kind e ≡ true) × (symbol e ≡ b)
  named_target w b h = by (meant_in k w) refl
    where
      by : (o : Option ℕ) → meant_in k w ≡ o → (t : ℕ) × (meant_in k w ≡ Some t) × (e : Entry) × (slice_get k.lookup.names.now t ≡ Some e) × (is_target item j.kind e ≡ true) × (symbol e ≡ b)
      by None e =
          let none = answer w None e in
          absurd (true≢false (sym h ∙ ap (λ z. z || names (items_in i) (enabled_in k) j.kind w b) (names_nothing k (items_in i) w item b none) ∙ names_nothing k (items_in i) w j.kind b none))
      by (Some t) e =
          let named = answer w (Some t) e in
          let p = both (is_target item j.kind named.entry) (is_same_symbol (symbol named.entry) b) (sym (target_named w t named b) ∙ h) in
          (t, e, named.entry, named.at, p.0, same_symbol (symbol named.entry) b p.1)

  module _ (givens : List Given) (gifts : AreGifts k (items_in i) alone i (items_in i) givens) where
    -- the meaning of the word behind
    word_means : (x : Item) (f : Word → ScopedWord) (g : Given) → IsGift k (items_in i) alone x f g → (w : Word) → said g ≡ Leaf w → get_or g.words.now 0 None ≡ meant_in k (f w)
    word_means x f g gift w is = ap (λ ws. get_or ws 0 None) (gift.words ∙ ap (meant_by k f) is ∙ leaf_wanted k f w)

    module _ (g : Given) (c : Contains givens g) (t : ℕ) (found : IsFoundBy k.lookup.names.now item j.kind g t) where
      f : Word → ScopedWord
      f = word_at i g.at

      abbrev gift : IsGift k (items_in i) alone (item_at i g.at) (word_at i g.at) g
      gift = (gifts.there g c).1

      named : IsNamed k.lookup.namespaces.now (items_in i) k.lookup.names.now (enabled_in k) (word_at i g.at found.word) t
      named = answer (word_at i g.at found.word) (Some t) (sym (word_means (item_at i g.at) (word_at i g.at) g gift found.word found.is_word) ∙ found.means)

      entry_is : named.entry ≡ found.entry
      entry_is = same_Some named.entry found.entry (sym named.at ∙ found.at)

      alias_parts : (j.giving (item_at i g.at).keyword ≡ true) × (names (items_in i) (enabled_in k) j.kind gift.word (symbol gift.set.entry) ≡ true)
      alias_parts = both (j.giving (item_at i g.at).keyword) _ (or_false _ (gift.set.names_it (symbol gift.set.entry) ∙ same_self (symbol gift.set.entry)))

      abbrev its_step : Step
      its_step = record { alias = g.set; target = t; at = g.at }

      pub step_is : IsStep k i item j its_step
      step_is = record {
        alias = symbol gift.set.entry;
        target = symbol named.entry;
        within = (gifts.there g c).0;
        by = record {
          alias_word = gift.word;
          target_word = word_at i g.at found.word;
          is_item = get_contains (items_in i) g.at (item_at i g.at) (item_there i g.at (gifts.there g c).0);
          enabled = gift.enabled;
          giving = alias_parts.0;
          says = gift.says ∙ ap (λ u. Some (gift.word, u)) (ap (replaced (λ at. at) (word_at i g.at)) found.is_word ∙ leaf_across (word_at i g.at) found.word);
          names_alias = alias_parts.1;
          names_target = target_named (word_at i g.at found.word) t named (symbol named.entry) ∙ pair _ _ (ap (is_target item j.kind) entry_is ∙ found.of_kind) (same_self (symbol named.entry));
        };
        is_alias = record { entry = gift.set.entry; at = gift.set.at; of_kind = one_kind gift.set.entry.kind j.kind (or_false _ gift.set.of_kind); symbol = refl };
        target_kind = named.entry.kind;
        is_target = record { entry = named.entry; at = named.at; of_kind = refl; symbol = refl };
        in_space = elim (either_of (is_kind named.entry.kind item) (is_kind named.entry.kind j.kind) (ap (is_target item j.kind) entry_is ∙ found.of_kind)) [
          | inl h ↦ inl (one_kind named.entry.kind item h)
          | inr h ↦ inr (one_kind named.entry.kind j.kind h)
        ];
      }

    each_step : (s : Step) → Contains (steps_in k.lookup.names.now item j.kind givens) s → IsStep k i item j s
    each_step s c =
        let (g, is_g, of_g) = from_flat (steps_by k.lookup.names.now item j.kind) givens s c in
        by g is_g (target_by k.lookup.names.now item j.kind g) refl of_g
      where
        by : (g : Given) → Contains givens g → (o : Option ℕ) → target_by k.lookup.names.now item j.kind g ≡ o → Contains (step_to g o) s → IsStep k i item j s
        by g is_g None e d = absurd (contains_none s d)
        by g is_g (Some t) e d = elim (contains_cases s (record { alias = g.set; target = t; at = g.at }) [] d) [
          | inl same ↦ subst (IsStep k i item j) same (step_is g is_g t (found_by k.lookup.names.now item j.kind g t e))
          | inr none ↦ absurd (contains_none s none)
        ]

    all_steps : (x : Item) (alias target : Symbol) → TargetBy (items_in i) (enabled_in k) item j x alias target
        → (s : Step) × Contains (steps_in k.lookup.names.now item j.kind givens) s × (is : IsStep k i item j s) × (is.alias ≡ alias) × (is.target ≡ target) × (x ≡ item_at i s.at)
    unfolding step_is
    all_steps x alias target by = elim (gifts.all x by.is_item) [
      | inl none ↦ absurd (true≢false (sym (or_first _ false (pair _ _ by.giving by.names_alias)) ∙ none alias by.alias_word (Leaf by.target_word) by.enabled by.says))
      | inr q ↦ from q.0 q.1 q.2 q.3
    ]
      where
        from : (g : Given) → Contains givens g → IsGift k (items_in i) alone x (word_at i g.at) g → x ≡ item_at i g.at
            → (s : Step) × Contains (steps_in k.lookup.names.now item j.kind givens) s × (is : IsStep k i item j s) × (is.alias ≡ alias) × (is.target ≡ target) × (x ≡ item_at i s.at)
        from g c its_gift is_at =
            let f = word_at i g.at in
            let same = same_Some (its_gift.word, replaced (λ at. at) f (said g)) (by.alias_word, Leaf by.target_word) (sym its_gift.says ∙ by.says) in
            let (w, is_word, says_w) = leaf_from f (said g) by.target_word (ap (λ p. p.1) same) in
            let (t, means, e, at, of_kind, symbol_e) = named_target (f w) target (ap (λ v. names_it v target) says_w ∙ by.names_target) in
            let meaning : get_or g.words.now 0 None ≡ Some t = word_means x f g its_gift w is_word ∙ means in
            let found : IsFoundBy k.lookup.names.now item j.kind g t = record { word = w; is_word = is_word; means = meaning; entry = e; at = at; of_kind = of_kind } in
            let target_is : target_by k.lookup.names.now item j.kind g ≡ Some t =
            ap (λ u. target_among k.lookup.names.now item j.kind (leaf_meaning u g.words.now)) is_word
            ∙ ap (target_among k.lookup.names.now item j.kind) meaning
            ∙ ap (λ o. if option_map_or (is_target item j.kind) o false then Some t else None) at
            ∙ ap (λ b. if b then Some t else None) of_kind in
            let is = step_is g c t found in
            let gift_at = (gifts.there g c).1 in
            let set_same : gift_at.set.entry ≡ its_gift.set.entry = same_Some gift_at.set.entry its_gift.set.entry (sym gift_at.set.at ∙ its_gift.set.at) in
            let alias_is : symbol its_gift.set.entry ≡ alias =
            same_symbol (symbol its_gift.set.entry) alias
            (sym (its_gift.set.names_it alias) ∙ or_first _ false (pair _ _ by.giving (ap (λ v. names (items_in i) (enabled_in k) j.kind v alias) (ap (λ p. p.0) same) ∙ by.names_alias))) in (
              record { alias = g.set; target = t; at = g.at },
              contains_flat (steps_by k.lookup.names.now item j.kind) givens g (record { alias = g.set; target = t; at = g.at }) c
                  (subst (λ o. Contains (step_to g o) (record { alias = g.set; target = t; at = g.at })) (sym target_is) (contains_here (record { alias = g.set; target = t; at = g.at }) [])),
              is,
              ap (λ z. symbol z) set_same ∙ alias_is,
              ap (λ z. symbol z) (entry_is g c t found) ∙ symbol_e,
              is_at,
            )

    pub are_steps : (steps : List Step) → steps ≡ steps_in k.lookup.names.now item j.kind givens → AreSteps k i item j steps
    are_steps steps e = subst (AreSteps k i item j) (sym e) (record { each = each_step; all = all_steps })
